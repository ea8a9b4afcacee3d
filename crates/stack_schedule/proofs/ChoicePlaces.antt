-- The places of a choice that ends no path.
use Rattle.std.proofs.Common.{◌≡◌, Bool, true, false, List, [], ◌∷◌, length, map, Option, Some, None, IsSome, refl, ap, ◌∙◌, subst, arith}
use Rattle.std.specs.Prelude.{◌==◌, option_and_then}
use Rattle.std.proofs.lemmas.Bool.{false≢true, and_parts, eqb-true}
use Rattle.cash_base.specs.declared.place.Slot.{Slot}
use Rattle.slot_code.specs.declared.slots.SlotInstr.{SlotInstr}
use Rattle.slot_code.specs.Shape.{Place, Shape, Operand, shapes_of, all_shapes, only_if, with_seen, inside, same_slots, closed, returned, then_shape, block_shape, choice_shape}

same_is : (a b : List Slot) → same_slots a b ≡ true → a ≡ b
same_is [] [] h = refl
same_is [] (t ∷ ts) h = absurd (false≢true h)
same_is (s ∷ ss) [] h = absurd (false≢true h)
same_is (s ∷ ss) (t ∷ ts) h =
    let k = and_parts (s.0 == t.0) (same_slots ss ts) h in
    ap (λ n. record { 0 = n } ∷ ss) (eqb-true s.0 t.0 k.0) ∙ ap (λ l. t ∷ l) (same_is ss ts k.1)

none_stand : (operands : List Operand) → (length operands == 0) ≡ true → operands ≡ []
none_stand [] h = refl
none_stand (k ∷ operands) h = let e = eqb-true (length (k ∷ operands)) 0 h in absurd (omega (arith, e))

some_first : (o : Option Place) (f : Shape) → IsSome (option_and_then f o) → IsSome o
some_first (Some p) f h = refl
some_first None f h = h

-- a block ends with no operands, and with the names that were in scope before it
pub record Back (slots : List Slot) (q : Place) : Type 0 where
  pub operands : q.operands ≡ []
  pub slots_are : q.slots ≡ slots
  pub same : then_shape closed (returned slots) q ≡ Some q

back_of : (slots : List Slot) (q : Place) → IsSome (then_shape closed (returned slots) q) → Back slots q
back_of slots q h = by (length q.operands == 0) refl h
  where
    by : (b : Bool) → (length q.operands == 0) ≡ b → IsSome (option_and_then (returned slots) (only_if b q)) → Back slots q
    by false e k = absurd (false≢true k)
    by true e k = again (same_slots q.slots slots) refl k
      where
        again : (t : Bool) → same_slots q.slots slots ≡ t → IsSome (only_if t q) → Back slots q
        again false f k = absurd (false≢true k)
        again true f k = record {
          operands = none_stand q.operands e;
          slots_are = same_is q.slots slots f;
          same = ap (λ b. option_and_then (returned slots) (only_if b q)) e ∙ ap (λ b. only_if b q) f;
        }

module _ (ys ns : List SlotInstr) (p : Place) (well : IsSome (choice_shape (map shapes_of ys) (map shapes_of ns) p)) where
  abbrev pub after_yes : Option Place
  after_yes = all_shapes (map shapes_of ys) (inside p.slots p)

  abbrev pub behind : Place → Option Place
  behind q = option_and_then (λ (r : Place). Some (with_seen r.seen p)) (block_shape (map shapes_of ns) p.slots (with_seen q.seen p))

  yes_block : IsSome (block_shape (map shapes_of ys) p.slots p)
  yes_block = some_first (block_shape (map shapes_of ys) p.slots p) behind well

  pub yes_some : IsSome after_yes
  yes_some = some_first after_yes (then_shape closed (returned p.slots)) yes_block

  module _ (q : Place) (at_q : after_yes ≡ Some q) where
    pub yes_back : Back p.slots q
    yes_back = back_of p.slots q (subst (λ o. IsSome (option_and_then (then_shape closed (returned p.slots)) o)) at_q yes_block)

    yes_is : block_shape (map shapes_of ys) p.slots p ≡ Some q
    yes_is = ap (option_and_then (then_shape closed (returned p.slots))) at_q ∙ yes_back.same

    abbrev pub after_no : Option Place
    after_no = all_shapes (map shapes_of ns) (inside p.slots (with_seen q.seen p))

    no_behind : IsSome (behind q)
    no_behind = subst (λ o. IsSome (option_and_then behind o)) yes_is well

    no_block : IsSome (block_shape (map shapes_of ns) p.slots (with_seen q.seen p))
    no_block = some_first (block_shape (map shapes_of ns) p.slots (with_seen q.seen p)) (λ (r : Place). Some (with_seen r.seen p)) no_behind

    pub no_some : IsSome after_no
    no_some = some_first after_no (then_shape closed (returned p.slots)) no_block

    module _ (r : Place) (at_r : after_no ≡ Some r) where
      pub no_back : Back p.slots r
      no_back = back_of p.slots r (subst (λ o. IsSome (option_and_then (then_shape closed (returned p.slots)) o)) at_r no_block)

      pub choice_is : choice_shape (map shapes_of ys) (map shapes_of ns) p ≡ Some (with_seen r.seen p)
      choice_is =
          ap (option_and_then behind) yes_is
          ∙ ap (λ o. option_and_then (λ (r : Place). Some (with_seen r.seen p)) (option_and_then (then_shape closed (returned p.slots)) o)) at_r
          ∙ ap (option_and_then (λ (r : Place). Some (with_seen r.seen p))) no_back.same
