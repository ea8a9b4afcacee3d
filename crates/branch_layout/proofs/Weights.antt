-- What moves weigh.
use Rattle.std.proofs.Common.{◌≡◌, ◌≢◌, ℕ, ◌+◌, ◌/◌, ◌%◌, ◌≤◌, Bool, true, false, cond, IsTrue, List, [], ◌∷◌, ◌++◌, length, Option, Some, None, pos, refl, sym, ap, ◌∙◌, subst, length-append, arith}
use Rattle.std.specs.Prelude.{◌==◌}
use Rattle.std.specs.Int.{is_negative}
use Rattle.std.specs.List.{list_all, flat_map}
use Rattle.std.proofs.lemmas.Bool.{eq-eqb, false≢true, and_parts, and_from}
use Rattle.std.proofs.lemmas.Grind.{flat_map-append}
use Rattle.cash_base.specs.Number.{digits, with_sign, minimal_bytes}
use Rattle.cash_base.proofs.Laws.{with_sign_short}
use Rattle.cash_base.proofs.Writing.{digits_step, digits_zero}
use Rattle.script_codec.specs.declared.instr.Instr.{Instr}
use Rattle.script_codec.specs.Reading.{push}
use Rattle.script_codec.specs.Spelling.{own_opcode, push_by, minimal_push, spelling, spellings}
use Rattle.branch_layout.specs.Arms.{AreMoves, DropOnly, Top, Below, moves_of, is_move, counted_opcodes, drop_top, roll, raising, discarding}

-- ---- the push of a depth

push_size : (e : List ℕ) → length e ≤ 2 → length (minimal_push e) ≤ 3
push_size [] h = omega arith
push_size (a ∷ []) h = by_own (own_opcode (a ∷ []))
  where
    by_own : (o : Option ℕ) → length (push_by o (a ∷ [])) ≤ 3
    by_own (Some opcode) = omega arith
    by_own None = omega arith
push_size (a ∷ b ∷ []) h = omega arith
push_size (a ∷ b ∷ c ∷ more) h = absurd (omega (arith, h))

depth_size : (n : ℕ) → n ≢ 0 → n ≤ 160 → length (minimal_bytes (pos n)) ≤ 2
depth_size n some small =
    let none : n / 256 ≡ 0 = omega arith in
    let e : digits 8 n ≡ (n % 256) ∷ [] = digits_step 7 n some ∙ ap (λ l. (n % 256) ∷ l) (digits_zero 7 (n / 256) none) in
    let s = with_sign_short (is_negative (pos n)) (n % 256) [] in
    subst (λ l. length (with_sign (is_negative (pos n)) l) ≤ 2) (sym e) (omega (arith, s))

-- ---- lists of moves

counted_append : (a b : List Instr) → counted_opcodes (a ++ b) ≡ counted_opcodes a + counted_opcodes b
counted_append [] b = omega arith
counted_append (x ∷ a) b = let e = counted_append a b in omega (arith, e)

plain_append : (a b : List Instr) → IsTrue (list_all is_move a) → IsTrue (list_all is_move b)
    → IsTrue (list_all is_move (a ++ b))
plain_append [] b p q = q
plain_append (x ∷ a) b p q =
    let parts = and_parts (is_move x) (list_all is_move a) p in
    and_from (is_move x) (list_all is_move (a ++ b)) parts.0 (plain_append a b parts.1 q)

pub moves_nothing : (n m : ℕ) → AreMoves n m []
moves_nothing n m = record { plain = refl; bytes = omega arith; opcodes = omega arith }

pub moves_both : (n m k l : ℕ) (a b : List Instr) → AreMoves n m a → AreMoves k l b → AreMoves (n + k) (m + l) (a ++ b)
moves_both n m k l a b p q = record {
  plain = plain_append a b p.plain q.plain;
  bytes = let e = ap length (flat_map-append spelling a b) ∙ length-append (spellings a) (spellings b) in omega (arith, e, p.bytes, q.bytes);
  opcodes = let e = counted_append a b in omega (arith, e, p.opcodes, q.opcodes);
}

pub moves_within : (n m k l : ℕ) (a : List Instr) → AreMoves n m a → n ≤ k → m ≤ l → AreMoves k l a
moves_within n m k l a p h j = record {
  plain = p.plain;
  bytes = omega (arith, p.bytes, h);
  opcodes = omega (arith, p.opcodes, j);
}

pub raising_moves : (below : ℕ) → below ≤ 160 → AreMoves 4 1 (raising below)
raising_moves below small = by (below == 0) refl
  where
    by : (b : Bool) → (below == 0) ≡ b → AreMoves 4 1 (cond b [] (push (minimal_bytes (pos below)) ∷ roll ∷ []))
    by true e = moves_nothing 4 1
    by false e =
        let some : below ≢ 0 = λ z. false≢true (sym e ∙ eq-eqb below 0 z) in
        let d = depth_size below some small in
        let s = push_size (minimal_bytes (pos below)) d in
        record {
          plain = refl;
          bytes = let l = length-append (minimal_push (minimal_bytes (pos below))) (0x7a ∷ []) in omega (arith, l, s);
          opcodes = omega arith;
        }

pub discarding_moves : (below : ℕ) → below ≤ 160 → AreMoves 5 2 (discarding below)
discarding_moves below small =
    moves_both 4 1 1 1 (raising below) (drop_top ∷ []) (raising_moves below small)
    (record { plain = refl; bytes = omega arith; opcodes = omega arith })

-- ---- moves that only drop

pub drop_nothing : DropOnly 0 []
drop_nothing = record { droppings = []; counts = refl; spelled = refl }

pub drops_discarding : (below : ℕ) → DropOnly 1 (discarding below)
drops_discarding below = by (below == 0)
  where
    by : (b : Bool) → DropOnly 1 (cond b [] (push (minimal_bytes (pos below)) ∷ roll ∷ []) ++ drop_top ∷ [])
    by true = record { droppings = Top ∷ []; counts = refl; spelled = refl }
    by false = record { droppings = Below (minimal_bytes (pos below)) ∷ []; counts = refl; spelled = refl }

pub drops_both : (n m : ℕ) (a b : List Instr) → DropOnly n a → DropOnly m b → DropOnly (n + m) (a ++ b)
drops_both n m a b p q = record {
  droppings = p.droppings ++ q.droppings;
  counts = let l = length-append p.droppings q.droppings in omega (arith, l, p.counts, q.counts);
  spelled = ap (λ l. l ++ b) p.spelled ∙ ap (λ l. flat_map moves_of p.droppings ++ l) q.spelled
      ∙ sym (flat_map-append moves_of p.droppings q.droppings);
}
