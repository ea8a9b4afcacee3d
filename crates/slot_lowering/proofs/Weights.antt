-- How the weights of statements add up.
use Rattle.std.proofs.Common.{◌≡◌, ◌≤◌, ℕ, ◌+◌, ◌-◌, ◌*◌, Bool, true, false, List, [], ◌∷◌, ◌++◌, length, map, refl, sym, ap, ◌∙◌, subst, arith}
use Rattle.std.specs.Prelude.{◌&&◌, Option, unwrap_or, if◌then◌else◌}
use Rattle.std.proofs.lemmas.List.{map-append}
use Rattle.std.proofs.lemmas.List.Folds.{list_all-append}
use Rattle.cash_base.specs.declared.place.Span.{Span}
use Rattle.cash_base.specs.declared.place.Slot.{Slot}
use Rattle.cash_tree.specs.declared.Ty.{Ty}
use Rattle.cash_tree.specs.declared.StmtKind.{StmtKind}
use Rattle.slot_code.specs.declared.slots.SlotInstr.{SlotInstr}
use Rattle.slot_code.specs.declared.slots.SlotKind.{SlotKind}
use Rattle.slot_code.specs.declared.slots.SlotKind.TheVariants as kinds
use Rattle.slot_code.specs.Weight.{Weight, Weighs, weight, all_weigh, path_weigh, is_over, then_weigh, weighs_of, weighs_at}
use Rattle.slot_code.proofs.Steps as steps
use Rattle.slot_expressions.specs.Room.{Price, ◌⊕◌, nothing, one}
use Rattle.slot_expressions.specs.Pieces.{Light, instruction}
use Rattle.slot_expressions.proofs.Lights.{Under}
use Rattle.slot_lowering.specs.Statements.{end_row}
use Rattle.slot_lowering.specs.Room.{Pays, all_pay, defined, path_pays, block_pays, if_pays, pays_at}
use Rattle.slot_lowering.specs.Weighed.{weights, Inside, Within, AtEnd}

-- ---- rows behind rows

-- a weight is the sum of two, and the names behind it are those behind the second one
record Adds (w v u : Weight) : Type 0 where
  names : w.names ≡ u.names
  bytes : w.bytes ≡ v.bytes + u.bytes
  ops : w.ops ≡ v.ops + u.ops

weigh_append : (xs ys : List Weighs) (n : ℕ) → Adds (all_weigh (xs ++ ys) n) (all_weigh xs n) (all_weigh ys (all_weigh xs n).names)
weigh_append [] ys n = record { names = refl; bytes = omega arith; ops = omega arith }
weigh_append (x ∷ xs) ys n =
    let rest = weigh_append xs ys (x.inner n).names in
    record { names = rest.names; bytes = omega (arith, rest.bytes); ops = omega (arith, rest.ops) }

and_false : (b c : Bool) → c ≡ false → (b && c) ≡ false
and_false true c is = is
and_false false c is = refl

not_over : (xs ys : List Weighs) → is_over ys ≡ false → is_over (xs ++ ys) ≡ false
not_over xs ys is = list_all-append (λ (w : Weighs). w.is_end) xs ys ∙ and_false (is_over xs) (is_over ys) is

path_append : (xs ys : List Weighs) (n : ℕ) → is_over ys ≡ false → Adds (path_weigh (xs ++ ys) n) (all_weigh xs n) (path_weigh ys (all_weigh xs n).names)
path_append [] ys n is = record { names = refl; bytes = omega arith; ops = omega arith }
path_append (x ∷ xs) ys n is =
    let rest = path_append xs ys (x.inner n).names is in
    subst (λ b. Adds ((if b then then_weigh x.last (all_weigh (xs ++ ys)) else then_weigh x.inner (path_weigh (xs ++ ys))) n) (all_weigh (x ∷ xs) n) (path_weigh ys (all_weigh (x ∷ xs) n).names))
    (sym (not_over xs ys is)) (record { names = rest.names; bytes = omega (arith, rest.bytes); ops = omega (arith, rest.ops) })

rows_append : (a b : List SlotInstr) (n : ℕ) → Adds (all_weigh (weights (a ++ b)) n) (all_weigh (weights a) n) (all_weigh (weights b) (all_weigh (weights a) n).names)
rows_append a b n =
    subst (λ l. Adds (all_weigh l n) (all_weigh (weights a) n) (all_weigh (weights b) (all_weigh (weights a) n).names)) (sym (map-append weighs_of a b)) (weigh_append (weights a) (weights b) n)

path_rows : (a b : List SlotInstr) (n : ℕ) → is_over (weights b) ≡ false → Adds (path_weigh (weights (a ++ b)) n) (all_weigh (weights a) n) (path_weigh (weights b) (all_weigh (weights a) n).names)
path_rows a b n is =
    subst (λ l. Adds (path_weigh l n) (all_weigh (weights a) n) (path_weigh (weights b) (all_weigh (weights a) n).names)) (sym (map-append weighs_of a b)) (path_append (weights a) (weights b) n is)

rows_go_on : (a b : List SlotInstr) → is_over (weights b) ≡ false → is_over (weights (a ++ b)) ≡ false
rows_go_on a b is = ap is_over (map-append weighs_of a b) ∙ not_over (weights a) (weights b) is

-- ---- a row behind the code of a value

-- with its value an instruction weighs at most so much, and leaves so many names
pub record Fits (w : Weight) (names : ℕ) (value most : Price) : Type 0 where
  pub names_are : w.names ≡ names
  pub bytes : value.bytes + w.bytes ≤ most.bytes
  pub ops : value.ops + w.ops ≤ most.ops

row_is : (kind : SlotKind) (checking : Span) {w : Weighs} → weighs_at kind ≡ w → weighs_of (instruction kind checking checking) ≡ w
row_is kind checking is = steps.whole_weighs (instruction kind checking checking) ∙ is

row_inside : {rows : List SlotInstr} {p : Price} (kind : SlotKind) (checking : Span) {w : Weighs} (names : ℕ) (most : ℕ → Price) → weighs_at kind ≡ w
    → ((n : ℕ) → Fits (w.inner n) (n + names) p (most n)) → Light rows nothing p → Inside (rows ++ instruction kind checking checking ∷ []) names most
row_inside {rows} {p} kind checking {w} names most is fits light = record {
  names_are = λ n. (sum n).names ∙ ap (λ (v : Weight). v.names) (row n) ∙ (fits n).names_are;
  bytes = λ n. omega (arith, (sum n).bytes, ap (λ (v : Weight). v.bytes) (row n), light.bytes n, (fits n).bytes);
  ops = λ n. omega (arith, (sum n).ops, ap (λ (v : Weight). v.ops) (row n), light.ops n, (fits n).ops);
}
  where
    sum : (n : ℕ) → Adds (all_weigh (weights (rows ++ instruction kind checking checking ∷ [])) n) (all_weigh (weights rows) n) (all_weigh (weights (instruction kind checking checking ∷ [])) (all_weigh (weights rows) n).names)
    sum n = rows_append rows (instruction kind checking checking ∷ []) n

    row : (n : ℕ) → (weighs_of (instruction kind checking checking)).inner (all_weigh (weights rows) n).names ≡ w.inner n
    row n = ap (λ (v : Weighs). v.inner (all_weigh (weights rows) n).names) (row_is kind checking is) ∙ ap w.inner (light.names n)

row_at_end : {rows : List SlotInstr} {p : Price} (kind : SlotKind) (checking : Span) {w : Weighs} (most : ℕ → Price) → weighs_at kind ≡ w → w.is_end ≡ false
    → ((n : ℕ) → p.bytes + (w.last n).bytes ≤ (most n).bytes) → ((n : ℕ) → p.ops + (w.last n).ops ≤ (most n).ops) → Light rows nothing p → AtEnd (rows ++ instruction kind checking checking ∷ []) most
row_at_end {rows} {p} kind checking {w} most is no_end fit_bytes fit_ops light = record {
  within = record {
    bytes = λ n. omega (arith, (sum n).bytes, ap (λ (v : Weight). v.bytes) (row n), light.bytes n, fit_bytes n);
    ops = λ n. omega (arith, (sum n).ops, ap (λ (v : Weight). v.ops) (row n), light.ops n, fit_ops n);
  };
  goes_on = rows_go_on rows (instruction kind checking checking ∷ []) on;
}
  where
    on : is_over (weights (instruction kind checking checking ∷ [])) ≡ false
    on = ap (λ (v : Weighs). v.is_end && true) (row_is kind checking is) ∙ ap (λ b. b && true) no_end

    sum : (n : ℕ) → Adds (path_weigh (weights (rows ++ instruction kind checking checking ∷ [])) n) (all_weigh (weights rows) n) (path_weigh (weights (instruction kind checking checking ∷ [])) (all_weigh (weights rows) n).names)
    sum n = path_rows rows (instruction kind checking checking ∷ []) n on

    row : (n : ℕ) → (weighs_of (instruction kind checking checking)).last (all_weigh (weights rows) n).names ≡ w.last n
    row n = ap (λ (v : Weighs). v.last (all_weigh (weights rows) n).names) (row_is kind checking is) ∙ ap w.last (light.names n)

-- a statement pays for the code of its value and one row behind it
pub paid_inside : {rows : List SlotInstr} {p : Price} (kind : StmtKind Slot Ty) (row : SlotKind) (checking : Span) {w : Weighs} {q : Pays} → weighs_at row ≡ w → pays_at kind ≡ q
    → ((n : ℕ) → Fits (w.inner n) (n + q.names) p (q.inner n)) → Light rows nothing p → Inside (rows ++ instruction row checking checking ∷ []) (pays_at kind).names (pays_at kind).inner
paid_inside {rows} kind row checking {w} {q} is pays fits light =
    subst (λ (r : Pays). Inside (rows ++ instruction row checking checking ∷ []) r.names r.inner) (sym pays) (row_inside row checking q.names q.inner is fits light)

pub paid_at_end : {rows : List SlotInstr} {p : Price} (kind : StmtKind Slot Ty) (row : SlotKind) (checking : Span) {w : Weighs} {q : Pays} → weighs_at row ≡ w → w.is_end ≡ false → pays_at kind ≡ q
    → ((n : ℕ) → p.bytes + (w.last n).bytes ≤ (q.last n).bytes) → ((n : ℕ) → p.ops + (w.last n).ops ≤ (q.last n).ops) → Light rows nothing p → AtEnd (rows ++ instruction row checking checking ∷ []) (pays_at kind).last
paid_at_end {rows} kind row checking {w} {q} is no_end pays fit_bytes fit_ops light =
    subst (λ (r : Pays). AtEnd (rows ++ instruction row checking checking ∷ []) r.last) (sym pays) (row_at_end row checking q.last is no_end fit_bytes fit_ops light)

-- both parts of a split pay for no choice
pub light_parts : {rows : List SlotInstr} {most p : Price} → Under most (one ⊕ p) → Light rows one most → Light rows nothing p
light_parts u h = record {
  names = h.names;
  bytes = λ n. omega (arith, h.bytes n, u.bytes);
  ops = λ n. omega (arith, h.ops n, u.ops);
}

-- ---- statements one after the other

pub none_inside : Inside [] 0 (all_pay [])
none_inside = record { names_are = λ n. omega arith; bytes = λ n. omega arith; ops = λ n. omega arith }

pub more_inside : {a b : List SlotInstr} (p : Pays) (ps : List Pays) → Inside a p.names p.inner → Inside b (defined ps) (all_pay ps) → Inside (a ++ b) (defined (p ∷ ps)) (all_pay (p ∷ ps))
more_inside {a} {b} p ps ha hb = record {
  names_are = λ n. (rows_append a b n).names ∙ hb.names_are (behind n) ∙ omega (arith, ha.names_are n);
  bytes = λ n. omega (arith, (rows_append a b n).bytes, ha.bytes n, hb.bytes (behind n), ap (λ m. (all_pay ps m).bytes) (ha.names_are n));
  ops = λ n. omega (arith, (rows_append a b n).ops, ha.ops n, hb.ops (behind n), ap (λ m. (all_pay ps m).ops) (ha.names_are n));
}
  where
    behind : ℕ → ℕ
    behind n = (all_weigh (weights a) n).names

pub more_at_end : {a b : List SlotInstr} (p q : Pays) (ps : List Pays) → Inside a p.names p.inner → AtEnd b (path_pays (q ∷ ps)) → AtEnd (a ++ b) (path_pays (p ∷ q ∷ ps))
more_at_end {a} {b} p q ps ha hb = record {
  within = record {
    bytes = λ n. omega (arith, (path_rows a b n hb.goes_on).bytes, ha.bytes n, hb.within.bytes (behind n), ap (λ m. (path_pays (q ∷ ps) m).bytes) (ha.names_are n));
    ops = λ n. omega (arith, (path_rows a b n hb.goes_on).ops, ha.ops n, hb.within.ops (behind n), ap (λ m. (path_pays (q ∷ ps) m).ops) (ha.names_are n));
  };
  goes_on = rows_go_on a b hb.goes_on;
}
  where
    behind : ℕ → ℕ
    behind n = (all_weigh (weights a) n).names

-- ---- blocks

-- from so many names more than these, an end for each
record Ended (w : Weight) (names count : ℕ) : Type 0 where
  names_are : w.names ≡ names
  bytes : w.bytes ≡ count * 5
  ops : w.ops ≡ count * 2

ends_weigh : (checking : Span) (names : List Slot) (m n : ℕ) → m ≡ n + length names → Ended (all_weigh (weights (map (end_row checking) names)) m) n (length names)
ends_weigh checking [] m n is = record { names_are = omega (arith, is); bytes = refl; ops = refl }
ends_weigh checking (name ∷ names) m n is =
    let i = end_row checking name in
    let ws = weights (map (end_row checking) names) in
    let row : (weighs_of i).inner m ≡ weight 5 2 (m - 1) = ap (λ (w : Weighs). w.inner m) (row_is (kinds.End name) checking (steps.end_of_weighs name)) in
    let rest = ends_weigh checking names (m - 1) n (omega (arith, is)) in
    let own : Weight = weight 5 2 (m - 1) in
    let whole : Ended (weight (5 + (all_weigh ws (m - 1)).bytes) (2 + (all_weigh ws (m - 1)).ops) (all_weigh ws (m - 1)).names) n (length (name ∷ names)) =
    record { names_are = rest.names_are; bytes = omega (arith, rest.bytes); ops = omega (arith, rest.ops) } in
    subst (λ (w : Weight). Ended (weight (w.bytes + (all_weigh ws w.names).bytes) (w.ops + (all_weigh ws w.names).ops) (all_weigh ws w.names).names) n (length (name ∷ names))) (sym row) whole

pub ended_inside : {rows : List SlotInstr} (checking : Span) (names : List Slot) (ps : List Pays) → length names ≡ defined ps → Inside rows (defined ps) (all_pay ps) → Inside (rows ++ map (end_row checking) names) 0 (block_pays ps)
ended_inside {rows} checking names ps count h = record {
  names_are = λ n. (sum n).names ∙ (ends n).names_are ∙ omega arith;
  bytes = λ n. omega (arith, (sum n).bytes, (ends n).bytes, h.bytes n, count);
  ops = λ n. omega (arith, (sum n).ops, (ends n).ops, h.ops n, count);
}
  where
    behind : ℕ → ℕ
    behind n = (all_weigh (weights rows) n).names

    sum : (n : ℕ) → Adds (all_weigh (weights (rows ++ map (end_row checking) names)) n) (all_weigh (weights rows) n) (all_weigh (weights (map (end_row checking) names)) (behind n))
    sum n = rows_append rows (map (end_row checking) names) n

    ends : (n : ℕ) → Ended (all_weigh (weights (map (end_row checking) names)) (behind n)) n (length names)
    ends n = ends_weigh checking names (behind n) n (omega (arith, h.names_are n, count))

-- ---- choices

pub choice_inside : {rows a b : List SlotInstr} {p : Price} (kind : StmtKind Slot Ty) (span : Span) (ps qs : List Pays) (o : Option (List Pays)) → pays_at kind ≡ if_pays p ps o → unwrap_or o [] ≡ qs
    → Light rows nothing p → Inside a 0 (block_pays ps) → Inside b 0 (block_pays qs) → Inside (rows ++ instruction (kinds.If a b) span span ∷ []) (pays_at kind).names (pays_at kind).inner
choice_inside {rows} {a} {b} kind span ps qs o pays is light ha hb =
    paid_inside kind (kinds.If a b) span (steps.if_weighs a b) pays (λ n. record {
      names_are = omega arith;
      bytes = omega (arith, ha.bytes n, hb.bytes n, ap (λ l. (block_pays l n).bytes) is);
      ops = omega (arith, ha.ops n, hb.ops n, ap (λ l. (block_pays l n).ops) is);
    }) light

-- a missing `else` is a path too
pub none_within : Within [] (path_pays [])
none_within = record { bytes = λ n. omega arith; ops = λ n. omega arith }

pub fork_at_end : {rows a b : List SlotInstr} {p : Price} (kind : StmtKind Slot Ty) (span : Span) (ps qs : List Pays) (o : Option (List Pays)) → pays_at kind ≡ if_pays p ps o → unwrap_or o [] ≡ qs
    → Light rows nothing p → Within a (path_pays ps) → Within b (path_pays qs) → AtEnd (rows ++ instruction (kinds.If a b) span span ∷ []) (pays_at kind).last
fork_at_end {rows} {a} {b} kind span ps qs o pays is light ha hb =
    paid_at_end kind (kinds.If a b) span (steps.if_weighs a b) refl pays
    (λ n. omega (arith, ha.bytes n, hb.bytes n, ap (λ l. (path_pays l n).bytes) is))
    (λ n. omega (arith, ha.ops n, hb.ops n, ap (λ l. (path_pays l n).ops) is)) light
