-- How the weights of rows add up.
use Rattle.std.proofs.Common.{◌≡◌, ◌≤◌, ◌<◌, ◌==◌, ℕ, zero, suc, ℤ, pos, Bool, true, false, List, [], ◌∷◌, ◌++◌, length, map, Ok, Err, refl, sym, ap, ◌∙◌, subst, arith}
use Rattle.std.specs.Prelude.{if◌then◌else◌, nat_lt, nat_le, ◌&&◌}
use Rattle.std.proofs.lemmas.Bool.Decides.{nat_tests}
use Rattle.std.proofs.lemmas.List.{append-nil}
use Rattle.cash_base.specs.declared.fault.Cause.TheVariants.{NumberRange, Oversize}
use Rattle.cash_base.specs.declared.element.TheConstants.{MAX_ELEMENT_LEN}
use Rattle.cash_base.specs.declared.place.Span.{Span}
use Rattle.cash_base.specs.Number.{minimal_bytes, digits}
use Rattle.element_ops.specs.declared.op.Op1.{Op1}
use Rattle.element_ops.specs.declared.op.Op1.TheVariants as op1
use Rattle.element_ops.specs.Operand.{is_in_range, number_element, truth_element}
use Rattle.script_codec.specs.Spelling.{minimal_push}
use Rattle.tx_context.specs.Lookup.{sized}
use Rattle.cash_tree.specs.declared.UnaryOp.{UnaryOp}
use Rattle.cash_tree.specs.declared.UnaryOp.TheVariants as unary_ops
use Rattle.form_tables.specs.Forms.{unary_op}
use Rattle.slot_code.specs.declared.slots.SlotInstr.{SlotInstr}
use Rattle.slot_code.specs.declared.slots.SlotKind.{SlotKind}
use Rattle.slot_code.specs.declared.slots.SlotKind.TheVariants as kinds
use Rattle.slot_code.specs.Weight.{Weight, Weighs, weight, together, costs, op_weigh, plain, all_weigh, weighs_of, weighs_at}
use Rattle.slot_code.proofs.Steps as steps
use Rattle.slot_expressions.specs.declared.expressions.Width.{Width}
use Rattle.slot_expressions.specs.declared.expressions.Width.TheVariants as widths
use Rattle.slot_expressions.specs.Room.{Price, price, ◌⊕◌, nothing, one, push_of, op1_price}
use Rattle.slot_expressions.specs.Pieces.{Light, instruction, unpaid}
use Rattle.slot_expressions.specs.Rows.{lit, part_rows}

same_weight : (a b : Weight) → a.bytes ≡ b.bytes → a.ops ≡ b.ops → a.names ≡ b.names → a ≡ b
same_weight a b e f g =
    ap (λ n. weight n a.ops a.names) e ∙ ap (λ n. weight b.bytes n a.names) f ∙ ap (λ n. weight b.bytes b.ops n) g

weigh_both : (a b : List SlotInstr) (n : ℕ) → all_weigh (map weighs_of (a ++ b)) n
    ≡ together (all_weigh (map weighs_of a) n) (all_weigh (map weighs_of b) (all_weigh (map weighs_of a) n).names)
weigh_both [] b n = let w = all_weigh (map weighs_of b) n in same_weight w (together (weight 0 0 n) w) (omega arith) (omega arith) refl
weigh_both (i ∷ a) b n =
    let w = (weighs_of i).inner n in
    let v = all_weigh (map weighs_of a) w.names in
    let u = all_weigh (map weighs_of b) v.names in
    ap (together w) (weigh_both a b w.names)
    ∙ same_weight (together w (together v u)) (together (together w v) u) (omega arith) (omega arith) refl

-- at most as much
pub record Under (v w : Price) : Type 0 where
  pub bytes : v.bytes ≤ w.bytes
  pub ops : v.ops ≤ w.ops

pub under : {v w : Price} → w ≡ v → Under v w
under is = record { bytes = omega (arith, ap (λ (p : Price). p.bytes) is); ops = omega (arith, ap (λ (p : Price). p.ops) is) }

pub light_as : {rows : List SlotInstr} {left v w : Price} → Under v w → Light rows left v → Light rows left w
light_as u h = record {
  names = h.names;
  bytes = λ n. omega (arith, h.bytes n, u.bytes);
  ops = λ n. omega (arith, h.ops n, u.ops);
}

pub light_none : {p : Price} → Light [] nothing p
light_none = record { names = λ n. refl; bytes = λ n. omega arith; ops = λ n. omega arith }

pub light_both : {a b : List SlotInstr} {left v w : Price} → Light a nothing v → Light b left w → Light (a ++ b) left (v ⊕ w)
light_both {a} {b} {left} {v} {w} x y = record {
  names = λ n. ap (λ (s : Weight). s.names) (weigh_both a b n) ∙ y.names (all_weigh (map weighs_of a) n).names ∙ x.names n;
  bytes = λ n. omega (arith, ap (λ (s : Weight). s.bytes) (weigh_both a b n), x.bytes n, y.bytes (all_weigh (map weighs_of a) n).names);
  ops = λ n. omega (arith, ap (λ (s : Weight). s.ops) (weigh_both a b n), x.ops n, y.ops (all_weigh (map weighs_of a) n).names);
}

pub light_row : (kind : SlotKind) (doing checking : Span) (cost : Price) → weighs_at kind ≡ plain (costs cost.bytes cost.ops) → Light (instruction kind doing checking ∷ []) nothing cost
light_row kind doing checking cost is =
    let i = instruction kind doing checking in
    let whole : weighs_of i ≡ plain (costs cost.bytes cost.ops) = steps.whole_weighs i ∙ is in record {
      names = λ n. ap (λ (w : Weighs). (w.inner n).names) whole;
      bytes = λ n. omega (arith, ap (λ (w : Weighs). (w.inner n).bytes) whole);
      ops = λ n. omega (arith, ap (λ (w : Weighs). (w.inner n).ops) whole);
    }

-- a row behind others
pub light_then : {a : List SlotInstr} {v : Price} (kind : SlotKind) (doing checking : Span) (cost : Price) → weighs_at kind ≡ plain (costs cost.bytes cost.ops)
    → Light a nothing v → Light (a ++ instruction kind doing checking ∷ []) nothing (v ⊕ cost)
light_then kind doing checking cost is h = light_both h (light_row kind doing checking cost is)

-- the choice of a part is paid for
pub light_part : {rows : List SlotInstr} {p : Price} (width : Width) (right : Bool) (doing checking : Span) → Light rows (unpaid width) p
    → Light (rows ++ part_rows width right doing checking) nothing p
light_part {rows} {p} widths.One right doing checking h = subst (λ l. Light l nothing p) (sym (append-nil rows)) h
light_part {rows} {p} widths.Two right doing checking h =
    let i = instruction (kinds.Keep right) doing checking in
    let whole : weighs_of i ≡ plain (costs 1 1) = steps.whole_weighs i ∙ steps.keep_weighs right in record {
      names = λ n. ap (λ (s : Weight). s.names) (weigh_both rows (i ∷ []) n) ∙ ap (λ (w : Weighs). (w.inner (all_weigh (map weighs_of rows) n).names).names) whole ∙ h.names n;
      bytes = λ n. omega (arith, ap (λ (s : Weight). s.bytes) (weigh_both rows (i ∷ []) n), ap (λ (w : Weighs). (w.inner (all_weigh (map weighs_of rows) n).names).bytes) whole, h.bytes n);
      ops = λ n. omega (arith, ap (λ (s : Weight). s.ops) (weigh_both rows (i ∷ []) n), ap (λ (w : Weighs). (w.inner (all_weigh (map weighs_of rows) n).names).ops) whole, h.ops n);
    }

-- ---- what the rows cost

op1_costs : (op : Op1) → plain (op_weigh op) ≡ plain (costs (op1_price op).bytes (op1_price op).ops)
op1_costs op1.Negate = refl
op1_costs op1.Abs = refl
op1_costs op1.Not = refl
op1_costs op1.NonZero = refl
op1_costs op1.AddOne = refl
op1_costs op1.SubOne = refl
op1_costs op1.Size = refl
op1_costs op1.Reverse = refl
op1_costs op1.ToNumber = refl
op1_costs op1.Ripemd160 = refl
op1_costs op1.Sha1 = refl
op1_costs op1.Sha256 = refl
op1_costs op1.Hash160 = refl
op1_costs op1.Hash256 = refl

pub op1_weighs : (op : Op1) → weighs_at (kinds.Do1 op) ≡ plain (costs (op1_price op).bytes (op1_price op).ops)
op1_weighs op = steps.do1_weighs op ∙ op1_costs op

pub unary_price : (op : UnaryOp) → op1_price (unary_op op) ≡ one
unary_price unary_ops.Not = refl
unary_price unary_ops.Negate = refl

pub lit_weighs : (bytes : List ℕ) → weighs_at (lit bytes) ≡ plain (costs (push_of bytes).bytes (push_of bytes).ops)
lit_weighs bytes = steps.lit_weighs (record { items = bytes })

number_by : (b : Bool) (n : ℤ) (bytes : List ℕ) → (if b then Ok (minimal_bytes n) else Err NumberRange) ≡ Ok bytes → minimal_bytes n ≡ bytes
number_by true n bytes is = cc
number_by false n bytes is = absurd cc

pub number_is : (n : ℤ) (bytes : List ℕ) → number_element n ≡ Ok bytes → minimal_bytes n ≡ bytes
number_is n bytes is = number_by (is_in_range n) n bytes is

sized_by : (b : Bool) (spelled bytes : List ℕ) → (if b then Err Oversize else Ok spelled) ≡ Ok bytes → spelled ≡ bytes
sized_by false spelled bytes is = cc
sized_by true spelled bytes is = absurd cc

pub sized_is : (spelled bytes : List ℕ) → sized spelled ≡ Ok bytes → spelled ≡ bytes
sized_is spelled bytes is = sized_by (nat_lt MAX_ELEMENT_LEN (length spelled)) spelled bytes is

pub truth_is : (b : Bool) (bytes : List ℕ) → truth_element b ≡ Ok bytes → price 1 0 ≡ push_of bytes
truth_is true bytes is = let same : 1 ∷ [] ≡ bytes = cc in ap push_of same
truth_is false bytes is = let same : [] ≡ bytes = cc in ap push_of same

-- ---- counts

abbrev all_below : (ℕ → Bool) → ℕ → Bool
all_below p zero = true
all_below p (suc k) = p k && all_below p k

below : (p : ℕ → Bool) (k n : ℕ) → all_below p k ≡ true → n < k → p n ≡ true
below p zero n is less = absurd (omega (arith, less))
below p (suc k) n is less = by_test (n == k) refl (below p k n (and_second (p k) (all_below p k) is))
  where
    and_first : (a b : Bool) → (a && b) ≡ true → a ≡ true
    and_first true b is = refl
    and_first false b is = absurd cc

    and_second : (a b : Bool) → (a && b) ≡ true → b ≡ true
    and_second true b is = is
    and_second false b is = absurd cc

    by_test : (b : Bool) → (n == k) ≡ b → (n < k → p n ≡ true) → p n ≡ true
    by_test true same rest = let e : n ≡ k = grind (arith, nat_tests, same) in ap p e ∙ and_first (p k) (all_below p k) is
    by_test false other rest = rest (grind (arith, nat_tests, other, less))

-- a count is pushed in at most two bytes
pub count_push : (n : ℕ) → n ≤ 20 → (push_of (minimal_bytes (pos n))).bytes ≤ 2
unfolding digits
count_push n few = let short : nat_le (length (minimal_push (minimal_bytes (pos n)))) 2 ≡ true = below (λ k. nat_le (length (minimal_push (minimal_bytes (pos k)))) 2) 21 n refl (omega (arith, few)) in grind (arith, nat_tests, short)
