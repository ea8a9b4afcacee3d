-- What the operators of the language give, by the types of their sides.
use Rattle.std.proofs.Common.{◌≡◌, ◌∙◌, ℕ, Bool, true, false, cond, ◌||◌, List, Ok, refl, sym, ap, subst, inl, inr}
use Rattle.std.specs.Str.{bytes_eq}
use Rattle.cash_base.specs.declared.place.Span.{Span}
use Rattle.cash_base.specs.Failing.{◌>>=◌}
use Rattle.cash_base.specs.Element.{IsElement}
use Rattle.cash_base.specs.Operand.{truth_bytes}
use Rattle.element_ops.specs.declared.op.Op1.TheVariants as op1
use Rattle.element_ops.specs.declared.op.Op2.{Op2}
use Rattle.element_ops.specs.declared.op.Op2.TheVariants as op2
use Rattle.element_ops.specs.Operation.{Outcome, result1, result2}
use Rattle.element_ops.specs.Causes.{kind2, IsOfKind}
use Rattle.cash_tree.specs.declared.Ty.{Ty}
use Rattle.cash_tree.specs.declared.Ty.TheVariants as ty
use Rattle.cash_tree.specs.declared.Ty.TheOpen.{Ty-F}
use Rattle.cash_tree.specs.declared.Ty.TheViews.{out-Ty}
use Rattle.cash_tree.specs.declared.UnaryOp.{UnaryOp}
use Rattle.cash_tree.specs.declared.UnaryOp.TheVariants as unary_ops
use Rattle.cash_tree.specs.declared.BinaryOp.{BinaryOp}
use Rattle.cash_tree.specs.declared.BinaryOp.TheVariants as ops
use Rattle.type_tables.specs.Tables.{Answer, fits, layer_fits, allowed, suits, is_bytes, is_bytes_layer, is_single, unary_operand, unary_type, both_sides, joined, bytes_sum, sum_type, meet, equality_type, wider, bitwise_type, binary_type}
use Rattle.form_tables.specs.Forms.{unary_op, is_int, is_int_layer, binary_form, binary_result}
use Rattle.type_check.proofs.Typed.{ok_bind, ok_same}
use Rattle.type_soundness.proofs.Calm.{IsNumber, calm1, calm2, and_calm, or_calm, xor_calm}
use Rattle.type_soundness.proofs.Holds.{Laws, TyLayer, LayerHolds, Holds, Fine, obeyed, number_is, truth_is, loose, loosely, truth_number, truth_fine, joined_fine, nothing-IsElement, one-IsElement}
use Rattle.type_soundness.proofs.Types.{IsLoose, out_int, out_bool, out_text, is_allowed, suited, an_int, a_bool, sides, int_is, met_int, loose_wider, loose_joined, loose_text}

-- ---- known types

pub fine_at : (w t : Ty) (layer : TyLayer) (o : Outcome) → out-Ty w ≡ layer → w ≡ t → Fine (Holds layer) o → Fine (Holds (out-Ty t)) o
fine_at w t layer o is same h = subst (λ layer. Fine (Holds layer) o) (sym is ∙ ap out-Ty same) h

pub int_fine : (t : Ty) (o : Outcome) → ty.Int ≡ t → Fine (Holds Ty-F.Int) o → Fine (Holds (out-Ty t)) o
int_fine t o same h = fine_at ty.Int t Ty-F.Int o out_int same h

pub bool_fine : (t : Ty) (o : Outcome) → ty.Bool ≡ t → Fine (Holds Ty-F.Bool) o → Fine (Holds (out-Ty t)) o
bool_fine t o same h = fine_at ty.Bool t Ty-F.Bool o out_bool same h

pub number_in : (layer : TyLayer) (x : List ℕ) → layer ≡ Ty-F.Int → Holds layer x → IsNumber x
number_in layer x is h = subst (λ layer. LayerHolds layer x) is h.fits

pub int_of : (a : Ty) (x : List ℕ) → fits ty.Int a ≡ true → Holds (out-Ty a) x → IsNumber x
int_of a x is h = number_in (out-Ty a) x (an_int a is) h

pub bool_of : (a : Ty) (x : List ℕ) → fits ty.Bool a ≡ true → Holds (out-Ty a) x → IsNumber x
bool_of a x is h = truth_number x (subst (λ layer. LayerHolds layer x) (a_bool a is) h.fits)

-- ---- one side

unary_typed : (span : Span) (op : UnaryOp) (a t : Ty) → unary_type span op a ≡ Ok t → (fits (unary_operand op) a ≡ true) × (unary_operand op ≡ t)
unfolding unary_type
unary_typed span op a t e =
    let p = ok_bind (suits span (unary_operand op) a) (λ u. Ok (unary_operand op)) t e in
    (suited span (unary_operand op) a p.0 p.1, ok_same (unary_operand op) t p.2)

pub unary_fine : (laws : Laws) (span : Span) (op : UnaryOp) (a t : Ty) (x : List ℕ) → unary_type span op a ≡ Ok t → Holds (out-Ty a) x
    → Fine (Holds (out-Ty t)) (result1 (unary_op op) x)
unary_fine laws span unary_ops.Not a t x e h =
    let is = unary_typed span unary_ops.Not a t e in
    bool_fine t (result1 op1.Not x) is.1
    (obeyed _ _ Ty-F.Bool (result1 op1.Not x) (laws.one op1.Not x h.element) (calm1 op1.Not x (bool_of a x is.0 h)) truth_is)
unary_fine laws span unary_ops.Negate a t x e h =
    let is = unary_typed span unary_ops.Negate a t e in
    int_fine t (result1 op1.Negate x) is.1
    (obeyed _ _ Ty-F.Int (result1 op1.Negate x) (laws.one op1.Negate x h.element) (calm1 op1.Negate x (int_of a x is.0 h)) number_is)

-- ---- both sides numbers, or truth values

numbers_give : (laws : Laws) (op : Op2) (t : Ty) (a b : TyLayer) (w : Ty) (layer : TyLayer) (x y : List ℕ) → out-Ty w ≡ layer → w ≡ t → IsNumber x → IsNumber y
    → Holds a x → Holds b y → ((e : List ℕ) → IsOfKind (kind2 op) e → LayerHolds layer e) → Fine (Holds (out-Ty t)) (result2 op x y)
numbers_give laws op t a b w layer x y is same first second hx hy holds =
    fine_at w t layer (result2 op x y) is same
    (obeyed _ _ layer (result2 op x y) (laws.two op x y hx.element hy.element) (calm2 op x y first second) holds)

sums : (laws : Laws) (op : Op2) (span : Span) (a b t : Ty) (x y : List ℕ) → both_sides span ty.Int ty.Int a b ≡ Ok t → Holds (out-Ty a) x → Holds (out-Ty b) y
    → ((e : List ℕ) → IsOfKind (kind2 op) e → LayerHolds Ty-F.Int e) → Fine (Holds (out-Ty t)) (result2 op x y)
sums laws op span a b t x y e hx hy holds =
    let s = sides span ty.Int ty.Int a b t e in
    numbers_give laws op t _ _ ty.Int Ty-F.Int x y out_int s.answer (int_of a x s.left hx) (int_of b y s.right hy) hx hy holds

orders : (laws : Laws) (op : Op2) (span : Span) (a b t : Ty) (x y : List ℕ) → both_sides span ty.Int ty.Bool a b ≡ Ok t → Holds (out-Ty a) x → Holds (out-Ty b) y
    → ((e : List ℕ) → IsOfKind (kind2 op) e → LayerHolds Ty-F.Bool e) → Fine (Holds (out-Ty t)) (result2 op x y)
orders laws op span a b t x y e hx hy holds =
    let s = sides span ty.Int ty.Bool a b t e in
    numbers_give laws op t _ _ ty.Bool Ty-F.Bool x y out_bool s.answer (int_of a x s.left hx) (int_of b y s.right hy) hx hy holds

logics : (laws : Laws) (op : Op2) (span : Span) (a b t : Ty) (x y : List ℕ) → both_sides span ty.Bool ty.Bool a b ≡ Ok t → Holds (out-Ty a) x → Holds (out-Ty b) y
    → ((e : List ℕ) → IsOfKind (kind2 op) e → LayerHolds Ty-F.Bool e) → Fine (Holds (out-Ty t)) (result2 op x y)
logics laws op span a b t x y e hx hy holds =
    let s = sides span ty.Bool ty.Bool a b t e in
    numbers_give laws op t _ _ ty.Bool Ty-F.Bool x y out_bool s.answer (bool_of a x s.left hx) (bool_of b y s.right hy) hx hy holds

-- ---- whether both are the same

record Equals (a b t : Ty) : Type 0 where
  met : (fits a b || fits b a) ≡ true
  answer : ty.Bool ≡ t

equals : (span : Span) (a b t : Ty) → equality_type span a b ≡ Ok t → Equals a b t
equals span a b t e =
    let p = ok_bind (allowed span (is_single a) ty.Int a) (λ u. allowed span (meet a b) a b >>= λ v. Ok ty.Bool) t e in
    let q = ok_bind (allowed span (meet a b) a b) (λ v. Ok ty.Bool) t p.2 in
    record { met = is_allowed span (meet a b) a b q.0 q.1; answer = ok_same ty.Bool t q.2 }

same_numbers : (laws : Laws) (op : Op2) (span : Span) (a b t : Ty) (x y : List ℕ) → is_int a ≡ true → equality_type span a b ≡ Ok t → Holds (out-Ty a) x → Holds (out-Ty b) y
    → ((e : List ℕ) → IsOfKind (kind2 op) e → LayerHolds Ty-F.Bool e) → Fine (Holds (out-Ty t)) (result2 op x y)
same_numbers laws op span a b t x y is e hx hy holds =
    let s = equals span a b t e in
    let left = int_is (out-Ty a) is in
    let right = met_int (out-Ty b) (subst (λ layer. (layer_fits layer (out-Ty b) || layer_fits (out-Ty b) layer) ≡ true) left s.met) in
    numbers_give laws op t _ _ ty.Bool Ty-F.Bool x y out_bool s.answer (number_in (out-Ty a) x left hx) (number_in (out-Ty b) y right hy) hx hy holds

truth_is_number : (b : Bool) → IsNumber (truth_bytes b)
truth_is_number true = truth_number (truth_bytes true) (inr refl)
truth_is_number false = truth_number (truth_bytes false) (inl refl)

truth_is_element : (b : Bool) → IsElement (truth_bytes b)
truth_is_element true = one-IsElement
truth_is_element false = nothing-IsElement

differ : (laws : Laws) (b : Bool) → Fine (Holds Ty-F.Bool) (result1 op1.Not (truth_bytes b))
differ laws b = obeyed _ _ Ty-F.Bool (result1 op1.Not (truth_bytes b)) (laws.one op1.Not (truth_bytes b) (truth_is_element b)) (calm1 op1.Not (truth_bytes b) (truth_is_number b)) truth_is

-- ---- sums, and bits

joins : (a t : Ty) (x y : List ℕ) (b : Ty) → IsLoose t → Holds (out-Ty a) x → Holds (out-Ty b) y → Fine (Holds (out-Ty t)) (result2 op2.Cat x y)
joins a t x y b is hx hy = loosely (out-Ty t) (result2 op2.Cat x y) is (joined_fine x y hx.element.bytes hy.element.bytes)

-- a sum, by whether the left side is of bytes, and whether it is a text
abbrev sum_by : Bool → Bool → Span → Ty → Ty → Answer Ty
sum_by bytes text span a b =
    cond bytes (bytes_sum span a b) (both_sides span (cond text ty.Text ty.Int) (cond text ty.Text ty.Int) a b)

adds : (laws : Laws) (span : Span) (a b t : Ty) (x y : List ℕ) → is_int a ≡ true → sum_type span a b ≡ Ok t → Holds (out-Ty a) x → Holds (out-Ty b) y
    → Fine (Holds (out-Ty t)) (result2 op2.Add x y)
adds laws span a b t x y is e hx hy =
    let left = int_is (out-Ty a) is in
    let bytes : is_bytes a ≡ false = ap is_bytes_layer left in
    let text : fits ty.Text a ≡ false = ap (layer_fits (out-Ty ty.Text)) left ∙ ap (λ layer. layer_fits layer Ty-F.Int) out_text in
    let step : sum_by (is_bytes a) (fits ty.Text a) span a b ≡ Ok t = e in
    let next : sum_by false (fits ty.Text a) span a b ≡ Ok t = subst (λ c. sum_by c (fits ty.Text a) span a b ≡ Ok t) bytes step in
    let plain : both_sides span ty.Int ty.Int a b ≡ Ok t = subst (λ c. sum_by false c span a b ≡ Ok t) text next in
    sums laws op2.Add span a b t x y plain hx hy number_is

sum_loose : (span : Span) (a b t : Ty) (bytes text : Bool) → is_int a ≡ false → sum_by bytes text span a b ≡ Ok t → IsLoose t
sum_loose span a b t true text is e =
    let p = ok_bind (allowed span (is_bytes b) a b) (λ u. Ok (joined a b)) t e in
    subst IsLoose (ok_same (joined a b) t p.2) (loose_joined a b)
sum_loose span a b t false true is e = subst IsLoose (sides span ty.Text ty.Text a b t e).answer loose_text
sum_loose span a b t false false is e =
    let left = an_int a (sides span ty.Int ty.Int a b t e).left in
    let no : true ≡ false = sym (ap is_int_layer left) ∙ is in absurd cc

appends : (span : Span) (a b t : Ty) (x y : List ℕ) → is_int a ≡ false → sum_type span a b ≡ Ok t → Holds (out-Ty a) x → Holds (out-Ty b) y
    → Fine (Holds (out-Ty t)) (result2 op2.Cat x y)
appends span a b t x y is e hx hy = joins a t x y b (sum_loose span a b t (is_bytes a) (fits ty.Text a) is e) hx hy

bitwise_loose : (span : Span) (a b t : Ty) → bitwise_type span a b ≡ Ok t → IsLoose t
bitwise_loose span a b t e =
    let p = ok_bind (allowed span (is_bytes a) ty.Bytes a) (λ u. allowed span (meet a b) a b >>= λ v. Ok (wider a b)) t e in
    let q = ok_bind (allowed span (meet a b) a b) (λ v. Ok (wider a b)) t p.2 in
    subst IsLoose (ok_same (wider a b) t q.2)
    (loose_wider a b (is_allowed span (meet a b) a b q.0 q.1) (is_allowed span (is_bytes a) ty.Bytes a p.0 p.1))

-- ---- all operators with two sides

pub binary_fine : (laws : Laws) (span : Span) (op : BinaryOp) (numbers : Bool) (a b t : Ty) (x y : List ℕ) → is_int a ≡ numbers → binary_type span op a b ≡ Ok t
    → Holds (out-Ty a) x → Holds (out-Ty b) y → Fine (Holds (out-Ty t)) (binary_result (binary_form numbers op) x y)
unfolding binary_type
binary_fine laws span ops.Or true a b t x y is e hx hy = logics laws op2.BoolOr span a b t x y e hx hy truth_is
binary_fine laws span ops.Or false a b t x y is e hx hy = logics laws op2.BoolOr span a b t x y e hx hy truth_is
binary_fine laws span ops.And true a b t x y is e hx hy = logics laws op2.BoolAnd span a b t x y e hx hy truth_is
binary_fine laws span ops.And false a b t x y is e hx hy = logics laws op2.BoolAnd span a b t x y e hx hy truth_is
binary_fine laws span ops.BitOr true a b t x y is e hx hy =
    let any = bitwise_loose span a b t e in
    obeyed _ _ (out-Ty t) (result2 op2.Or x y) (laws.two op2.Or x y hx.element hy.element) (or_calm x y) (λ e h. loose (out-Ty t) e any)
binary_fine laws span ops.BitOr false a b t x y is e hx hy =
    let any = bitwise_loose span a b t e in
    obeyed _ _ (out-Ty t) (result2 op2.Or x y) (laws.two op2.Or x y hx.element hy.element) (or_calm x y) (λ e h. loose (out-Ty t) e any)
binary_fine laws span ops.BitXor true a b t x y is e hx hy =
    let any = bitwise_loose span a b t e in
    obeyed _ _ (out-Ty t) (result2 op2.Xor x y) (laws.two op2.Xor x y hx.element hy.element) (xor_calm x y) (λ e h. loose (out-Ty t) e any)
binary_fine laws span ops.BitXor false a b t x y is e hx hy =
    let any = bitwise_loose span a b t e in
    obeyed _ _ (out-Ty t) (result2 op2.Xor x y) (laws.two op2.Xor x y hx.element hy.element) (xor_calm x y) (λ e h. loose (out-Ty t) e any)
binary_fine laws span ops.BitAnd true a b t x y is e hx hy =
    let any = bitwise_loose span a b t e in
    obeyed _ _ (out-Ty t) (result2 op2.And x y) (laws.two op2.And x y hx.element hy.element) (and_calm x y) (λ e h. loose (out-Ty t) e any)
binary_fine laws span ops.BitAnd false a b t x y is e hx hy =
    let any = bitwise_loose span a b t e in
    obeyed _ _ (out-Ty t) (result2 op2.And x y) (laws.two op2.And x y hx.element hy.element) (and_calm x y) (λ e h. loose (out-Ty t) e any)
binary_fine laws span ops.Equal true a b t x y is e hx hy = same_numbers laws op2.NumEqual span a b t x y is e hx hy truth_is
binary_fine laws span ops.Equal false a b t x y is e hx hy = bool_fine t (result2 op2.Equal x y) (equals span a b t e).answer (truth_fine (bytes_eq x y))
binary_fine laws span ops.NotEqual true a b t x y is e hx hy = same_numbers laws op2.NumNotEqual span a b t x y is e hx hy truth_is
binary_fine laws span ops.NotEqual false a b t x y is e hx hy = bool_fine t _ (equals span a b t e).answer (differ laws (bytes_eq x y))
binary_fine laws span ops.Less true a b t x y is e hx hy = orders laws op2.Less span a b t x y e hx hy truth_is
binary_fine laws span ops.Less false a b t x y is e hx hy = orders laws op2.Less span a b t x y e hx hy truth_is
binary_fine laws span ops.LessEqual true a b t x y is e hx hy = orders laws op2.LessEqual span a b t x y e hx hy truth_is
binary_fine laws span ops.LessEqual false a b t x y is e hx hy = orders laws op2.LessEqual span a b t x y e hx hy truth_is
binary_fine laws span ops.Greater true a b t x y is e hx hy = orders laws op2.Greater span a b t x y e hx hy truth_is
binary_fine laws span ops.Greater false a b t x y is e hx hy = orders laws op2.Greater span a b t x y e hx hy truth_is
binary_fine laws span ops.GreaterEqual true a b t x y is e hx hy = orders laws op2.GreaterEqual span a b t x y e hx hy truth_is
binary_fine laws span ops.GreaterEqual false a b t x y is e hx hy = orders laws op2.GreaterEqual span a b t x y e hx hy truth_is
binary_fine laws span ops.Add true a b t x y is e hx hy = adds laws span a b t x y is e hx hy
binary_fine laws span ops.Add false a b t x y is e hx hy = appends span a b t x y is e hx hy
binary_fine laws span ops.Sub true a b t x y is e hx hy = sums laws op2.Sub span a b t x y e hx hy number_is
binary_fine laws span ops.Sub false a b t x y is e hx hy = sums laws op2.Sub span a b t x y e hx hy number_is
binary_fine laws span ops.Mul true a b t x y is e hx hy = sums laws op2.Mul span a b t x y e hx hy number_is
binary_fine laws span ops.Mul false a b t x y is e hx hy = sums laws op2.Mul span a b t x y e hx hy number_is
binary_fine laws span ops.Div true a b t x y is e hx hy = sums laws op2.Div span a b t x y e hx hy number_is
binary_fine laws span ops.Div false a b t x y is e hx hy = sums laws op2.Div span a b t x y e hx hy number_is
binary_fine laws span ops.Mod true a b t x y is e hx hy = sums laws op2.Mod span a b t x y e hx hy number_is
binary_fine laws span ops.Mod false a b t x y is e hx hy = sums laws op2.Mod span a b t x y e hx hy number_is
