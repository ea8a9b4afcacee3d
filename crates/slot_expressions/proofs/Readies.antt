-- The parts of what is ready are ready.
use Rattle.std.proofs.Common.{◌≡◌, ◌≤◌, ◌<◌, ◌*◌, ℕ, ℤ, pos, true, false, get_or, List, [], ◌∷◌, length, map, ap, sym, ◌∙◌, arith, subst}
use Rattle.std.specs.Prelude.{Option, Some, None, ◌&&◌, nat_le, IsTrue}
use Rattle.std.proofs.lemmas.List.{length-map}
use Rattle.std.proofs.lemmas.Bool.Decides.{nat_tests}
use Rattle.cash_base.specs.declared.place.Slot.{Slot}
use Rattle.cash_base.specs.declared.place.Span.{Span}
use Rattle.cash_base.specs.declared.look.LookAt.{LookAt}
use Rattle.element_ops.specs.Operand.{is_in_range}
use Rattle.element_ops.specs.declared.op.Op1.{Op1}
use Rattle.element_ops.specs.declared.op.Op2.{Op2}
use Rattle.element_ops.specs.declared.op.Op3.{Op3}
use Rattle.cash_tree.specs.declared.Ty.{Ty}
use Rattle.cash_tree.specs.declared.UnaryOp.{UnaryOp}
use Rattle.cash_tree.specs.declared.BinaryOp.{BinaryOp}
use Rattle.cash_tree.specs.declared.Builtin.{Builtin}
use Rattle.cash_tree.specs.declared.Callee.{Callee}
use Rattle.cash_tree.specs.declared.Callee.TheVariants.{Known, Unknown}
use Rattle.cash_tree.specs.declared.ExprKind.{ExprKind}
use Rattle.cash_tree.specs.declared.ExprKind.TheVariants as exprs
use Rattle.form_tables.specs.declared.forms.CallForm.{CallForm}
use Rattle.form_tables.specs.declared.forms.CallForm.TheVariants as forms
use Rattle.form_tables.specs.declared.forms.Lock.{Lock}
use Rattle.form_tables.specs.Forms.{call_form}
use Rattle.type_tables.specs.Tables.{TypedExpr, cast_effect}
use Rattle.source_meaning.specs.Runnable.{all_of}
use Rattle.slot_expressions.specs.Ready.{any_name, is_element, is_cast, counts_fit, is_ready, is_ready_kind, ready_items, ready_items_kind, Ready, ReadyKind, ReadyCall, ReadyForm, ReadyAll, ReadyItems, ReadyFew, ReadyFewOf}
use Rattle.slot_expressions.proofs.ReadySteps as ready
use Rattle.slot_expressions.proofs.Tests.{and_left, and_right}

pub whole_readies : {e : TypedExpr} → Ready e → ReadyKind e.kind
whole_readies {e} h = record { is = sym (ready.whole_ready any_name e) ∙ h.is }

pub unary_readies : {kind : ExprKind Slot Ty} {op : UnaryOp} {a : TypedExpr} → kind ≡ exprs.Unary op a → ReadyKind kind → Ready a
unary_readies {kind} {op} {a} is h = record { is = sym (ap (is_ready_kind any_name) is ∙ ready.unary_is_ready any_name op a) ∙ h.is }

pub length_readies : {kind : ExprKind Slot Ty} {a : TypedExpr} → kind ≡ exprs.Length a → ReadyKind kind → Ready a
length_readies {kind} {a} is h = record { is = sym (ap (is_ready_kind any_name) is ∙ ready.length_is_ready any_name a) ∙ h.is }

pub reverse_readies : {kind : ExprKind Slot Ty} {a : TypedExpr} → kind ≡ exprs.Reverse a → ReadyKind kind → Ready a
reverse_readies {kind} {a} is h = record { is = sym (ap (is_ready_kind any_name) is ∙ ready.reverse_is_ready any_name a) ∙ h.is }

pub index_readies : {kind : ExprKind Slot Ty} {a : TypedExpr} {number : ℕ} → kind ≡ exprs.Index a number → ReadyKind kind → Ready a
index_readies {kind} {a} {number} is h = record { is = sym (ap (is_ready_kind any_name) is ∙ ready.index_is_ready any_name a number) ∙ h.is }

pub look_at_readies : {kind : ExprKind Slot Ty} {what : LookAt} {a : TypedExpr} → kind ≡ exprs.LookAt what a → ReadyKind kind → Ready a
look_at_readies {kind} {what} {a} is h = record { is = sym (ap (is_ready_kind any_name) is ∙ ready.look_at_is_ready any_name what a) ∙ h.is }

pub binary_first : {kind : ExprKind Slot Ty} {op : BinaryOp} {a : TypedExpr} (b : TypedExpr) → kind ≡ exprs.Binary op a b → ReadyKind kind → Ready a
binary_first {kind} {op} {a} b is h = record { is = and_left (is_ready any_name a) (is_ready any_name b) (sym (ap (is_ready_kind any_name) is ∙ ready.binary_is_ready any_name op a b) ∙ h.is) }

pub binary_second : {kind : ExprKind Slot Ty} {op : BinaryOp} (a : TypedExpr) {b : TypedExpr} → kind ≡ exprs.Binary op a b → ReadyKind kind → Ready b
binary_second {kind} {op} a {b} is h = record { is = and_right (is_ready any_name a) (is_ready any_name b) (sym (ap (is_ready_kind any_name) is ∙ ready.binary_is_ready any_name op a b) ∙ h.is) }

pub split_first : {kind : ExprKind Slot Ty} {a : TypedExpr} (b : TypedExpr) → kind ≡ exprs.Split a b → ReadyKind kind → Ready a
split_first {kind} {a} b is h = record { is = and_left (is_ready any_name a) (is_ready any_name b) (sym (ap (is_ready_kind any_name) is ∙ ready.split_is_ready any_name a b) ∙ h.is) }

pub split_second : {kind : ExprKind Slot Ty} (a : TypedExpr) {b : TypedExpr} → kind ≡ exprs.Split a b → ReadyKind kind → Ready b
split_second {kind} a {b} is h = record { is = and_right (is_ready any_name a) (is_ready any_name b) (sym (ap (is_ready_kind any_name) is ∙ ready.split_is_ready any_name a b) ∙ h.is) }

pub cast_readies : {kind : ExprKind Slot Ty} {to : Ty} {a : TypedExpr} (size : Option TypedExpr) → kind ≡ exprs.Cast to a size → ReadyKind kind → Ready a
cast_readies {kind} {to} {a} None is h = record { is = and_left (is_ready any_name a) (is_cast (cast_effect to a.ty)) (sym (ap (is_ready_kind any_name) is ∙ ready.cast_is_ready any_name to a) ∙ h.is) }
cast_readies {kind} {to} {a} (Some b) is h = record { is = and_left (is_ready any_name a) (is_ready any_name b) (sym (ap (is_ready_kind any_name) is ∙ ready.sized_cast_is_ready any_name to a b) ∙ h.is) }

pub size_readies : {kind : ExprKind Slot Ty} {to : Ty} (a : TypedExpr) {b : TypedExpr} → kind ≡ exprs.Cast to a (Some b) → ReadyKind kind → Ready b
size_readies {kind} {to} a {b} is h = record { is = and_right (is_ready any_name a) (is_ready any_name b) (sym (ap (is_ready_kind any_name) is ∙ ready.sized_cast_is_ready any_name to a b) ∙ h.is) }

pub call_readies : {kind : ExprKind Slot Ty} {callee : Callee} {args : List TypedExpr} → kind ≡ exprs.Call callee args → ReadyKind kind → ReadyCall callee args
call_readies {kind} {callee} {args} is h = record { is = sym (ap (is_ready_kind any_name) is ∙ ready.call_is_ready any_name callee args) ∙ h.is }

pub new_readies : {kind : ExprKind Slot Ty} {callee : Callee} {args : List TypedExpr} → kind ≡ exprs.New callee args → ReadyKind kind → ReadyCall callee args
new_readies {kind} {callee} {args} is h = record { is = sym (ap (is_ready_kind any_name) is ∙ ready.new_is_ready any_name callee args) ∙ h.is }

-- no array stands elsewhere
pub no_array : {kind : ExprKind Slot Ty} (items : List TypedExpr) → kind ≡ exprs.Array items → ReadyKind kind → ⊥
no_array {kind} items is h = let never : false ≡ true = sym (ap (is_ready_kind any_name) is ∙ ready.array_is_ready any_name items) ∙ h.is in absurd cc

pub int_in_range : {kind : ExprKind Slot Ty} {digits unit : ℕ} → kind ≡ exprs.Int digits unit → ReadyKind kind → IsTrue (is_in_range (pos (digits * unit)))
int_in_range {kind} {digits} {unit} is h = sym (ap (is_ready_kind any_name) is ∙ ready.int_is_ready any_name digits unit) ∙ h.is

pub date_in_range : {kind : ExprKind Slot Ty} {seconds : ℤ} → kind ≡ exprs.Date seconds → ReadyKind kind → IsTrue (is_in_range seconds)
date_in_range {kind} {seconds} is h = sym (ap (is_ready_kind any_name) is ∙ ready.date_is_ready any_name seconds) ∙ h.is

pub hex_fits : {kind : ExprKind Slot Ty} {bytes : List ℕ} → kind ≡ exprs.Hex bytes → ReadyKind kind → IsTrue (is_element bytes)
hex_fits {kind} {bytes} is h = sym (ap (is_ready_kind any_name) is ∙ ready.hex_is_ready any_name bytes) ∙ h.is

pub text_fits : {kind : ExprKind Slot Ty} {bytes : List ℕ} → kind ≡ exprs.Text bytes → ReadyKind kind → IsTrue (is_element bytes)
text_fits {kind} {bytes} is h = sym (ap (is_ready_kind any_name) is ∙ ready.text_is_ready any_name bytes) ∙ h.is

-- ---- arguments

-- a list of one, two or three
pub one_arg : (xs : List TypedExpr) (x : TypedExpr) → 1 ≤ length xs → length xs < 2 → x ≡ get_or xs 0 x → xs ≡ x ∷ []
one_arg [] x more less first = absurd (omega arith)
one_arg (a ∷ []) x more less first = let one : x ≡ a = first in cc
one_arg (a ∷ b ∷ xs) x more less first = absurd (omega arith)

pub two_args : (xs : List TypedExpr) (x y : TypedExpr) → 2 ≤ length xs → length xs < 3 → x ≡ get_or xs 0 x → y ≡ get_or xs 1 y → xs ≡ x ∷ y ∷ []
two_args [] x y more less first second = absurd (omega arith)
two_args (a ∷ []) x y more less first second = absurd (omega arith)
two_args (a ∷ b ∷ []) x y more less first second = let one : x ≡ a = first in let two : y ≡ b = second in cc
two_args (a ∷ b ∷ c ∷ xs) x y more less first second = absurd (omega arith)

pub three_args : (xs : List TypedExpr) (x y z : TypedExpr) → 3 ≤ length xs → length xs < 4 → x ≡ get_or xs 0 x → y ≡ get_or xs 1 y → z ≡ get_or xs 2 z → xs ≡ x ∷ y ∷ z ∷ []
three_args [] x y z more less first second third = absurd (omega arith)
three_args (a ∷ []) x y z more less first second third = absurd (omega arith)
three_args (a ∷ b ∷ []) x y z more less first second third = absurd (omega arith)
three_args (a ∷ b ∷ c ∷ []) x y z more less first second third = let one : x ≡ a = first in let two : y ≡ b = second in let three : z ≡ c = third in cc
three_args (a ∷ b ∷ c ∷ d ∷ xs) x y z more less first second third = absurd (omega arith)

pub known_readies : {f : Builtin} {form : CallForm} {args : List TypedExpr} → form ≡ call_form f → ReadyCall (Known f) args → ReadyForm form args
known_readies {f} {form} {args} is h = subst (λ k. ReadyForm k args) (sym is) (record { is = h.is })

pub unknown_never : {name : Span} {args : List TypedExpr} → ReadyCall (Unknown name) args → ⊥
unknown_never h = absurd (let never : false ≡ true = h.is in cc)

pub one_readies : {op : Op1} {a : TypedExpr} → ReadyForm (forms.One op) (a ∷ []) → Ready a
one_readies h = record { is = h.is }

pub lock_readies : {lock : Lock} {a : TypedExpr} → ReadyForm (forms.Locks lock) (a ∷ []) → Ready a
lock_readies h = record { is = h.is }

pub data_readies : {a : TypedExpr} → ReadyForm forms.HoldsData (a ∷ []) → ReadyItems a
data_readies h = record { is = h.is }

pub two_first : {op : Op2} {a b : TypedExpr} → ReadyForm (forms.Two op) (a ∷ b ∷ []) → Ready a
two_first {op} {a} {b} h = record { is = and_left (is_ready any_name a) (is_ready any_name b) h.is }

pub two_second : {op : Op2} {a b : TypedExpr} → ReadyForm (forms.Two op) (a ∷ b ∷ []) → Ready b
two_second {op} {a} {b} h = record { is = and_right (is_ready any_name a) (is_ready any_name b) h.is }

pub sig_first : {a b : TypedExpr} → ReadyForm forms.CheckSig (a ∷ b ∷ []) → Ready a
sig_first {a} {b} h = record { is = and_left (is_ready any_name a) (is_ready any_name b) h.is }

pub sig_second : {a b : TypedExpr} → ReadyForm forms.CheckSig (a ∷ b ∷ []) → Ready b
sig_second {a} {b} h = record { is = and_right (is_ready any_name a) (is_ready any_name b) h.is }

pub three_first : {op : Op3} {a b c : TypedExpr} → ReadyForm (forms.Three op) (a ∷ b ∷ c ∷ []) → Ready a
three_first {op} {a} {b} {c} h = record { is = and_left (is_ready any_name a) (is_ready any_name b && is_ready any_name c) h.is }

pub three_second : {op : Op3} {a b c : TypedExpr} → ReadyForm (forms.Three op) (a ∷ b ∷ c ∷ []) → Ready b
three_second {op} {a} {b} {c} h = record { is = and_left (is_ready any_name b) (is_ready any_name c) (and_right (is_ready any_name a) (is_ready any_name b && is_ready any_name c) h.is) }

pub three_third : {op : Op3} {a b c : TypedExpr} → ReadyForm (forms.Three op) (a ∷ b ∷ c ∷ []) → Ready c
three_third {op} {a} {b} {c} h = record { is = and_right (is_ready any_name b) (is_ready any_name c) (and_right (is_ready any_name a) (is_ready any_name b && is_ready any_name c) h.is) }

pub data_sig_first : {a b c : TypedExpr} → ReadyForm forms.CheckData (a ∷ b ∷ c ∷ []) → Ready a
data_sig_first {a} {b} {c} h = record { is = and_left (is_ready any_name a) (is_ready any_name b && is_ready any_name c) h.is }

pub data_sig_second : {a b c : TypedExpr} → ReadyForm forms.CheckData (a ∷ b ∷ c ∷ []) → Ready b
data_sig_second {a} {b} {c} h = record { is = and_left (is_ready any_name b) (is_ready any_name c) (and_right (is_ready any_name a) (is_ready any_name b && is_ready any_name c) h.is) }

pub data_sig_third : {a b c : TypedExpr} → ReadyForm forms.CheckData (a ∷ b ∷ c ∷ []) → Ready c
data_sig_third {a} {b} {c} h = record { is = and_right (is_ready any_name b) (is_ready any_name c) (and_right (is_ready any_name a) (is_ready any_name b && is_ready any_name c) h.is) }

-- ---- arrays

pub few_keys : (sigs keys : ℕ) → counts_fit sigs keys ≡ true → keys ≤ 20
few_keys sigs keys is = let first = and_left (nat_le keys 20) (nat_le sigs keys) is in grind (arith, nat_tests, first)

pub few_sigs : (sigs keys : ℕ) → counts_fit sigs keys ≡ true → sigs ≤ 20
few_sigs sigs keys is =
    let first = few_keys sigs keys is in
    let second = and_right (nat_le keys 20) (nat_le sigs keys) is in grind (arith, nat_tests, first, second)

pub sigs_first : {a b : TypedExpr} → ReadyForm forms.CheckMulti (a ∷ b ∷ []) → ReadyFew a
sigs_first {a} {b} h =
    let fit = counts_fit (length (ready_items any_name a)) (length (ready_items any_name b)) in
    let items = and_right fit (all_of (ready_items any_name a) && all_of (ready_items any_name b)) h.is in record {
      items = record { is = and_left (all_of (ready_items any_name a)) (all_of (ready_items any_name b)) items };
      few = few_sigs (length (ready_items any_name a)) (length (ready_items any_name b)) (and_left fit (all_of (ready_items any_name a) && all_of (ready_items any_name b)) h.is);
    }

pub sigs_second : {a b : TypedExpr} → ReadyForm forms.CheckMulti (a ∷ b ∷ []) → ReadyFew b
sigs_second {a} {b} h =
    let fit = counts_fit (length (ready_items any_name a)) (length (ready_items any_name b)) in
    let items = and_right fit (all_of (ready_items any_name a) && all_of (ready_items any_name b)) h.is in record {
      items = record { is = and_right (all_of (ready_items any_name a)) (all_of (ready_items any_name b)) items };
      few = few_keys (length (ready_items any_name a)) (length (ready_items any_name b)) (and_left fit (all_of (ready_items any_name a) && all_of (ready_items any_name b)) h.is);
    }

pub sigs_fit : {a b : TypedExpr} → ReadyForm forms.CheckMulti (a ∷ b ∷ []) → counts_fit (length (ready_items any_name a)) (length (ready_items any_name b)) ≡ true
sigs_fit {a} {b} h = and_left (counts_fit (length (ready_items any_name a)) (length (ready_items any_name b))) (all_of (ready_items any_name a) && all_of (ready_items any_name b)) h.is

items_are : (e : TypedExpr) (items : List TypedExpr) → e.kind ≡ exprs.Array items → ready_items any_name e ≡ map (is_ready any_name) items
items_are e items is = ready.whole_items any_name e ∙ ap (ready_items_kind any_name) is ∙ ready.array_items any_name items

pub items_ready : (e : TypedExpr) {items : List TypedExpr} → e.kind ≡ exprs.Array items → ReadyItems e → ReadyAll items
items_ready e {items} is h = record { is = sym (ap all_of (items_are e items is)) ∙ h.is }

pub few_ready : (e : TypedExpr) {items : List TypedExpr} → e.kind ≡ exprs.Array items → ReadyFew e → ReadyFewOf items
few_ready e {items} is h = record {
  all = items_ready e is h.items;
  few = omega (arith, ap length (items_are e items is), length-map items (is_ready any_name), h.few);
}

pub few_all : {parts : List TypedExpr} → ReadyFewOf parts → ReadyAll parts
few_all h = h.all

pub few_count : {parts : List TypedExpr} → ReadyFewOf parts → length parts ≤ 20
few_count h = h.few
