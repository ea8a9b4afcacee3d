-- What the types of a contract promise of a run.
use Rattle.std.specs.Prelude.{◌≡◌, ◌≢◌, ℕ, List, [], ◌∷◌, slice_get, Some, Ok, Err, unwrap_or, IsTrue}
use Rattle.cash_base.specs.declared.fault.Cause.TheVariants.{NotANumber}
use Rattle.cash_base.specs.declared.place.Span.{Span}
use Rattle.cash_base.specs.declared.place.Slot.{Slot}
use Rattle.cash_base.specs.Element.{IsElement}
use Rattle.tx_context.specs.World.{World, IsWorld}
use Rattle.cash_tree.specs.declared.Ty.{Ty}
use Rattle.cash_tree.specs.declared.Param.{Param}
use Rattle.cash_names.specs.Outline.{Tree, NamedTree}
use Rattle.cash_names.specs.Scopes.{IsNamed}
use Rattle.type_tables.specs.Tables.{TypedExpr, is_single, type_at, Env as Types}
use Rattle.type_check.specs.Shapes.{Place, NamedExpr}
use Rattle.type_check.specs.Outline.{TypedFunction, TypedContract}
use Rattle.type_check.specs.Typing.{HasType, TypesContract}
use Rattle.source_meaning.specs.declared.outcome.SourceOutcome.TheVariants.{Failed}
use Rattle.source_meaning.specs.Meaning.{Env, Value, value_of, source_outcome}
use Rattle.source_meaning.specs.Fits.{Fits, GivenFits}
use Rattle.type_soundness.specs.Literals.{holds_bytes, IsPlain}

-- an element that is a value of this type
pub record IsValue (t : Ty) (e : List ℕ) : Type 0 where
  pub element : IsElement e
  pub fits : Fits t e

-- ---- expressions

-- Each name has a value of its type, and the type is that of one element. A name without a value reads as the empty element.
pub record NamesFit (types : Types) (values : Env) : Type 0 where
  pub single : (slot : Slot) → IsTrue (is_single (type_at slot types))
  pub value : (slot : Slot) → IsValue (type_at slot types) (unwrap_or (values slot) [])

-- what is given is a value of this type, and no failure is that an operand is no number
abbrev pub ValueFits : Ty → Value → Type 0
ValueFits t (Ok given) = GivenFits t given
ValueFits t (Err failure) = failure.cause ≢ NotANumber

abbrev pub ExpressionsFit : Type 0
ExpressionsFit =
    (world : World) → IsWorld world → (types : Types) (values : Env) → NamesFit types values
    → (place : Place) (e : NamedExpr) (x : TypedExpr) → HasType types place e x → IsTrue (holds_bytes x)
    → ValueFits x.ty (value_of world values x)

-- ---- runs

-- as many elements as parameters, each a value of its parameter's type
abbrev pub AreValues : List (Param Slot) → List (List ℕ) → Type 0
AreValues [] [] = Unit {0}
AreValues (param ∷ params) (e ∷ elements) = IsValue param.ty e × AreValues params elements
AreValues _ _ = ⊥

-- A run of a function on values of its parameters' types fails at no place since an operand is no number.
abbrev pub FindsNumbers : TypedContract → Type 0
FindsNumbers typed =
    (world : World) → IsWorld world
    → (ctor : List (List ℕ)) → AreValues typed.params ctor
    → (place : ℕ) (f : TypedFunction) → slice_get typed.functions place ≡ Some f
    → (args : List (List ℕ)) → AreValues f.params args
    → (span : Span) → source_outcome typed ctor f args world ≢ Failed span NotANumber

abbrev pub RunsFindNumbers : Type 0
RunsFindNumbers =
    (source : List ℕ) (tree : Tree) (named : NamedTree) (typed : TypedContract)
    → IsNamed source tree named → TypesContract named typed → IsPlain typed → FindsNumbers typed
