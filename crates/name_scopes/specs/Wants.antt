-- What is wanted of a name at its place in the text, and which fault comes where it is not so.
use Rattle.std.specs.Prelude.{◌≡◌, ℕ, ◌⊎◌, Bool, true, false, List, [], ◌∷◌, Option, None, Some, Result, Ok, Err}
use Rattle.cash_base.specs.declared.place.Span.{Span}
use Rattle.cash_tree.specs.declared.Constraint.{Constraint}
use Rattle.name_scopes.specs.declared.scope.Variable.{Variable}
use Rattle.name_scopes.specs.declared.fault.NameFault.{NameFault}
use Rattle.name_scopes.specs.declared.fault.NameFault.TheVariants.{PragmaRefused, UnknownName, Redeclared, AssignToConstant, TooManyNames, NoFunction, Memory}
use Rattle.name_scopes.specs.Names.{Names, look, has_room}
use Rattle.cash_base.specs.Source.{text_at}
use Rattle.name_scopes.specs.Pragmas.{constraint_text, admits}

-- a place in the text, with the names that are in scope there
pub data Want : Type 0 where
  -- a constraint admits the language's version
  is_admitted : Constraint → Want
  -- a name that is declared isn't in scope, and one more may be declared
  is_new : Names → Span → Want
  -- a name that is read is in scope
  is_known : Names → Span → Want
  -- a name that is assigned is in scope, and no constant
  is_variable : Names → Span → Want
  -- a name that is called is that of a built-in function, or after `new` of an instantiation: this one is of none
  is_callable : Span → Want
  -- a contract has a function: whether this one has none, and its span
  has_function : Bool → Span → Want

-- ---- where it is so

abbrev pub IsGranted : List ℕ → Want → Type 0
IsGranted source (is_admitted constraint) = admits (constraint_text source constraint) ≡ true
IsGranted source (is_new names span) = (look (text_at source span) names ≡ None) × (has_room names ≡ true)
IsGranted source (is_known names span) = (v : Variable) × (look (text_at source span) names ≡ Some v)
IsGranted source (is_variable names span) =
    (v : Variable) × (look (text_at source span) names ≡ Some v) × (v.constant ≡ false)
IsGranted source (is_callable span) = ⊥
IsGranted source (has_function is_without span) = is_without ≡ false

-- each of these is so
abbrev pub AreGranted : List ℕ → List Want → Type 0
AreGranted source [] = Unit {0}
AreGranted source (want ∷ wants) = IsGranted source want × AreGranted source wants

-- ---- where it is not

abbrev pub unless_admitted : Span → Bool → Option NameFault
unless_admitted span true = None
unless_admitted span false = Some (PragmaRefused span)

abbrev pub unless_room : Span → Bool → Option NameFault
unless_room span true = None
unless_room span false = Some (TooManyNames span)

abbrev pub unless_new : Span → Bool → Option Variable → Option NameFault
unless_new span room (Some v) = Some (Redeclared span)
unless_new span room None = unless_room span room

abbrev pub unless_known : Span → Option Variable → Option NameFault
unless_known span (Some v) = None
unless_known span None = Some (UnknownName span)

abbrev pub if_constant : Span → Bool → Option NameFault
if_constant span true = Some (AssignToConstant span)
if_constant span false = None

abbrev pub unless_variable : Span → Option Variable → Option NameFault
unless_variable span (Some v) = if_constant span v.constant
unless_variable span None = Some (UnknownName span)

abbrev pub if_without : Span → Bool → Option NameFault
if_without span true = Some (NoFunction span)
if_without span false = None

-- the fault, where it is not as wanted
abbrev pub refusal : List ℕ → Want → Option NameFault
refusal source (is_admitted constraint) =
    unless_admitted constraint.span (admits (constraint_text source constraint))
refusal source (is_new names span) = unless_new span (has_room names) (look (text_at source span) names)
refusal source (is_known names span) = unless_known span (look (text_at source span) names)
refusal source (is_variable names span) = unless_variable span (look (text_at source span) names)
refusal source (is_callable span) = Some (UnknownName span)
refusal source (has_function is_without span) = if_without span is_without

infixr 10 ◌or◌
abbrev pub ◌or◌ : Option NameFault → Option NameFault → Option NameFault
(Some fault) or other = Some fault
None or other = other

-- the fault of the first place that is refused
abbrev pub first_refused : List ℕ → List Want → Option NameFault
first_refused source [] = None
first_refused source (want ∷ wants) = refusal source want or first_refused source wants

-- the value, where nothing is refused
abbrev pub granted : {A : Type 0} → Option NameFault → A → Result A NameFault
granted None value = Ok value
granted (Some fault) value = Err fault

-- What the code answers is what it should, and memory may be short at any time.
abbrev pub Gives : {A B : Type 0} → (A → B) → Result A NameFault → Result B NameFault → Type 0
Gives view (Ok x) answer = answer ≡ Ok (view x)
Gives view (Err fault) answer = (fault ≡ Memory) ⊎ (answer ≡ Err fault)
