-- In which order the spans of slot code stand, and what it is for the spans of a source to stand in the order of its text.
use Rattle.std.specs.Prelude.{◌≡◌, ℕ, ◌<◌, ◌≤◌, ◌⊎◌, nat_le, nat_lt, Bool, true, ◌&&◌, List, [], ◌∷◌, ◌++◌, map, Option, unwrap_or}
use Rattle.std.specs.List.{list_all}
use Rattle.cash_base.specs.declared.place.Slot.{Slot}
use Rattle.cash_base.specs.declared.place.Span.{Span}
use Rattle.cash_tree.specs.declared.Ty.{Ty}
use Rattle.cash_tree.specs.declared.Expr.{Expr}
use Rattle.cash_tree.specs.declared.Contract.{Contract}
use Rattle.cash_tree.specs.declared.Function.{Function}
use Rattle.cash_tree.specs.declared.Stmt.{Stmt}
use Rattle.cash_tree.specs.declared.StmtKind.{StmtKind}
use Rattle.cash_tree.specs.declared.StmtKind.TheOpen.{StmtKind-F, Stmt-F}
use Rattle.cash_tree.specs.declared.StmtKind.TheFolds.{fold-Stmt, fold-StmtKind}
use Rattle.cash_tree.specs.Nodes.{joined, joined_or_none}
use Rattle.slot_code.specs.declared.slots.SlotInstr.{SlotInstr}
use Rattle.slot_code.specs.declared.slots.SlotKind.{SlotKind}
use Rattle.slot_code.specs.declared.slots.SlotFunction.{SlotFunction}
use Rattle.slot_code.specs.declared.slots.SlotKind.TheOpen.{SlotKind-F, SlotInstr-F}
use Rattle.slot_code.specs.declared.slots.SlotKind.TheFolds.{fold-SlotKind, fold-SlotInstr}
use Rattle.slot_expressions.specs.Spans.{own_spans}

-- ---- slot code

-- both places of an instruction
pub record Pair : Type 0 where
  pub doing : Span
  pub checking : Span

-- those of an instruction in the order of the code; a choice's stand before, between and after its blocks
abbrev pub kind_pairs : SlotKind-F (Pair → List Pair) (List Pair) → Pair → List Pair
kind_pairs (SlotKind-F.If a b) own = own ∷ (joined a ++ own ∷ (joined b ++ own ∷ []))
kind_pairs _ own = own ∷ []

abbrev pub instr_pairs : SlotInstr-F (Pair → List Pair) (List Pair) → List Pair
instr_pairs instr = instr.kind (record { doing = instr.doing; checking = instr.checking })

unfoldable pub pairs_of : SlotInstr → List Pair
pairs_of = fold-SlotInstr (Pair → List Pair) (List Pair) kind_pairs instr_pairs

unfoldable pub pairs_at : SlotKind → Pair → List Pair
pairs_at = fold-SlotKind (Pair → List Pair) (List Pair) kind_pairs instr_pairs

abbrev pub code_pairs : List SlotInstr → List Pair
code_pairs body = joined (map pairs_of body)

-- ---- the statements of a source

abbrev pub kind_places : StmtKind-F Slot Ty (List Span) (List Span) → List Span
kind_places (StmtKind-F.If test yes_block no_block) = joined yes_block ++ joined_or_none no_block
kind_places _ = []

-- a statement's span, and those of the statements in its blocks
abbrev pub stmt_places : Stmt-F Slot Ty (List Span) (List Span) → List Span
stmt_places s = s.span ∷ s.kind

unfoldable pub places_of : Stmt Slot Ty → List Span
places_of s = fold-Stmt Slot Ty (List Span) (List Span) kind_places stmt_places s

unfoldable pub places_at : StmtKind Slot Ty → List Span
places_at kind = fold-StmtKind Slot Ty (List Span) (List Span) kind_places stmt_places kind

abbrev pub body_places : List (Stmt Slot Ty) → List Span
body_places body = joined (map places_of body)

-- ---- the order of the text

-- a statement, and whether what stands in it is in order
pub record Text : Type 0 where
  pub span : Span
  pub fits : Bool

-- one after the other, from a place to another
abbrev pub in_order : ℕ → ℕ → List Text → Bool
in_order from to [] = nat_le from to
in_order from to (t ∷ more) = (nat_le from t.span.from && nat_lt t.span.from t.span.to) && (t.fits && in_order t.span.to to more)

-- each of a value's spans stands between two places, and none is empty
abbrev pub value_between : ℕ → ℕ → Expr Slot Ty → Bool
value_between from to value = list_all (λ (v : Span). nat_le from v.from && (nat_lt v.from v.to && nat_le v.to to)) (own_spans value)

-- a value stands in its statement, and the statements of blocks behind the test
abbrev pub kind_text : StmtKind-F Slot Ty (Span → Bool) Text → Span → Bool
kind_text (StmtKind-F.Define t constant slot place value) span = value_between span.from span.to value
kind_text (StmtKind-F.Pair left right value) span = value_between span.from span.to value
kind_text (StmtKind-F.Assign slot value) span = value_between span.from span.to value
kind_text (StmtKind-F.Time value) span = value_between span.from span.to value
kind_text (StmtKind-F.Age value) span = value_between span.from span.to value
kind_text (StmtKind-F.Require value) span = value_between span.from span.to value
kind_text (StmtKind-F.If test yes_block no_block) span =
    (nat_lt span.from test.span.to && value_between span.from test.span.to test) && in_order test.span.to span.to (yes_block ++ unwrap_or no_block [])

abbrev pub stmt_text : Stmt-F Slot Ty (Span → Bool) Text → Text
stmt_text s = record { span = s.span; fits = s.kind s.span }

unfoldable pub text_of : Stmt Slot Ty → Text
text_of s = fold-Stmt Slot Ty (Span → Bool) Text kind_text stmt_text s

unfoldable pub text_at : StmtKind Slot Ty → Span → Bool
text_at kind = fold-StmtKind Slot Ty (Span → Bool) Text kind_text stmt_text kind

-- the statements of a function stand in it, in order
pub record IsText (f : Function Slot Ty) : Type 0 where
  pub is : in_order f.span.from f.span.to (map text_of f.body) ≡ true

-- the functions of a contract stand in it, in order, and so do the statements of each
abbrev pub function_text : Function Slot Ty → Text
function_text f = record { span = f.span; fits = in_order f.span.from f.span.to (map text_of f.body) }

pub record IsTextOf (contract : Contract Slot Ty) : Type 0 where
  pub is : in_order contract.span.from contract.span.to (map function_text contract.functions) ≡ true

-- ---- what is promised

abbrev pub Every : {A : Type 0} → (A → Type 0) → List A → Type 0
Every P [] = Unit {0}
Every P (x ∷ xs) = P x × Every P xs

abbrev pub IsPlace : List Span → Span → Type 0
IsPlace [] span = ⊥
IsPlace (x ∷ xs) span = (x ≡ span) ⊎ IsPlace xs span

abbrev pub Holds : Span → Span → Type 0
Holds outer inner = (outer.from ≤ inner.from) × (inner.to ≤ outer.to)

-- the checking span is that of a statement that holds what is done, and every other one that does is around it
pub record IsInnermost (places : List Span) (pair : Pair) : Type 0 where
  pub place : IsPlace places pair.checking
  pub holds : Holds pair.checking pair.doing
  pub innermost : Every (λ other. Holds other pair.doing → Holds other pair.checking) places

-- behind a span none stands that ends before it begins
abbrev pub AreOrdered : List Pair → Type 0
AreOrdered [] = Unit {0}
AreOrdered (pair ∷ more) = Every (λ (later : Pair). pair.checking.from < later.checking.to) more × AreOrdered more

-- the pairs of a function's slot code are those of its statements, in the order of the text
pub record IsTold (f : Function Slot Ty) (g : SlotFunction) : Type 0 where
  pub innermost : Every (IsInnermost (body_places f.body)) (code_pairs g.body)
  pub ordered : AreOrdered (code_pairs g.body)

-- ... and those of all functions, one after the other, are those of the contract's statements
abbrev pub all_pairs : List SlotFunction → List Pair
all_pairs lowered = joined (map (λ (g : SlotFunction). code_pairs g.body) lowered)

abbrev pub all_places : List (Function Slot Ty) → List Span
all_places functions = joined (map (λ (f : Function Slot Ty). body_places f.body) functions)

pub record AreTold (contract : Contract Slot Ty) (lowered : List SlotFunction) : Type 0 where
  pub innermost : Every (IsInnermost (all_places contract.functions)) (all_pairs lowered)
  pub ordered : AreOrdered (all_pairs lowered)
  -- each function by itself
  pub texts : Every IsText contract.functions
