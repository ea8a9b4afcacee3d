-- What a contract means over its named variables: the value of an expression, what statements do, and how a run ends.
use Rattle.std.specs.Prelude.{ℕ, ◌*◌, ◌==◌, ◌&&◌, nat_le, Bool, is_some, if◌then◌else◌, List, [], ◌∷◌, length, map, pos, Option, Some, None, unwrap_or, Result, Ok, Err}
use Rattle.cash_base.specs.declared.fault.Cause.{Cause}
use Rattle.cash_base.specs.declared.fault.Cause.TheVariants.{CheckFailed}
use Rattle.cash_base.specs.declared.place.Span.{Span}
use Rattle.cash_base.specs.declared.place.Slot.{Slot}
use Rattle.cash_base.specs.Failing.{◌>>=◌}
use Rattle.cash_base.specs.Number.{truth_of}
use Rattle.element_ops.specs.declared.op.Op1.TheVariants.{Size, Reverse}
use Rattle.element_ops.specs.declared.op.Op2.TheVariants.{Cat, Pad}
use Rattle.element_ops.specs.Operand.{number_element, truth_element}
use Rattle.element_ops.specs.Operation.{Outcome, result1, result2, result3, split_parts}
use Rattle.tx_context.specs.World.{World}
use Rattle.tx_context.specs.Lookup.{sized, context_value, indexed_value, time_outcome, age_outcome}
use Rattle.tx_context.specs.Table.{Row}
use Rattle.tx_context.specs.Verdict.{single_verdict, multi_verdict}
use Rattle.tx_context.specs.declared.verdict.Kind.TheVariants.{Single, DataSig}
use Rattle.cash_tree.specs.declared.Ty.{Ty}
use Rattle.cash_tree.specs.declared.Param.{Param}
use Rattle.cash_tree.specs.declared.Contract.{Contract}
use Rattle.cash_tree.specs.declared.Function.{Function}
use Rattle.cash_tree.specs.declared.Stmt.{Stmt}
use Rattle.cash_tree.specs.declared.StmtKind.TheOpen.{StmtKind-F, Stmt-F}
use Rattle.cash_tree.specs.declared.StmtKind.{StmtKind}
use Rattle.cash_tree.specs.declared.StmtKind.TheFolds.{fold-Stmt, fold-StmtKind}
use Rattle.cash_tree.specs.declared.Callee.{Callee}
use Rattle.cash_tree.specs.declared.Callee.TheVariants.{Known, Unknown}
use Rattle.cash_tree.specs.declared.Expr.{Expr}
use Rattle.cash_tree.specs.declared.ExprKind.{ExprKind}
use Rattle.cash_tree.specs.declared.ExprKind.TheOpen.{ExprKind-F, Expr-F}
use Rattle.cash_tree.specs.declared.ExprKind.TheFolds.{fold-Expr, fold-ExprKind}
use Rattle.type_tables.specs.Tables.{cast_effect}
use Rattle.form_tables.specs.declared.forms.CallForm.{CallForm}
use Rattle.form_tables.specs.declared.forms.CallForm.TheVariants.{One as One-operand, Two as Two-operands, Three as Three-operands, CheckSig, CheckData, CheckMulti, Locks, HoldsData}
use Rattle.form_tables.specs.declared.forms.Lock.{Lock}
use Rattle.form_tables.specs.Forms.{unary_op, is_int, binary_form, binary_result, cast_result, call_form, verdict_result, lock_front, lock_back, data_front, pushed_chunk}
use Rattle.meaning_room.specs.declared.outcome.Failure.{Failure}
use Rattle.meaning_room.specs.declared.outcome.SourceOutcome.{SourceOutcome}
use Rattle.meaning_room.specs.declared.outcome.SourceOutcome.TheVariants.{Met, Failed}

-- ---- names

-- the elements of the names that have one
abbrev pub Env : Type 0
Env = Slot → Option (List ℕ)

abbrev pub no_values : Env
no_values slot = None

abbrev pub with_value : Slot → List ℕ → Env → Env
with_value slot e env other = if other.0 == slot.0 then Some e else env other

-- each parameter has its element
abbrev pub with_values : List (Param Slot) → List (List ℕ) → Env → Env
with_values (param ∷ params) (e ∷ elements) env = with_values params elements (with_value param.name e env)
with_values _ _ env = env

-- the names of a block end with it
abbrev pub outside : Env → Env → Env
outside before after slot = if is_some (before slot) then after slot else None

-- ---- what an expression gives

-- an element, or both parts of a split
pub data Given : Type 0 where
  One : List ℕ → Given
  Two : List ℕ → List ℕ → Given

abbrev pub Value : Type 0
Value = Result Given Failure

abbrev pub fails : {A : Type 0} → Span → Cause → Result A Failure
fails span cause = Err (record { span = span; cause = cause })

-- a fault carries the span of its expression
abbrev pub at_span : {A : Type 0} → Span → Result A Cause → Result A Failure
at_span span (Ok x) = Ok x
at_span span (Err cause) = fails span cause

-- what an operation gives
abbrev pub applied : Span → Outcome → Value
applied span outcome = do
  e ← at_span span outcome
  Ok (One e)

abbrev pub left_of : Given → List ℕ
left_of (One e) = e
left_of (Two a b) = a

abbrev pub right_of : Given → List ℕ
right_of (One e) = e
right_of (Two a b) = b

-- the element; both parts of a split stand only under an index, and in a definition of two names
abbrev pub element : Value → Result (List ℕ) Failure
element value = do
  given ← value
  Ok (left_of given)

-- one after the other
abbrev pub elements : List Value → Result (List (List ℕ)) Failure
elements [] = Ok []
elements (value ∷ values) = do
  e ← element value
  es ← elements values
  Ok (e ∷ es)

-- ---- the nodes of an expression

-- A node as the one above it sees it: its type, what it gives, and what the items of an array give, which are evaluated only
-- where they are asked for.
pub record Node : Type 0 where
  pub ty : Ty
  pub value : Value
  pub items : List Value

pub record Kind : Type 0 where
  pub value : Span → Value
  pub items : List Value

abbrev pub values : List Node → List Value
values nodes = map (λ (n : Node). n.value) nodes

-- one piece more of a script that an instantiation builds
abbrev pub appended : Span → List ℕ → List ℕ → Result (List ℕ) Failure
appended span so_far piece = at_span span (result2 Cat so_far piece)

-- a lock around a hash
abbrev pub locked : Span → Lock → List ℕ → Result (List ℕ) Failure
locked span lock hash = do
  so_far ← appended span (lock_front lock) hash
  appended span so_far (lock_back lock)

-- Each chunk is evaluated only when all before it are appended.
abbrev pub with_chunks : Span → List ℕ → List Value → Result (List ℕ) Failure
with_chunks span so_far [] = Ok so_far
with_chunks span so_far (value ∷ values) = do
  chunk ← element value
  next ← appended span so_far (pushed_chunk chunk)
  with_chunks span next values

-- At most 20 keys, and no more signatures than keys: any other check has no type, and fails.
abbrev pub checked_multi : List Row → List (List ℕ) → List (List ℕ) → Result Bool Cause
checked_multi rows sigs keys =
    if nat_le (length keys) 20 && nat_le (length sigs) (length keys) then multi_verdict rows sigs keys else Err CheckFailed

-- A function or an instantiation, by its row. A wrong number of arguments has no type, and fails.
abbrev pub form_value : World → Span → CallForm → List Node → Value
form_value world span (One-operand op) (a ∷ []) = do
  x ← element a.value
  applied span (result1 op x)
form_value world span (Two-operands op) (a ∷ b ∷ []) = do
  x ← element a.value
  y ← element b.value
  applied span (result2 op x y)
form_value world span (Three-operands op) (a ∷ b ∷ c ∷ []) = do
  x ← element a.value
  y ← element b.value
  z ← element c.value
  applied span (result3 op x y z)
form_value world span CheckSig (a ∷ b ∷ []) = do
  sig ← element a.value
  key ← element b.value
  applied span (verdict_result (single_verdict world.verdicts Single sig key []))
form_value world span CheckData (a ∷ b ∷ c ∷ []) = do
  sig ← element a.value
  message ← element b.value
  key ← element c.value
  applied span (verdict_result (single_verdict world.verdicts DataSig sig key message))
form_value world span CheckMulti (a ∷ b ∷ []) = do
  sigs ← elements a.items
  keys ← elements b.items
  applied span (verdict_result (checked_multi world.verdicts sigs keys))
form_value world span (Locks lock) (a ∷ []) = do
  hash ← element a.value
  whole ← locked span lock hash
  Ok (One whole)
form_value world span HoldsData (a ∷ []) = do
  whole ← with_chunks span data_front a.items
  Ok (One whole)
form_value world span _ args = fails span CheckFailed

-- a call of a name that is none of the language's has no tree with slots, and fails
abbrev pub call_value : World → Span → Callee → List Node → Value
call_value world span (Known f) args = form_value world span (call_form f) args
call_value world span (Unknown name) args = fails span CheckFailed

-- the parts of a split are numbered from 0
abbrev pub part_at : ℕ → Given → List ℕ
part_at number given = if number == 0 then left_of given else right_of given

-- Parts are evaluated from left to right, and the first that fails fails the whole. An array has items alone.
abbrev pub kind_value : World → Env → ExprKind-F Slot Ty Kind Node → Span → Value
kind_value world env (ExprKind-F.Int digits unit) span = applied span (number_element (pos (digits * unit)))
kind_value world env (ExprKind-F.Bool b) span = applied span (truth_element b)
kind_value world env (ExprKind-F.Hex bytes) span = applied span (sized bytes)
kind_value world env (ExprKind-F.Text bytes) span = applied span (sized bytes)
kind_value world env (ExprKind-F.Date seconds) span = applied span (number_element seconds)
kind_value world env (ExprKind-F.Name slot) span = Ok (One (unwrap_or (env slot) []))
kind_value world env (ExprKind-F.Unary op a) span = do
  x ← element a.value
  applied span (result1 (unary_op op) x)
kind_value world env (ExprKind-F.Binary op a b) span = do
  x ← element a.value
  y ← element b.value
  applied span (binary_result (binary_form (is_int a.ty) op) x y)
kind_value world env (ExprKind-F.Length a) span = do
  x ← element a.value
  applied span (result1 Size x)
kind_value world env (ExprKind-F.Reverse a) span = do
  x ← element a.value
  applied span (result1 Reverse x)
kind_value world env (ExprKind-F.Split a b) span = do
  x ← element a.value
  y ← element b.value
  parts ← at_span span (split_parts x y)
  Ok (Two parts.0 parts.1)
kind_value world env (ExprKind-F.Index a number) span = do
  given ← a.value
  Ok (One (part_at number given))
kind_value world env (ExprKind-F.Cast to a None) span = do
  x ← element a.value
  applied span (cast_result (cast_effect to a.ty) x)
kind_value world env (ExprKind-F.Cast to a (Some b)) span = do
  x ← element a.value
  y ← element b.value
  applied span (result2 Pad x y)
kind_value world env (ExprKind-F.Call callee args) span = call_value world span callee args
kind_value world env (ExprKind-F.New callee args) span = call_value world span callee args
kind_value world env (ExprKind-F.Array items) span = fails span CheckFailed
kind_value world env (ExprKind-F.Look0 what) span = applied span (context_value world.context what world.redeem)
kind_value world env (ExprKind-F.LookAt what a) span = do
  x ← element a.value
  applied span (indexed_value world.context what x)

abbrev pub kind_items : ExprKind-F Slot Ty Kind Node → List Value
kind_items (ExprKind-F.Array items) = values items
kind_items _ = []

abbrev pub kind_step : World → Env → ExprKind-F Slot Ty Kind Node → Kind
kind_step world env kind = record { value = kind_value world env kind; items = kind_items kind }

abbrev pub node_step : Expr-F Slot Ty Kind Node → Node
node_step e = record { ty = e.ty; value = e.kind.value e.span; items = e.kind.items }

unfoldable pub node_of : World → Env → Expr Slot Ty → Node
node_of world env = fold-Expr Slot Ty Kind Node (kind_step world env) node_step

unfoldable pub kind_of : World → Env → ExprKind Slot Ty → Kind
kind_of world env = fold-ExprKind Slot Ty Kind Node (kind_step world env) node_step

-- what a kind of expression gives at its span
unfoldable pub kind_gives : World → Env → ExprKind Slot Ty → Span → Value
kind_gives world env kind span = (kind_of world env kind).value span

-- ... and its items
unfoldable pub kind_lists : World → Env → ExprKind Slot Ty → List Value
kind_lists world env kind = (kind_of world env kind).items

-- what the items of an array give; what is no array has none
abbrev pub items_of : World → Env → Expr Slot Ty → List Value
items_of world env e = (node_of world env e).items

-- what an expression gives, or where it fails and why
abbrev pub value_of : World → Env → Expr Slot Ty → Value
value_of world env e = (node_of world env e).value

-- ---- statements

-- what is left in the slots, or the first failure
abbrev pub Doing : Type 0
Doing = Env → Result Env Failure

abbrev pub in_turn : List Doing → Doing
in_turn [] env = Ok env
in_turn (doing ∷ doings) env = do
  next ← doing env
  in_turn doings next

abbrev pub block : List Doing → Doing
block doings env = do
  after ← in_turn doings env
  Ok (outside env after)

-- a false value fails at the statement
abbrev pub checked : Span → List ℕ → Doing
checked span e env = if truth_of e then Ok env else fails span CheckFailed

-- ... and so does a time that isn't reached
abbrev pub passed : Span → Result (Unit {0}) Cause → Doing
passed span outcome env = do
  u ← at_span span outcome
  Ok env

-- the block that a test picks; a missing block is empty
abbrev pub picked : List ℕ → List Doing → Option (List Doing) → List Doing
picked e yes_block no_block = if truth_of e then yes_block else unwrap_or no_block []

abbrev pub stmt_kind_step : World → StmtKind-F Slot Ty (Span → Doing) Doing → Span → Doing
stmt_kind_step world (StmtKind-F.Define t constant slot place value) span env = do
  e ← element (value_of world env value)
  Ok (with_value slot e env)
stmt_kind_step world (StmtKind-F.Pair left right value) span env = do
  given ← value_of world env value
  Ok (with_value right.name (right_of given) (with_value left.name (left_of given) env))
stmt_kind_step world (StmtKind-F.Assign slot value) span env = do
  e ← element (value_of world env value)
  Ok (with_value slot e env)
stmt_kind_step world (StmtKind-F.Time value) span env = do
  e ← element (value_of world env value)
  passed span (time_outcome world.context e) env
stmt_kind_step world (StmtKind-F.Age value) span env = do
  e ← element (value_of world env value)
  passed span (age_outcome world.context e) env
stmt_kind_step world (StmtKind-F.Require value) span env = do
  e ← element (value_of world env value)
  checked span e env
stmt_kind_step world (StmtKind-F.If test yes_block no_block) span env = do
  e ← element (value_of world env test)
  block (picked e yes_block no_block) env

abbrev pub stmt_step : Stmt-F Slot Ty (Span → Doing) Doing → Doing
stmt_step s env = s.kind s.span env

-- what a kind of statement leaves, at its span
unfoldable pub kind_leaves : World → StmtKind Slot Ty → Span → Doing
kind_leaves world = fold-StmtKind Slot Ty (Span → Doing) Doing (stmt_kind_step world) stmt_step

-- what a statement leaves
unfoldable pub env_after : World → Stmt Slot Ty → Doing
env_after world = fold-Stmt Slot Ty (Span → Doing) Doing (stmt_kind_step world) stmt_step

abbrev pub env_after_all : World → List (Stmt Slot Ty) → Doing
env_after_all world statements = in_turn (map (env_after world) statements)

-- ---- a run

abbrev pub ended : {A : Type 0} → Result A Failure → SourceOutcome
ended (Ok x) = Met
ended (Err failure) = Failed failure.span failure.cause

-- the elements at the start
abbrev pub handed : Contract Slot Ty → List (List ℕ) → Function Slot Ty → List (List ℕ) → Env
handed contract ctor function args = with_values function.params args (with_values contract.params ctor no_values)

-- How a function of the contract ends in a world: the constructor's parameters have ctor, and the function's have args.
abbrev pub source_outcome : Contract Slot Ty → List (List ℕ) → Function Slot Ty → List (List ℕ) → World → SourceOutcome
source_outcome contract ctor function args world =
    ended (env_after_all world function.body (handed contract ctor function args))
