-- How many bytes and counted opcodes the code of a contract may have, summed statement by statement over its typed tree, with the
-- number of names in scope handed down.
use Rattle.std.specs.Prelude.{ℕ, ◌+◌, ◌*◌, nat_lt, if◌then◌else◌, List, [], ◌∷◌, length, map, Option, unwrap_or}
use Rattle.cash_base.specs.declared.place.Slot.{Slot}
use Rattle.cash_tree.specs.declared.Ty.{Ty}
use Rattle.cash_tree.specs.declared.Contract.{Contract}
use Rattle.cash_tree.specs.declared.Function.{Function}
use Rattle.cash_tree.specs.declared.Expr.{Expr}
use Rattle.cash_tree.specs.declared.ExprKind.TheOpen.{ExprKind-F}
use Rattle.cash_tree.specs.declared.ExprKind.TheViews.{out-ExprKind}
use Rattle.cash_tree.specs.declared.Stmt.{Stmt}
use Rattle.cash_tree.specs.declared.StmtKind.{StmtKind}
use Rattle.cash_tree.specs.declared.StmtKind.TheOpen.{StmtKind-F, Stmt-F}
use Rattle.cash_tree.specs.declared.StmtKind.TheFolds.{fold-Stmt, fold-StmtKind}
use Rattle.slot_expressions.specs.Room.{Price, price, ◌⊕◌, nothing, one, two, sum, price_of}

abbrev pub times : ℕ → Price → Price
times n p = price (n * p.bytes) (n * p.ops)

-- ---- statements

-- What a statement pays, by the number of names in scope before it: where others stand behind it, and where a path ends with it.
-- Behind it so many names more are in scope.
pub record Pays : Type 0 where
  pub inner : ℕ → Price
  pub last : ℕ → Price
  pub names : ℕ

-- the end of a path: once, and for each name in scope
abbrev pub path_end : ℕ → Price
path_end names = price (1 + names) (1 + names)

-- both prices, the second one without the end of the path
abbrev pub charges : Price → Price → ℕ → Pays
charges inner last more = record { inner = λ names. inner; last = λ names. last ⊕ path_end (names + more); names = more }

-- how many names statements define, blocks aside
abbrev pub defined : List Pays → ℕ
defined [] = 0
defined (p ∷ ps) = p.names + defined ps

-- statements behind which others stand
abbrev pub all_pay : List Pays → ℕ → Price
all_pay [] names = nothing
all_pay (p ∷ ps) names = p.inner names ⊕ all_pay ps (names + p.names)

-- The statements of a path, which ends with the last of them. One without statements is that of a missing `else`.
abbrev pub path_pays : List Pays → ℕ → Price
path_pays [] names = price 1 0 ⊕ path_end names
path_pays (p ∷ []) names = p.last names
path_pays (p ∷ q ∷ ps) names = p.inner names ⊕ path_pays (q ∷ ps) (names + p.names)

-- a block, with which its names end
abbrev pub block_pays : List Pays → ℕ → Price
block_pays ps names = all_pay ps names ⊕ times (defined ps) (price 5 2)

-- the signs of an `if`, and the join of its blocks for each name before it
abbrev pub signs : Price
signs = price 3 3

abbrev pub joins : ℕ → Price
joins names = times names (price 10 4)

-- an `if`, and one that ends a path, which joins nothing
abbrev pub if_pays : Price → List Pays → Option (List Pays) → Pays
if_pays test yes_block no_block = record {
  inner = λ names. test ⊕ signs ⊕ joins names ⊕ block_pays yes_block names ⊕ block_pays (unwrap_or no_block []) names;
  last = λ names. test ⊕ signs ⊕ path_pays yes_block names ⊕ path_pays (unwrap_or no_block []) names;
  names = 0;
}

-- both parts of a split are wanted, so the choice of one isn't paid for
abbrev pub parts_price : {K : Type 0} → ExprKind-F Slot Ty K (Expr Slot Ty) → Price
parts_price (ExprKind-F.Split a b) = one ⊕ price_of a ⊕ price_of b
parts_price _ = nothing

unfoldable pub pair_price : Expr Slot Ty → Price
pair_price e = parts_price (out-ExprKind Slot Ty e.kind)

-- at the end of a path a time form weighs an opcode's byte more, and the check of a `require` nothing but the path's end
abbrev pub kind_pays : StmtKind-F Slot Ty Pays Pays → Pays
kind_pays (StmtKind-F.Define t constant slot place value) = charges (price_of value) (price_of value) 1
kind_pays (StmtKind-F.Pair left right value) = charges (pair_price value) (pair_price value) 2
kind_pays (StmtKind-F.Assign slot value) = charges (price_of value ⊕ price 5 2) (price_of value ⊕ price 5 2) 0
kind_pays (StmtKind-F.Time value) = charges (price_of value ⊕ two) (price_of value ⊕ price 3 2) 0
kind_pays (StmtKind-F.Age value) = charges (price_of value ⊕ two) (price_of value ⊕ price 3 2) 0
kind_pays (StmtKind-F.Require value) = charges (price_of value ⊕ one) (price_of value) 0
kind_pays (StmtKind-F.If test yes_block no_block) = if_pays (price_of test) yes_block no_block

abbrev pub stmt_pays : Stmt-F Slot Ty Pays Pays → Pays
stmt_pays s = s.kind

unfoldable pub pays_of : Stmt Slot Ty → Pays
pays_of s = fold-Stmt Slot Ty Pays Pays kind_pays stmt_pays s

unfoldable pub pays_at : StmtKind Slot Ty → Pays
pays_at kind = fold-StmtKind Slot Ty Pays Pays kind_pays stmt_pays kind

-- ---- contracts

-- a function is a path, behind the parameters of the constructor and its own
abbrev pub function_price : Contract Slot Ty → Function Slot Ty → Price
function_price contract f = path_pays (map pays_of f.body) (length contract.params + length f.params)

-- the choice of a function, where there are two or more
abbrev pub choice_price : ℕ → Price
choice_price functions = if nat_lt functions 2 then nothing else times functions (price 15 7)

abbrev pub contract_price : Contract Slot Ty → Price
contract_price contract = sum (map (function_price contract) contract.functions) ⊕ choice_price (length contract.functions)

-- the bytes that the code of a contract may have
abbrev pub room : Contract Slot Ty → ℕ
room contract = (contract_price contract).bytes

-- ... and the counted opcodes
abbrev pub ops_room : Contract Slot Ty → ℕ
ops_room contract = (contract_price contract).ops
