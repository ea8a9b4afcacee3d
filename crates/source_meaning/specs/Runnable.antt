-- Which contracts the room can run, by what it has places for.
use Rattle.std.specs.Prelude.{◌≡◌, ℕ, Bool, ◌&&◌, nat_lt, nat_le, List, [], length, map, slice_get, Some, unwrap_or, IsTrue}
use Rattle.std.specs.List.{list_all}
use Rattle.cash_base.specs.declared.place.Slot.{Slot}
use Rattle.cash_tree.specs.declared.Ty.{Ty}
use Rattle.cash_tree.specs.declared.Param.{Param}
use Rattle.cash_tree.specs.declared.Contract.{Contract}
use Rattle.cash_tree.specs.declared.Function.{Function}
use Rattle.cash_tree.specs.declared.Expr.{Expr}
use Rattle.cash_tree.specs.declared.ExprKind.{ExprKind}
use Rattle.cash_tree.specs.declared.ExprKind.TheFolds.{fold-ExprKind}
use Rattle.cash_tree.specs.declared.Stmt.{Stmt}
use Rattle.cash_tree.specs.declared.StmtKind.{StmtKind}
use Rattle.cash_tree.specs.declared.StmtKind.TheOpen.{StmtKind-F, Stmt-F}
use Rattle.cash_tree.specs.declared.StmtKind.TheFolds.{fold-Stmt, fold-StmtKind}
use Rattle.cash_tree.specs.Nodes.{nodes, kind_nodes, node_nodes, most_nodes}

-- the most names of a function: 16 parameters of the constructor and 16 of its own, and 128 that its body defines
abbrev pub most_names : ℕ
most_names = 160

-- the name has a place
abbrev pub has_place : Slot → Bool
has_place slot = nat_lt slot.0 most_names

-- how many nodes an expression has
unfoldable pub node_count : Expr Slot Ty → ℕ
node_count e = nodes e

-- ... and one of this kind
unfoldable pub kind_count : ExprKind Slot Ty → ℕ
kind_count = fold-ExprKind Slot Ty ℕ ℕ kind_nodes node_nodes

-- the values of its nodes have places
abbrev pub is_small : Expr Slot Ty → Bool
is_small e = nat_le (node_count e) most_nodes

abbrev pub all_of : List Bool → Bool
all_of tests = list_all (λ t. t) tests

abbrev pub kind_fits : StmtKind-F Slot Ty Bool Bool → Bool
kind_fits (StmtKind-F.Define t constant slot place value) = has_place slot && is_small value
kind_fits (StmtKind-F.Pair left right value) = has_place left.name && (has_place right.name && is_small value)
kind_fits (StmtKind-F.Assign slot value) = has_place slot && is_small value
kind_fits (StmtKind-F.Time value) = is_small value
kind_fits (StmtKind-F.Age value) = is_small value
kind_fits (StmtKind-F.Require value) = is_small value
kind_fits (StmtKind-F.If test yes_block no_block) = is_small test && (all_of yes_block && all_of (unwrap_or no_block []))

abbrev pub node_fits : Stmt-F Slot Ty Bool Bool → Bool
node_fits s = s.kind

-- a statement whose names and values have places
unfoldable pub has_room : Stmt Slot Ty → Bool
has_room = fold-Stmt Slot Ty Bool Bool kind_fits node_fits

unfoldable pub kind_has_room : StmtKind Slot Ty → Bool
kind_has_room = fold-StmtKind Slot Ty Bool Bool kind_fits node_fits

abbrev pub params_have_room : List (Param Slot) → Bool
params_have_room params = list_all (λ (p : Param Slot). has_place p.name) params

-- The contract has a function at this place, with so many parameters, as the constructor has so many, and the room has
-- places for all.
pub record CanRun (contract : Contract Slot Ty) (ctor place args : ℕ) : Type 0 where
  pub function : Function Slot Ty
  pub found : slice_get contract.functions place ≡ Some function
  pub ctor_count : length contract.params ≡ ctor
  pub arg_count : length function.params ≡ args
  pub ctor_room : IsTrue (params_have_room contract.params)
  pub arg_room : IsTrue (params_have_room function.params)
  pub body_room : IsTrue (all_of (map has_room function.body))
