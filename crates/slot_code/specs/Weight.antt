-- What each instruction of slot code pays for: bytes and counted opcodes, and the number of names in scope after it.
use Rattle.std.specs.Prelude.{ℕ, ◌+◌, ◌-◌, ◌*◌, Bool, true, false, if◌then◌else◌, List, [], ◌∷◌, map, length}
use Rattle.std.specs.List.{list_all}
use Rattle.element_ops.specs.declared.op.Op1.{Op1}
use Rattle.element_ops.specs.declared.op.Op1.TheVariants.{Size}
use Rattle.script_codec.specs.Spelling.{minimal_push}
use Rattle.slot_code.specs.declared.slots.SlotInstr.{SlotInstr}
use Rattle.slot_code.specs.declared.slots.SlotKind.{SlotKind}
use Rattle.slot_code.specs.declared.slots.SlotFunction.{SlotFunction}
use Rattle.slot_code.specs.declared.slots.SlotKind.TheOpen.{SlotKind-F, SlotInstr-F}
use Rattle.slot_code.specs.declared.slots.SlotKind.TheFolds.{fold-SlotKind, fold-SlotInstr}

pub record Weight : Type 0 where
  pub bytes : ℕ
  pub ops : ℕ
  pub names : ℕ

abbrev pub weight : ℕ → ℕ → ℕ → Weight
weight bytes ops names = record { bytes = bytes; ops = ops; names = names }

-- the weight, by the number of names in scope before
abbrev pub Weigh : Type 0
Weigh = ℕ → Weight

abbrev pub together : Weight → Weight → Weight
together a b = weight (a.bytes + b.bytes) (a.ops + b.ops) b.names

-- one after the other
abbrev pub then_weigh : Weigh → Weigh → Weigh
then_weigh a b names = together (a names) (b (a names).names)

-- bytes and opcodes that leave the names as they are
abbrev pub costs : ℕ → ℕ → Weigh
costs bytes ops names = weight bytes ops names

-- an instruction's weight, where more comes after it and where it ends a path, and whether it ends a slot
pub record Weighs : Type 0 where
  pub inner : Weigh
  pub last : Weigh
  pub is_end : Bool

abbrev pub all_weigh : List Weighs → Weigh
all_weigh [] = costs 0 0
all_weigh (w ∷ ws) = then_weigh w.inner (all_weigh ws)

-- whether only ends of slots are left
abbrev pub is_over : List Weighs → Bool
is_over ws = list_all (λ (w : Weighs). w.is_end) ws

-- the end of a path: once, and for each name in scope
abbrev pub end_weigh : Weigh
end_weigh names = weight (1 + names) (1 + names) names

-- a path with no instruction is that of a missing `else`
abbrev pub missing_weigh : Weigh
missing_weigh = then_weigh (costs 1 0) end_weigh

-- the last instruction that ends no slot pays for the path's end
abbrev pub path_weigh : List Weighs → Weigh
path_weigh [] = missing_weigh
path_weigh (w ∷ ws) = if is_over ws then then_weigh w.last (all_weigh ws) else then_weigh w.inner (path_weigh ws)

-- both blocks begin with the names before them, and these are in scope behind them
abbrev pub both : Weight → Weight → Weigh
both a b names = weight (a.bytes + b.bytes) (a.ops + b.ops) names

-- an `if`: its three signs, the joins of its blocks, and what stands in them
abbrev pub choice_weigh : List Weighs → List Weighs → Weigh
choice_weigh a b names =
    together (weight (3 + 10 * names) (3 + 4 * names) names) (both (all_weigh a names) (all_weigh b names) names)

-- one that ends a path has no joins, and its blocks are paths of their own
abbrev pub fork_weigh : List Weighs → List Weighs → Weigh
fork_weigh a b names = together (weight 3 3 names) (both (path_weigh a names) (path_weigh b names) names)

abbrev pub weighs : Weigh → Weigh → Weighs
weighs inner last = record { inner = inner; last = then_weigh last end_weigh; is_end = false }

abbrev pub plain : Weigh → Weighs
plain w = weighs w w

abbrev pub op_weigh : Op1 → Weigh
op_weigh Size = costs 2 2
op_weigh _ = costs 1 1

-- so many names more are in scope
abbrev pub names_more : ℕ → Weigh
names_more n names = weight 0 0 (names + n)

abbrev pub end_of_slot : Weighs
end_of_slot = record {
  inner = λ names. weight 5 2 (names - 1);
  last = then_weigh (λ names. weight 5 2 (names - 1)) end_weigh;
  is_end = true;
}

abbrev pub kind_weighs : SlotKind-F Weighs Weighs → Weighs
kind_weighs (SlotKind-F.Lit e) = plain (costs (length (minimal_push e.items)) 0)
kind_weighs (SlotKind-F.Get slot) = plain (costs 4 1)
kind_weighs (SlotKind-F.Do1 op) = plain (op_weigh op)
kind_weighs (SlotKind-F.Do2 op) = plain (costs 1 1)
kind_weighs (SlotKind-F.Do3 op) = plain (costs 1 1)
kind_weighs SlotKind-F.Split = plain (costs 1 1)
kind_weighs (SlotKind-F.Keep right) = plain (costs 1 1)
kind_weighs (SlotKind-F.Look0 what) = plain (costs 1 1)
kind_weighs (SlotKind-F.LookAt what) = plain (costs 1 1)
kind_weighs SlotKind-F.CheckSig = plain (costs 1 1)
kind_weighs SlotKind-F.CheckData = plain (costs 1 1)
kind_weighs (SlotKind-F.CheckMulti sigs keys) = plain (costs 1 (1 + keys))
kind_weighs SlotKind-F.Time = weighs (costs 2 2) (costs 3 2)
kind_weighs SlotKind-F.Age = weighs (costs 2 2) (costs 3 2)
kind_weighs SlotKind-F.Require = weighs (costs 1 1) (costs 0 0)
kind_weighs SlotKind-F.Chunk = plain (costs 40 26)
kind_weighs (SlotKind-F.Define slot) = plain (names_more 1)
kind_weighs (SlotKind-F.DefinePair left right) = plain (names_more 2)
kind_weighs (SlotKind-F.Assign slot) = plain (costs 5 2)
kind_weighs (SlotKind-F.End slot) = end_of_slot
kind_weighs (SlotKind-F.If a b) = record { inner = choice_weigh a b; last = fork_weigh a b; is_end = false }

abbrev pub instr_weighs : SlotInstr-F Weighs Weighs → Weighs
instr_weighs instr = instr.kind

unfoldable pub weighs_of : SlotInstr → Weighs
weighs_of = fold-SlotInstr Weighs Weighs kind_weighs instr_weighs

unfoldable pub weighs_at : SlotKind → Weighs
weighs_at = fold-SlotKind Weighs Weighs kind_weighs instr_weighs

abbrev pub weight_of : SlotFunction → Weight
weight_of f = path_weigh (map weighs_of f.body) (f.ctors + f.params)
