use Rattle.std.proofs.Common.{◌≡◌, ◌≤◌, Ok, sym, subst}
use Rattle.script_codec.specs.declared.instr.Instr.{Instr}
use Rattle.script_codec.specs.declared.instr.Instr.TheVariants.{Do}
use Rattle.opcode_table.specs.declared.rows.Row.{Row}
use Rattle.opcode_table.specs.Table.{row_of}
use Rattle.bch_vm.specs.Setting.{around_of}
use Rattle.bch_vm.specs.Board.{row_after, keys_counted}
use Rattle.bch_vm.proofs.Keys.{keys_fit}
use Rattle.bch_vm.proofs.room.Room.exec.Goals as goal

pub returns-in_ok-row-in-Do-clause-keys : goal.returns-in_ok-row-in-Do-clause-keys
returns-in_ok-row-in-Do-clause-keys c =
    let a = around_of c.args.around.now in
    let row : row_after a (row_of c.in-Do.opcode.0) c.args.self.now ≡ Ok c.row.new.self =
    subst (λ (r : Row). row_after a r c.args.self.now ≡ Ok c.row.new.self) c.row_of.ensures.value c.in_ok-row-in-Do.ensures.ok in
    subst (λ (i : Instr). keys_counted i c.args.self.now ≤ c.args.around.now.left) (sym c.in-Do.is)
    (keys_fit a (Do c.in-Do.opcode) c.args.self.now c.row.new.self row)
