use Rattle.std.proofs.Common.{reverse, sym, ap, ◌∙◌}
use Rattle.bch_vm.specs.Board.{Board, is_live, outer}
use Rattle.bch_vm.proofs.Conditions.{live_around}
use Rattle.bch_vm.proofs.room.Room.is_live_outside.Goals as goal

pub returns-in-Some : goal.returns-in-Some
returns-in-Some c =
    c.are_all_true.ensures
    ∙ sym (live_around c.as_slice-open.result.now c.in-Some.around.now c.in-Some.field-0-0.now c.in-Some.ensures.cases.0)
    ∙ ap (λ conditions. is_live (outer (reverse conditions))) c.as_slice-open.ensures.value
    ∙ ap (λ (b : Board). is_live (outer b.conditions)) c.self.view_is
