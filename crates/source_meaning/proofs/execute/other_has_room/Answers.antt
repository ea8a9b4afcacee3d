use Rattle.std.proofs.Common.{[], map, subst}
use Rattle.std.specs.Prelude.{IsTrue, unwrap_or}
use Rattle.source_meaning.specs.Runnable.{all_of, has_room}
use Rattle.source_meaning.proofs.StmtSteps.{of_if}
use Rattle.source_meaning.proofs.execute.other_has_room.Goals as goal

pub returns : goal.returns
returns c =
    let places = of_if c.args.s.now.kind c.args.test.now c.args.yes.now c.args.no.now c.requires.kind c.requires.room in
    subst (λ o. IsTrue (all_of (map has_room (unwrap_or o [])))) c.requires.other places.other_fits
