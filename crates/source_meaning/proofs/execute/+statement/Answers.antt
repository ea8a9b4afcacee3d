use Rattle.std.proofs.Common.{◌≡◌, map, rules}
use Rattle.std.specs.Prelude.{Err}
use Rattle.meaning_room.specs.Meaning.{env_after, kind_leaves}
use Rattle.meaning_room.specs.Names.{env_of}
use Rattle.source_meaning.proofs.StmtSteps.{block_cut, if_taken, if_passed, if_other, if_fails}
use Rattle.source_meaning.proofs.execute.+statement.Goals as goal

pub on_kind-returns-in_err-is_met-in-If-clause-err : goal.on_kind-returns-in_err-is_met-in-If-clause-err
on_kind-returns-in_err-is_met-in-If-clause-err t c =
    let s = c.args.s.now in
    let env = env_of c.args.names.now in
    let failed : kind_leaves c.args.world.now s.kind s.span env ≡ Err c.in_err-is_met-in-If.field-0.0 =
    if_fails c.args.world.now c.in-If.test c.in-If.yes c.in-If.no s.span env s.kind c.in_err-is_met-in-If.field-0.0 c.in-If.is c.in_err-is_met-in-If.ensures.err in
    search rules

pub on_kind-returns-in_err-run_block-in-If-clause-err : goal.on_kind-returns-in_err-run_block-in-If-clause-err
on_kind-returns-in_err-run_block-in-If-clause-err t c =
    let s = c.args.s.now in
    let env = env_of c.args.names.now in
    let block_failed = c.in_err-run_block-in-If.ensures.err in
    let inside = c.as_slice.ensures in
    let taken = if_taken c.args.world.now c.in-If.test c.in-If.yes c.in-If.no s.span env s.kind c.in_ok-is_met-in-If.field-0 c.in-If.is c.in_ok-is_met-in-If.ensures.value c.if-branch.true in
    let failed : kind_leaves c.args.world.now s.kind s.span env ≡ Err c.in_err-run_block-in-If.field-0.0 = cc in
    search rules

pub on_kind-returns-then-branch-clause-ok : goal.on_kind-returns-then-branch-clause-ok
on_kind-returns-then-branch-clause-ok t c =
    let s = c.args.s.now in
    let env = env_of c.args.names.now in
    let done = c.in_ok-run_block-in-If.ensures.ok in
    let inside = c.as_slice.ensures in
    let taken = if_taken c.args.world.now c.in-If.test c.in-If.yes c.in-If.no s.span env s.kind c.in_ok-is_met-in-If.field-0 c.in-If.is c.in_ok-is_met-in-If.ensures.value c.if-branch.true in
    cc

pub on_kind-returns-in_err-run_block-in-Some-clause-err : goal.on_kind-returns-in_err-run_block-in-Some-clause-err
on_kind-returns-in_err-run_block-in-Some-clause-err t c =
    let s = c.args.s.now in
    let env = env_of c.args.names.now in
    let block_failed = c.in_err-run_block-in-Some.ensures.err in
    let inside = c.as_slice-in-Some.ensures in
    let taken = if_other c.args.world.now c.in-If.test c.in-If.yes c.in-Some.other c.in-If.no s.span env s.kind c.in_ok-is_met-in-If.field-0 c.in-If.is c.in-Some.is c.in_ok-is_met-in-If.ensures.value c.if-branch.false in
    let failed : kind_leaves c.args.world.now s.kind s.span env ≡ Err c.in_err-run_block-in-Some.field-0.0 = cc in
    search rules

pub on_kind-returns-in-None-clause-ok : goal.on_kind-returns-in-None-clause-ok
on_kind-returns-in-None-clause-ok t c =
    let s = c.args.s.now in
    if_passed c.args.world.now c.in-If.test c.in-If.yes c.in-If.no s.span (env_of c.args.names.now) s.kind c.in_ok-is_met-in-If.field-0 c.in-If.is c.in-None.is c.in_ok-is_met-in-If.ensures.value c.if-branch.false

pub on_kind-returns-in_ok-run_block-in-Some-clause-ok : goal.on_kind-returns-in_ok-run_block-in-Some-clause-ok
on_kind-returns-in_ok-run_block-in-Some-clause-ok t c =
    let s = c.args.s.now in
    let env = env_of c.args.names.now in
    let done = c.in_ok-run_block-in-Some.ensures.ok in
    let inside = c.as_slice-in-Some.ensures in
    let taken = if_other c.args.world.now c.in-If.test c.in-If.yes c.in-Some.other c.in-If.no s.span env s.kind c.in_ok-is_met-in-If.field-0 c.in-If.is c.in-Some.is c.in_ok-is_met-in-If.ensures.value c.if-branch.false in
    cc

pub run_block-returns-clause-ok : goal.run_block-returns-clause-ok
run_block-returns-clause-ok t c =
    block_cut (map (env_after c.args.world.now) c.args.body.now) c.args.names.now c.mark-mark.result (env_of c.execute_all.new.names) (env_of c.cut.new.self)
    c.in_ok-execute_all.ensures.ok c.mark-mark.ensures c.cut.ensures
