use Rattle.std.proofs.Common.{◌≡◌, [], map, drop}
use Rattle.type_check.specs.Reading.{run_from, reading_of_stmt}
use Rattle.type_check.proofs.statements.+statements.Given as goal

-- what is left, from here on, makes the whole
abbrev pub invariant-check_all-loop-s : goal.invariant-check_all-loop-s
invariant-check_all-loop-s l =
    run_from l.checked (map reading_of_stmt (drop l.s-index l.statements)) l.env.items
    ≡ run_from [] (map reading_of_stmt l.statements) l.initial.env.items
