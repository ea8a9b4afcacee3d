use Rattle.std.proofs.Common.{◌≡◌, [], map, drop}
use Rattle.type_check.specs.Reading.{each_from, reading_of}
use Rattle.type_check.proofs.expressions.+expression.Given as goal

-- what is left, from here on, makes the whole
abbrev pub invariant-all_parts-loop-part : goal.invariant-all_parts-loop-part
invariant-all_parts-loop-part l =
    each_from l.signature l.values (map reading_of (drop l.part-index l.parts)) l.env
    ≡ each_from l.signature [] (map reading_of l.parts) l.env
