use Rattle.std.proofs.Common.{drop}
use Rattle.std.specs.List.{AllByRecursion}
use Rattle.asm_text.specs.Assembly.{PushesElement}
use Rattle.artifact_json.proofs.laws.each_pushes_an_element.Given as goal

-- what holds of those left holds of all
abbrev pub invariant-loop-instr : goal.invariant-loop-instr
invariant-loop-instr l = AllByRecursion PushesElement (drop l.instr-index l.code) → AllByRecursion PushesElement l.code
