use Rattle.std.proofs.Common.{◌≤◌, ℕ, List, map, pos, refl, sym, ◌∙◌, subst, length}
use Rattle.std.specs.Prelude.{IsTrue}
use Rattle.std.specs.List.{AllByRecursion}
use Rattle.std.proofs.lemmas.Bool.{and_from}
use Rattle.script_codec.specs.declared.instr.Instr.{Instr}
use Rattle.script_codec.specs.Names.{are_named}
use Rattle.span_map.specs.declared.SpanRow.{SpanRow}
use Rattle.artifact_json.specs.Artifact.{IsRowInside}
use Rattle.cash_compile.specs.Describes.{lossy_at, described_param, described_function, DescribesBy}
use Rattle.tidied_code.specs.Ends.{places}
use Rattle.cash_compile.specs.Compile.{code_size, code_count, most_bytes, most_opcodes}
use Rattle.cash_compile.proofs.Placed.{rows_inside}
use Rattle.cash_compile.proofs.Whole.{is_compiled, modest_is}
use Rattle.cash_compile.proofs.Described.{described}
use Rattle.cash_compile.proofs.compile.compiled_program.Goals as goal

pub program_of-requires-clause-inside : goal.program_of-requires-clause-inside
program_of-requires-clause-inside c =
    let len = length c.args.source.now in
    let given = c.requires.code in
    subst (AllByRecursion (IsRowInside len)) (sym given.3) (rows_inside c.args.contract.now given.0 len given.1.spans c.requires.fits.inside)

pub program_of-requires-clause-spelled : goal.program_of-requires-clause-spelled
program_of-requires-clause-spelled c =
    let source = c.args.source.now in
    let given = c.requires.code in
    let named = subst (λ (code : List Instr). IsTrue (are_named code)) (sym given.2) given.1.named in
    and_from _ _ named (c.requires.fits.types (described_param (lossy_at source)) (described_function (lossy_at source)) (λ p. refl) (λ f. refl))

pub returns-clause-compiled : goal.returns-clause-compiled
returns-clause-compiled c =
    let source = c.args.source.now in
    let contract = c.args.contract.now in
    let program = c.in_ok-program.program in
    let made = c.in_ok-program.ensures in
    let given = c.requires.code in
    let code_is = made.code ∙ given.2 in
    let modest = modest_is source contract given.0 program c.args.spans.items given.1.named c.requires.fits code_is made.describes in
    let told = subst (λ (rows : List SpanRow). DescribesBy (lossy_at source) source contract program rows) given.3 made.describes in
    is_compiled c.spend_is_decided.ensures (λ (n : ℕ). c.written_is_element.ensures (pos n)) c.pushes_count_nothing.ensures source contract given.0 program c.requires.accepted given.1 modest code_is
    (described source contract program (map places given.0) c.requires.fits.names told)
    (subst (λ (code : List Instr). code_size code ≤ most_bytes) given.2 c.requires.short)
    (subst (λ (code : List Instr). code_count code ≤ most_opcodes) given.2 c.requires.few)
