use Rattle.std.proofs.Common.{◌≡◌, ap, sym, ◌∙◌, subst}
use Rattle.std.proofs.lemmas.List.{take_rest}
use Rattle.script_codec.specs.Places.{placed, instruction_at, ReadsAs, LiesIn}
use Rattle.script_codec.proofs.Seams.{reads_as, lies_in}
use Rattle.script_codec.proofs.reading.next_instr.Goals as goal

pub returns : goal.returns
returns c =
    let s = c.args.script.now in
    let at = c.args.from in
    let value : c.first_instr.result ≡ instruction_at s at = c.first_instr.ensures ∙ ap (placed at) (take_rest s at) in record {
      value = value;
      reads = subst (ReadsAs s at) (sym value) (reads_as s at);
      inside = subst (LiesIn s at) (sym value) (lies_in s at c.requires.within);
    }
