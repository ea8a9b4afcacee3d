use Rattle.std.proofs.Common.{refl}
use Rattle.script_codec.specs.Names.{named_opcodes}
use Rattle.script_codec.proofs.laws.constants_have_their_names.Goals as goal

pub returns : goal.returns
unfolding named_opcodes
returns c = (refl, refl, refl, refl, refl, refl, refl, refl)
