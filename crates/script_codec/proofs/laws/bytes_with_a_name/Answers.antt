use Rattle.script_codec.proofs.Table.{bytes_named}
use Rattle.script_codec.proofs.laws.bytes_with_a_name.Goals as goal

pub returns : goal.returns
returns c = bytes_named
