-- What is told of an artifact, a spend file or a value that is refused: `input`, the fault's name, and its field or its numbers.
use Rattle.std.specs.Prelude.{ℕ, List, ◌++◌, codes}
use Rattle.std.specs.Fmt.{decimal}
use Rattle.tx_context.specs.declared.frame.FrameFault.{FrameFault}
use Rattle.tx_context.specs.declared.frame.FrameFault.TheVariants as frame
use Rattle.tx_context.specs.declared.verdict.TableFault.{TableFault}
use Rattle.tx_context.specs.declared.verdict.TableFault.TheVariants as table
use Rattle.artifact_json.specs.Fields.{key as artifact_key}
use Rattle.artifact_json.specs.declared.fault.ArtifactFault.{ArtifactFault}
use Rattle.artifact_json.specs.declared.fault.ArtifactFault.TheVariants as artifact
use Rattle.spend_json.specs.Fields.{key as file_key}
use Rattle.spend_json.specs.declared.fault.SpendFault.{SpendFault}
use Rattle.spend_json.specs.declared.fault.SpendFault.TheVariants as file
use Rattle.unlocker.specs.declared.BuildFault.{BuildFault}
use Rattle.unlocker.specs.declared.BuildFault.TheVariants as build

-- ---- lines

abbrev pub line : List ℕ → List ℕ
line name = codes "input " ++ name ++ codes "\n"

abbrev pub line_with : List ℕ → List ℕ → List ℕ
line_with name word = codes "input " ++ name ++ codes " " ++ word ++ codes "\n"

abbrev pub numbers_line : List ℕ → ℕ → ℕ → List ℕ
numbers_line name m n = codes "input " ++ name ++ codes " " ++ decimal m ++ codes " " ++ decimal n ++ codes "\n"

-- want of memory is told by the status alone
abbrev pub no_line : List ℕ
no_line = codes "out of memory\n"

-- ---- an artifact

abbrev pub artifact_line : ArtifactFault → List ℕ
artifact_line artifact.NotJson = line (codes "NotJson")
artifact_line (artifact.Missing field) = line_with (codes "Missing") (artifact_key field)
artifact_line (artifact.WrongKind field) = line_with (codes "WrongKind") (artifact_key field)
artifact_line (artifact.TooMany field) = line_with (codes "TooMany") (artifact_key field)
artifact_line (artifact.BadAsm word) = line_with (codes "BadAsm") (decimal word)
artifact_line (artifact.TooLong bytes) = line_with (codes "TooLong") (decimal bytes)
artifact_line (artifact.SpanCount rows opcodes) = numbers_line (codes "SpanCount") rows opcodes
artifact_line artifact.Memory = no_line

-- ---- a spend file

abbrev pub frame_line : FrameFault → List ℕ
frame_line frame.Version = line (codes "Version")
frame_line frame.NoInput = line (codes "NoInput")
frame_line (frame.TooMany count) = line_with (codes "TooMany") (decimal count)
frame_line (frame.Value index) = line_with (codes "Value") (decimal index)
frame_line (frame.BytecodeLength index) = line_with (codes "BytecodeLength") (decimal index)
frame_line frame.ActiveRange = line (codes "ActiveRange")

abbrev pub table_line : TableFault → List ℕ
table_line (table.TooMany rows) = line_with (codes "TooMany") (decimal rows)
table_line (table.MessageGiven row) = line_with (codes "MessageGiven") (decimal row)
table_line (table.EmptySignatureGood row) = line_with (codes "EmptySignatureGood") (decimal row)
table_line (table.Repeated row) = line_with (codes "Repeated") (decimal row)
table_line table.Memory = no_line

abbrev pub file_line : SpendFault → List ℕ
file_line file.NotJson = line (codes "NotJson")
file_line (file.Missing field) = line_with (codes "Missing") (file_key field)
file_line (file.WrongKind field) = line_with (codes "WrongKind") (file_key field)
file_line (file.TooMany field) = line_with (codes "TooMany") (file_key field)
file_line (file.BadHex field) = line_with (codes "BadHex") (file_key field)
file_line (file.Range field) = line_with (codes "Range") (file_key field)
file_line (file.Frame fault) = frame_line fault
file_line (file.Table fault) = table_line fault
file_line file.Memory = no_line

-- ---- the values of a spend

abbrev pub build_line : BuildFault → List ℕ
build_line (build.WrongCount wanted found) = numbers_line (codes "WrongCount") wanted found
build_line build.NoSuchFunction = line (codes "NoSuchFunction")
build_line build.WrongValue = line (codes "WrongValue")
build_line (build.WrongLength wanted found) = numbers_line (codes "WrongLength") wanted found
build_line build.IntRange = line (codes "IntRange")
build_line (build.TooLong bytes) = line_with (codes "TooLong") (decimal bytes)
build_line (build.RedeemTooLong bytes) = line_with (codes "RedeemTooLong") (decimal bytes)
build_line (build.UnlockTooLong bytes) = line_with (codes "UnlockTooLong") (decimal bytes)
build_line build.PushesGiven = line (codes "PushesGiven")
build_line build.Memory = no_line
