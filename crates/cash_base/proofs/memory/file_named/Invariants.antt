use Rattle.std.proofs.Common.{◌≡◌, drop}
use Rattle.cash_base.specs.Outside.{file_named as named}
use Rattle.cash_base.specs.Kept.{kept_files}
use Rattle.cash_base.proofs.memory.file_named.Given as goal

-- it is the first of what is left
abbrev pub invariant-loop-file : goal.invariant-loop-file
invariant-loop-file l = named l.name (kept_files (drop l.file-index l.files)) ≡ named l.name (kept_files l.files)
