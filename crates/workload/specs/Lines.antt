-- The four lines that tell of a workload.
use Rattle.std.specs.Prelude.{◌≡◌, ℕ, List, ◌++◌, codes}
use Rattle.std.specs.Fmt.{decimal}
use Rattle.hex.specs.Hex.{encode_lower}
use Rattle.workload.specs.Work.{Counts, IsWorked}

abbrev pub count_line : List ℕ → ℕ → List ℕ
count_line name n = name ++ codes " " ++ decimal n ++ codes "\n"

abbrev pub work_lines : Counts → List ℕ
work_lines counts =
    count_line (codes "contracts") counts.contracts ++ count_line (codes "spends") counts.spends
    ++ count_line (codes "accepted") counts.accepted ++ codes "digest " ++ encode_lower counts.digest ++ codes "\n"

-- the text tells the counts of so many contracts
abbrev pub IsSummary : ℕ → List ℕ → Type 0
IsSummary contracts text = (counts : Counts) × IsWorked contracts counts × (text ≡ work_lines counts)
