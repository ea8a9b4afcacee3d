-- Verdicts on signatures, as a table of rows.
use Rattle.std.specs.Prelude.{◌≡◌, ℕ, Bool, true, false, not, ◌&&◌, ◌==◌, nat_lt, List, [], ◌∷◌, ◌++◌, length, Result, Ok, Err, IsTrue}
use Rattle.std.specs.List.{list_any, list_all}
use Rattle.std.specs.Str.{bytes_eq}
use Rattle.cash_base.specs.Failing.{◌>>◌, refused_if}
use Rattle.tx_context.specs.Bytes.{are_bytes}
use Rattle.tx_context.specs.declared.verdict.TheConstants.{MOST_ROWS}
use Rattle.tx_context.specs.declared.verdict.Kind.{Kind}
use Rattle.tx_context.specs.declared.verdict.Kind.TheVariants.{Single, Multi, DataSig}
use Rattle.tx_context.specs.declared.verdict.Answer.{Answer}
use Rattle.tx_context.specs.declared.verdict.Answer.TheVariants.{Good, Malformed}
use Rattle.tx_context.specs.declared.verdict.TableFault.{TableFault}
use Rattle.tx_context.specs.declared.verdict.TableFault.TheVariants.{TooMany, MessageGiven, EmptySignatureGood, Repeated, Memory}

pub record Row : Type 0 where
  pub kind : Kind
  pub sig : List ℕ
  pub key : List ℕ
  pub message : List ℕ
  pub answer : Answer

-- a row of these parts
abbrev pub row_parts : Kind → List ℕ → List ℕ → List ℕ → Answer → Row
row_parts kind sig key message answer =
    record { kind = kind; sig = sig; key = key; message = message; answer = answer }

abbrev pub is_same_kind : Kind → Kind → Bool
is_same_kind Single Single = true
is_same_kind Multi Multi = true
is_same_kind DataSig DataSig = true
is_same_kind _ _ = false

abbrev pub is_good : Answer → Bool
is_good Good = true
is_good Malformed = false

-- the row speaks of this kind, signature, key and message
abbrev pub speaks_of : Kind → List ℕ → List ℕ → List ℕ → Row → Bool
speaks_of kind sig key message row =
    is_same_kind row.kind kind && (bytes_eq row.sig sig && (bytes_eq row.key key && bytes_eq row.message message))

-- a message where the kind has none
abbrev pub has_needless_message : Row → Bool
has_needless_message row = not (is_same_kind row.kind DataSig) && nat_lt 0 (length row.message)

-- an empty signature that is answered to be good
abbrev pub is_empty_and_good : Row → Bool
is_empty_and_good row = (length row.sig == 0) && is_good row.answer

-- the tests of a row after earlier ones, whose number is its index
abbrev pub row_check : List Row → Row → Result (Unit {0}) TableFault
row_check earlier row = do
  refused_if (has_needless_message row) (MessageGiven (length earlier))
  refused_if (is_empty_and_good row) (EmptySignatureGood (length earlier))
  refused_if (list_any (speaks_of row.kind row.sig row.key row.message) earlier) (Repeated (length earlier))

-- the rows after earlier ones, each in turn
abbrev pub rows_check : List Row → List Row → Result (Unit {0}) TableFault
rows_check earlier [] = Ok tt
rows_check earlier (row ∷ rows) = row_check earlier row >> rows_check (earlier ++ row ∷ []) rows

-- the table of these rows, or the fault of the first row that has one
abbrev pub checked_table : List Row → Result (List Row) TableFault
checked_table rows = do
  refused_if (nat_lt MOST_ROWS (length rows)) (TooMany (length rows))
  rows_check [] rows
  Ok rows

-- it has no fault
abbrev pub IsTable : List Row → Type 0
IsTable rows = checked_table rows ≡ Ok rows

-- memory ran out, or this is the fault of the first row that has one
abbrev pub IsRowsFault : List Row → TableFault → Type 0
IsRowsFault rows Memory = Unit {0}
IsRowsFault rows fault = rows_check [] rows ≡ Err fault

-- memory ran out, or this is the fault of the rows
abbrev pub IsTableFault : List Row → TableFault → Type 0
IsTableFault rows Memory = Unit {0}
IsTableFault rows fault = checked_table rows ≡ Err fault

-- its signature, key and message are bytes
abbrev pub has_bytes : Row → Bool
has_bytes row = are_bytes row.sig && (are_bytes row.key && are_bytes row.message)

-- the rows are a table, and what they hold are bytes
pub record AreVerdicts (rows : List Row) : Type 0 where
  pub table : IsTable rows
  pub bytes : IsTrue (list_all has_bytes rows)
