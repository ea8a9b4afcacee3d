-- Rows of one operation, run on the stack alone.
use Rattle.std.proofs.Common.{◌≡◌, ℕ, ◌+◌, Bool, true, false, not, List, [], ◌∷◌, ◌++◌, map, Result, Ok, Err, pos, refl, sym, ap, ◌∙◌, subst}
use Rattle.std.specs.Prelude.{◌&&◌, nat_lt, ◌==◌}
use Rattle.std.specs.List.{list_all}
use Rattle.std.proofs.lemmas.Bool.{false≢true, and_parts, and_from}
use Rattle.cash_base.specs.declared.fault.MachineCause.{MachineCause}
use Rattle.cash_base.specs.declared.fault.MachineCause.TheVariants.{Underflow}
use Rattle.cash_base.specs.declared.place.Span.{Span}
use Rattle.cash_base.specs.Failing.{◌>>=◌}
use Rattle.cash_base.specs.Number.{minimal_bytes}
use Rattle.tx_context.specs.World.{World}
use Rattle.script_codec.specs.declared.spans.Spanned.{Spanned}
use Rattle.script_codec.specs.Reading.{push}
use Rattle.opcode_table.specs.declared.rows.Deed.{Deed as TableDeed}
use Rattle.opcode_table.specs.declared.rows.Row.{Row}
use Rattle.opcode_table.specs.declared.rows.Row.TheVariants.{Does}
use Rattle.opcode_table.specs.Asking.{Asked}
use Rattle.opcode_table.specs.Stack.{Stack}
use Rattle.opcode_table.specs.Deeds.{done}
use Rattle.opcode_table.specs.Table.{row_of}
use Rattle.bch_vm.specs.Board.{is_live}
use Rattle.slot_code.specs.Meaning.{State}
use Rattle.row_runs.specs.Rows.{row, machine, run_rows, step, IsNested}
use Rattle.row_runs.proofs.Turns.{nested_append}
use Rattle.stack_emitter.specs.Places.{Spot}
use Rattle.stack_emitter.specs.Codes.{are_sound, are_plain, is_plain_opcode, IsOpcode}
use Rattle.stack_emitter.specs.Correct.{value, machine_at, Fits, Agrees, Deed, Follows}
use Rattle.stack_emitter.proofs.Steps.{op, asked, stacked, step_push, step_do, push_nested, op_nested, op_sound, op_plain, plain_row, sound_append}
use Rattle.stack_pieces.specs.declared.pieces.Piece.{Piece}
use Rattle.stack_pieces.specs.declared.pieces.Piece.TheVariants.{Code, Number}
use Rattle.stack_pieces.specs.Pieces.{piece_instr, rows_of_pieces}

abbrev pub row_done : Asked → Row → Stack → Result Stack MachineCause
row_done asked (Does deed) stack = done asked deed stack
row_done asked _ stack = Err Underflow

abbrev pub piece_done : Asked → Piece → Stack → Result Stack MachineCause
piece_done asked (Code opcode) stack = row_done asked (row_of opcode) stack
piece_done asked (Number n) stack = Ok (minimal_bytes (pos n) ∷ stack)

abbrev pub pieces_done : Asked → List Piece → Stack → Result Stack MachineCause
pieces_done asked [] stack = Ok stack
pieces_done asked (p ∷ pieces) stack = piece_done asked p stack >>= pieces_done asked pieces

-- an opcode that may be emitted in a statement, and does a deed on the stack
abbrev pub does_row : Row → Bool
does_row (Does deed) = true
does_row _ = false

abbrev pub is_fine : Piece → Bool
is_fine (Code opcode) = is_plain_opcode opcode && does_row (row_of opcode)
is_fine (Number n) = true

record Fine (d c : Span) (p : Piece) : Type 0 where
  nested : IsNested (row (piece_instr p) d c ∷ [])
  sound : are_sound (row (piece_instr p) d c ∷ []) ≡ true
  plain : (rows : List Spanned) → are_plain d c rows ≡ true → are_plain d c (row (piece_instr p) d c ∷ rows) ≡ true
  steps : (world : World) (stack : Stack) (conditions : List Bool) → is_live conditions ≡ true
      → step world (row (piece_instr p) d c) (machine stack conditions) ≡ stacked d c conditions (piece_done (asked world) p stack)

fine : (d c : Span) (p : Piece) → is_fine p ≡ true → Fine d c p
fine d c (Number n) h = record {
  nested = push_nested (minimal_bytes (pos n)) d c;
  sound = refl;
  plain = λ rows k. plain_row (push (minimal_bytes (pos n))) d c rows refl k;
  steps = λ world stack conditions live. step_push world (minimal_bytes (pos n)) d c stack conditions live;
}
fine d c (Code opcode) h =
    let parts = and_parts (is_plain_opcode opcode) (does_row (row_of opcode)) h in
    by (row_of opcode) refl parts.0 parts.1
  where
    by : (r : Row) → row_of opcode ≡ r → is_plain_opcode opcode ≡ true → does_row r ≡ true → Fine d c (Code opcode)
    by (Does deed) e plain k =
        let is : IsOpcode opcode deed = record { row = e; plain = plain } in
        record {
          nested = op_nested opcode deed d c e;
          sound = op_sound opcode deed d c is;
          plain = λ rows k. op_plain opcode d c rows plain k;
          steps = λ world stack conditions live.
              step_do world opcode deed d c stack conditions e live
              ∙ ap (λ r. stacked d c conditions (row_done (asked world) r stack)) (sym e);
        }
    by _ e plain k = absurd (false≢true k)

pub pieces_nested : (d c : Span) (pieces : List Piece) → list_all is_fine pieces ≡ true → IsNested (rows_of_pieces d c pieces)
pieces_nested d c [] h = λ n. refl
pieces_nested d c (p ∷ pieces) h =
    let parts = and_parts (is_fine p) (list_all is_fine pieces) h in
    nested_append (row (piece_instr p) d c ∷ []) (rows_of_pieces d c pieces) (fine d c p parts.0).nested (pieces_nested d c pieces parts.1)

pub pieces_sound : (d c : Span) (pieces : List Piece) → list_all is_fine pieces ≡ true → are_sound (rows_of_pieces d c pieces) ≡ true
pieces_sound d c [] h = refl
pieces_sound d c (p ∷ pieces) h =
    let parts = and_parts (is_fine p) (list_all is_fine pieces) h in
    sound_append (row (piece_instr p) d c ∷ []) (rows_of_pieces d c pieces) (fine d c p parts.0).sound (pieces_sound d c pieces parts.1)

pub pieces_plain : (d c : Span) (pieces : List Piece) → list_all is_fine pieces ≡ true → are_plain d c (rows_of_pieces d c pieces) ≡ true
pieces_plain d c [] h = refl
pieces_plain d c (p ∷ pieces) h =
    let parts = and_parts (is_fine p) (list_all is_fine pieces) h in
    (fine d c p parts.0).plain (rows_of_pieces d c pieces) (pieces_plain d c pieces parts.1)

-- a run of the rows does the pieces in turn, and fails at the operation
pub pieces_run : (d c : Span) (pieces : List Piece) → list_all is_fine pieces ≡ true → (world : World) (stack : Stack) (conditions : List Bool)
    → is_live conditions ≡ true
    → run_rows world (rows_of_pieces d c pieces) (machine stack conditions) ≡ stacked d c conditions (pieces_done (asked world) pieces stack)
pieces_run d c [] h world stack conditions live = refl
pieces_run d c (p ∷ pieces) h world stack conditions live =
    let parts = and_parts (is_fine p) (list_all is_fine pieces) h in
    ap (λ r. r >>= run_rows world (rows_of_pieces d c pieces)) ((fine d c p parts.0).steps world stack conditions live)
    ∙ by (piece_done (asked world) p stack) (λ next. pieces_run d c pieces parts.1 world next conditions live)
  where
    by : (r : Result Stack MachineCause) → ((next : Stack) → run_rows world (rows_of_pieces d c pieces) (machine next conditions) ≡ stacked d c conditions (pieces_done (asked world) pieces next))
        → (stacked d c conditions r >>= run_rows world (rows_of_pieces d c pieces)) ≡ stacked d c conditions (r >>= pieces_done (asked world) pieces)
    by (Ok next) more = more next
    by (Err cause) more = refl

pub pieces_follow : (d c : Span) (pieces : List Piece) (f : Deed) (p q : Spot) → list_all is_fine pieces ≡ true
    → ((world : World) (s : State) (rest : Stack) (conditions : List Bool) → Fits p.operands s.operands
    → Agrees q rest conditions (f world s) (stacked d c conditions (pieces_done (asked world) pieces (s.operands ++ (map (value s.env) p.slots ++ rest)))))
    → Follows (rows_of_pieces d c pieces) f p q
pieces_follow d c pieces f p q h on = record {
  nested = pieces_nested d c pieces h;
  sound = pieces_sound d c pieces h;
  runs = λ world s rest conditions live fits.
      subst (λ x. Agrees q rest conditions (f world s) x)
      (sym (pieces_run d c pieces h world (s.operands ++ (map (value s.env) p.slots ++ rest)) conditions live))
      (on world s rest conditions fits);
}
