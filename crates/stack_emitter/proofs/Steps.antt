-- What rows do where they are executed, and what of them composes.
use Rattle.std.proofs.Common.{◌≡◌, ℕ, Bool, true, not, List, [], ◌∷◌, ◌++◌, map, Result, Ok, Err, refl, sym, ap, ◌∙◌, subst, append_assoc, append-nil}
use Rattle.std.specs.Prelude.{◌&&◌, ◌==◌, nat_lt, option_and_then}
use Rattle.std.proofs.lemmas.Bool.{and_parts, and_from, eq-eqb}
use Rattle.cash_base.specs.declared.fault.MachineCause.{MachineCause}
use Rattle.cash_base.specs.declared.place.Span.{Span}
use Rattle.cash_base.specs.Failing.{◌>>=◌}
use Rattle.cash_base.specs.Source.{place_in}
use Rattle.tx_context.specs.World.{World}
use Rattle.script_codec.specs.declared.instr.Instr.{Instr}
use Rattle.script_codec.specs.declared.instr.Instr.TheVariants.{Do}
use Rattle.script_codec.specs.declared.spans.Spanned.{Spanned}
use Rattle.script_codec.specs.Reading.{push}
use Rattle.script_codec.specs.Counting.{takes_keys}
use Rattle.script_codec.specs.Names.{is_named, has_name}
use Rattle.stack_emitter.proofs.Named.{op_named}
use Rattle.opcode_table.specs.declared.rows.Deed.{Deed as TableDeed}
use Rattle.opcode_table.specs.declared.rows.Row.TheVariants.{Does}
use Rattle.opcode_table.specs.Asking.{Asked}
use Rattle.opcode_table.specs.Stack.{Stack}
use Rattle.opcode_table.specs.Deeds.{done}
use Rattle.opcode_table.specs.Table.{row_of}
use Rattle.bch_vm.specs.Setting.{around, asked_at}
use Rattle.bch_vm.specs.Board.{board, is_live, on_stack, executed_where, row_after, pushed_where, is_condition}
use Rattle.run_laws.specs.Nested.{open_after_row, nesting}
use Rattle.source_meaning.specs.declared.outcome.Failure.{Failure}
use Rattle.slot_code.specs.Meaning.{State, Act}
use Rattle.row_runs.specs.Rows.{row, machine, fault, Next, setting_of, placed, step, run_rows, IsNested}
use Rattle.row_runs.specs.Code.{row_is_simple}
use Rattle.row_runs.proofs.Turns.{run_append, then_ok, nested_append}
use Rattle.stack_emitter.specs.Places.{Spot}
use Rattle.stack_emitter.specs.declared.emit.Emitter.{Emitter}
use Rattle.stack_emitter.specs.Codes.{is_span, is_sound, are_sound, is_plain_instr, are_plain, is_in_names, is_plain_opcode, IsOpcode}
use Rattle.stack_emitter.specs.Correct.{value, machine_at, Fits, Agrees, Deed, Follows, Emits, Adds, nothing, then_deed}

abbrev pub op : ℕ → Instr
op opcode = Do (record { 0 = opcode })

-- ---- one row

abbrev pub asked : World → Asked
asked world = asked_at (around (setting_of world) 0 20) 0

abbrev pub stacked : Span → Span → List Bool → Result Stack MachineCause → Next
stacked d c conditions (Ok stack) = Ok (machine stack conditions)
stacked d c conditions (Err cause) = Err (fault (place_in d c cause) cause)

pub step_push : (world : World) (e : List ℕ) (d c : Span) (stack : Stack) (conditions : List Bool) → is_live conditions ≡ true
    → step world (row (push e) d c) (machine stack conditions) ≡ Ok (machine (e ∷ stack) conditions)
step_push world e d c stack conditions live =
    ap (λ l. placed (row (push e) d c) (Ok (pushed_where l e (board stack [] conditions 0)))) live

pub step_do : (world : World) (opcode : ℕ) (deed : TableDeed) (d c : Span) (stack : Stack) (conditions : List Bool)
    → row_of opcode ≡ Does deed → is_live conditions ≡ true
    → step world (row (op opcode) d c) (machine stack conditions) ≡ stacked d c conditions (done (asked world) deed stack)
step_do world opcode deed d c stack conditions at live =
    ap (λ w. placed (row (op opcode) d c) (row_after (around (setting_of world) 0 20) w (board stack [] conditions 0))) at
    ∙ ap (λ l. placed (row (op opcode) d c) (executed_where l (on_stack (done (asked world) deed)) (board stack [] conditions 0))) live
    ∙ by (done (asked world) deed stack)
  where
    by : (r : Result Stack MachineCause)
        → placed (row (op opcode) d c) (r >>= λ after. Ok (board after [] conditions 0)) ≡ stacked d c conditions r
    by (Ok after) = refl
    by (Err cause) = refl

-- ---- the form of rows

pub push_nested : (e : List ℕ) (d c : Span) → IsNested (row (push e) d c ∷ [])
push_nested e d c n = refl

pub op_nested : (opcode : ℕ) (deed : TableDeed) (d c : Span) → row_of opcode ≡ Does deed → IsNested (row (op opcode) d c ∷ [])
op_nested opcode deed d c at n = ap (λ w. option_and_then (nesting []) (open_after_row w n)) at

opcode_parts : (opcode : ℕ) → is_plain_opcode opcode ≡ true
    → (is_in_names opcode ≡ true) × (not (is_condition opcode) ≡ true) × (not (opcode == 0x74) ≡ true) × (not (takes_keys opcode) ≡ true)
opcode_parts opcode h =
    let p = and_parts (is_in_names opcode) _ h in
    let q = and_parts (not (is_condition opcode)) _ p.1 in
    let r = and_parts (not (opcode == 0x74)) _ q.1 in
    (p.0, q.0, r.0, r.1)

-- an opcode that has a name
pub sound_opcode : (opcode : ℕ) → is_in_names opcode ≡ true → row_is_simple (row_of opcode) ≡ true → not (opcode == 0x74) ≡ true → is_sound (op opcode) ≡ true
sound_opcode opcode named simple other =
    let n = op_named opcode named in
    and_from (nat_lt 0x60 opcode) _ (and_parts (nat_lt 0x60 opcode) (has_name opcode) n).0
    (and_from (row_is_simple (row_of opcode)) _ simple (and_from (not (opcode == 0x74)) (is_named (op opcode)) other n))

pub op_sound : (opcode : ℕ) (deed : TableDeed) (d c : Span) → IsOpcode opcode deed → are_sound (row (op opcode) d c ∷ []) ≡ true
op_sound opcode deed d c is =
    let p = opcode_parts opcode is.plain in
    and_from (is_sound (op opcode)) true (sound_opcode opcode p.0 (ap row_is_simple is.row) p.2) refl

pub sound_append : (a b : List Spanned) → are_sound a ≡ true → are_sound b ≡ true → are_sound (a ++ b) ≡ true
sound_append [] b h k = k
sound_append (r ∷ a) b h k =
    let p = and_parts (is_sound r.instr) (are_sound a) h in
    and_from (is_sound r.instr) (are_sound (a ++ b)) p.0 (sound_append a b p.1 k)

pub itself : (c : Span) → is_span c c ≡ true
itself c = and_from (c.from == c.from) (c.to == c.to) (eq-eqb c.from c.from refl) (eq-eqb c.to c.to refl)

pub plain_row : (instr : Instr) (d c : Span) (rows : List Spanned) → is_plain_instr instr ≡ true → are_plain d c rows ≡ true
    → are_plain d c (row instr d c ∷ rows) ≡ true
plain_row instr d c rows h k =
    ap (λ b. ((b && is_span c c) && is_plain_instr instr) && are_plain d c rows) (itself d)
    ∙ ap (λ b. (b && is_plain_instr instr) && are_plain d c rows) (itself c) ∙ ap (λ b. b && are_plain d c rows) h ∙ k

pub op_plain : (opcode : ℕ) (d c : Span) (rows : List Spanned) → is_plain_opcode opcode ≡ true → are_plain d c rows ≡ true
    → are_plain d c (row (op opcode) d c ∷ rows) ≡ true
op_plain opcode d c rows h k =
    let p = opcode_parts opcode h in
    plain_row (op opcode) d c rows (and_from (not (is_condition opcode)) (not (takes_keys opcode)) p.1 p.3) k

pub plain_append : (d c : Span) (a b : List Spanned) → are_plain d c a ≡ true → are_plain d c b ≡ true → are_plain d c (a ++ b) ≡ true
plain_append d c [] b h k = k
plain_append d c (r ∷ a) b h k =
    let p = and_parts ((is_span d r.doing && is_span c r.checking) && is_plain_instr r.instr) (are_plain d c a) h in
    and_from ((is_span d r.doing && is_span c r.checking) && is_plain_instr r.instr) (are_plain d c (a ++ b)) p.0 (plain_append d c a b p.1 k)

-- ---- rows that follow deeds

pub agrees_then : (world : World) (q t : Spot) (rest : Stack) (conditions : List Bool) (o : Result State Failure) (r : Next) (g : Act) (rows : List Spanned)
    → ((s : State) → Fits q.operands s.operands → Agrees t rest conditions (g s) (run_rows world rows (machine_at q.slots rest conditions s)))
    → Agrees q rest conditions o r → Agrees t rest conditions (o >>= g) (r >>= run_rows world rows)
agrees_then world q t rest conditions (Ok s) r g rows k h =
    subst (λ x. Agrees t rest conditions (g s) (x >>= run_rows world rows)) (sym h.1) (k s h.0)
agrees_then world q t rest conditions (Err e) r g rows k h = ap (λ x. x >>= run_rows world rows) h

pub follows_none : (p : Spot) → Follows [] nothing p p
follows_none p = record { nested = λ n. refl; sound = refl; runs = λ world s rest conditions live fits. (fits, refl) }

pub follows_then : (a b : List Spanned) (f g : Deed) (p q t : Spot) → Follows a f p q → Follows b g q t → Follows (a ++ b) (then_deed f g) p t
follows_then a b f g p q t fa fb = record {
  nested = nested_append a b fa.nested fb.nested;
  sound = sound_append a b fa.sound fb.sound;
  runs = λ world s rest conditions live fits.
      subst (λ x. Agrees t rest conditions (then_deed f g world s) x) (sym (run_append world a b (machine_at p.slots rest conditions s)))
      (agrees_then world q t rest conditions (f world s) (run_rows world a (machine_at p.slots rest conditions s)) (g world) b
      (λ s' fits'. fb.runs world s' rest conditions live fits') (fa.runs world s rest conditions live fits));
}

-- one push
pub push_follows : (e : List ℕ) (d c : Span) (f : Deed) (p q : Spot)
    → ((world : World) (s : State) (rest : Stack) (conditions : List Bool) → Fits p.operands s.operands
    → Agrees q rest conditions (f world s) (Ok (machine (e ∷ (s.operands ++ (map (value s.env) p.slots ++ rest))) conditions)))
    → Follows (row (push e) d c ∷ []) f p q
push_follows e d c f p q on = record {
  nested = push_nested e d c;
  sound = refl;
  runs = λ world s rest conditions live fits.
      subst (λ x. Agrees q rest conditions (f world s) x)
      (sym (then_ok world (step world (row (push e) d c) (machine_at p.slots rest conditions s))
      ∙ step_push world e d c (s.operands ++ (map (value s.env) p.slots ++ rest)) conditions live))
      (on world s rest conditions fits);
}

-- one opcode
pub op_follows : (opcode : ℕ) (deed : TableDeed) (d c : Span) (f : Deed) (p q : Spot) → IsOpcode opcode deed
    → ((world : World) (s : State) (rest : Stack) (conditions : List Bool) → Fits p.operands s.operands
    → Agrees q rest conditions (f world s) (stacked d c conditions (done (asked world) deed (s.operands ++ (map (value s.env) p.slots ++ rest)))))
    → Follows (row (op opcode) d c ∷ []) f p q
op_follows opcode deed d c f p q is on = record {
  nested = op_nested opcode deed d c is.row;
  sound = op_sound opcode deed d c is;
  runs = λ world s rest conditions live fits.
      subst (λ x. Agrees q rest conditions (f world s) x)
      (sym (then_ok world (step world (row (op opcode) d c) (machine_at p.slots rest conditions s))
      ∙ step_do world opcode deed d c (s.operands ++ (map (value s.env) p.slots ++ rest)) conditions is.row live))
      (on world s rest conditions fits);
}

-- ---- what an emitter added

abbrev pub emits_by : (old new : Emitter) (rows : List Spanned) (deed : Deed) (q : Spot) → new.code.items ≡ old.code.items ++ rows → new.place ≡ q
    → Follows rows deed old.place q → Emits old new deed
emits_by old new rows deed q code place follows =
    record { rows = rows; grown = code; follows = subst (λ p. Follows rows deed old.place p) (sym place) follows }

pub adds_by : (doing checking : Span) (old new : Emitter) (rows : List Spanned) (deed : Deed) (q : Spot) → new.code.items ≡ old.code.items ++ rows → new.place ≡ q
    → Follows rows deed old.place q → are_plain doing checking rows ≡ true → Adds doing checking old new deed
adds_by doing checking old new rows deed q code place follows plain =
    record { emits = emits_by old new rows deed q code place follows; plain = plain }

abbrev pub emits_then : (a b c : Emitter) (f g : Deed) → Emits a b f → Emits b c g → Emits a c (then_deed f g)
emits_then a b c f g x y = record {
  rows = x.rows ++ y.rows;
  grown = y.grown ∙ ap (λ l. l ++ y.rows) x.grown ∙ append_assoc a.code.items x.rows y.rows;
  follows = follows_then x.rows y.rows f g a.place b.place c.place x.follows y.follows;
}

pub adds_then : (doing checking : Span) (a b c : Emitter) (f g : Deed) → Adds doing checking a b f → Adds doing checking b c g → Adds doing checking a c (then_deed f g)
adds_then doing checking a b c f g x y = record {
  emits = emits_then a b c f g x.emits y.emits;
  plain = plain_append doing checking x.emits.rows y.emits.rows x.plain y.plain;
}

pub adds_nothing : (doing checking : Span) (e : Emitter) → Adds doing checking e e nothing
adds_nothing doing checking e =
    adds_by doing checking e e [] nothing e.place (sym (append-nil e.code.items)) refl (follows_none e.place) refl
