-- IF, ELSE and ENDIF around rows that lead to one place.
use Rattle.std.proofs.Common.{◌≡◌, ℕ, suc, ◌+◌, Bool, true, false, cond, List, [], ◌∷◌, ◌++◌, length, map, Option, Some, Result, Ok, Err, refl, sym, ap, ◌∙◌, subst, append_assoc}
use Rattle.std.specs.Prelude.{option_and_then, not}
use Rattle.std.proofs.lemmas.Bool.{and_from}
use Rattle.cash_base.specs.declared.place.Span.{Span}
use Rattle.cash_base.specs.Failing.{◌>>=◌}
use Rattle.cash_base.specs.Number.{truth_of}
use Rattle.tx_context.specs.World.{World}
use Rattle.script_codec.specs.declared.spans.Spanned.{Spanned}
use Rattle.opcode_table.specs.declared.rows.Row.TheVariants.{Opens, Flips, Closes}
use Rattle.opcode_table.specs.Stack.{Stack}
use Rattle.opcode_table.specs.Table.{row_of, rows}
use Rattle.bch_vm.specs.Setting.{around}
use Rattle.bch_vm.specs.Board.{board, is_live, opened_where, row_after}
use Rattle.run_laws.specs.Nested.{open_after_row, nesting}
use Rattle.source_meaning.specs.declared.outcome.Failure.{Failure}
use Rattle.source_meaning.specs.Meaning.{Env}
use Rattle.slot_code.specs.Meaning.{State, state, on_one}
use Rattle.slot_code.specs.Shape.{Operand}
use Rattle.row_runs.specs.Rows.{row, instructions, machine, Next, setting_of, placed, step, run_rows, Executed, logged, executed, is_control, last_of, IsNested}
use Rattle.row_runs.specs.Code.{row_is_simple}
use Rattle.row_runs.proofs.Turns.{run_append, then_ok, nesting_append, passes, silent, then_log, executed_append}
use Rattle.stack_emitter.specs.declared.emit.Emitter.{Emitter}
use Rattle.stack_emitter.specs.Places.{Spot, spot}
use Rattle.stack_emitter.specs.Codes.{is_sound, are_sound}
use Rattle.stack_emitter.specs.Correct.{value, machine_at, Fits, Agrees, Deed, Follows, Emits, AtEnd}
use Rattle.stack_emitter.proofs.Steps.{op, sound_opcode, sound_append, emits_by}
use Rattle.stack_emitter.proofs.Works.{fits_tail, none_fits}
use Rattle.stack_emitter.proofs.Tails.{Quiet, end_after, end_before}

-- ---- the three opcodes

if_row : row_of 0x63 ≡ Opens true
unfolding rows
if_row = refl

else_row : row_of 0x67 ≡ Flips
unfolding rows
else_row = refl

endif_row : row_of 0x68 ≡ Closes
unfolding rows
endif_row = refl

abbrev pub opens : Span → Span → Spanned
opens d c = row (op 0x63) d c

abbrev pub flips : Span → Span → Spanned
flips d c = row (op 0x67) d c

abbrev pub closes : Span → Span → Spanned
closes d c = row (op 0x68) d c

pub if_step : (world : World) (d c : Span) (x : List ℕ) (stack : Stack) (conditions : List Bool) → is_live conditions ≡ true
    → step world (opens d c) (machine (x ∷ stack) conditions) ≡ Ok (machine stack (truth_of x ∷ conditions))
if_step world d c x stack conditions live =
    ap (λ w. placed (opens d c) (row_after (around (setting_of world) 0 20) w (board (x ∷ stack) [] conditions 0))) if_row
    ∙ ap (λ l. placed (opens d c) (opened_where l true (board (x ∷ stack) [] conditions 0))) live

pub else_step : (world : World) (d c : Span) (x : Bool) (stack : Stack) (conditions : List Bool)
    → step world (flips d c) (machine stack (x ∷ conditions)) ≡ Ok (machine stack (not x ∷ conditions))
else_step world d c x stack conditions =
    ap (λ w. placed (flips d c) (row_after (around (setting_of world) 0 20) w (board stack [] (x ∷ conditions) 0))) else_row

pub endif_step : (world : World) (d c : Span) (x : Bool) (stack : Stack) (conditions : List Bool)
    → step world (closes d c) (machine stack (x ∷ conditions)) ≡ Ok (machine stack conditions)
endif_step world d c x stack conditions =
    ap (λ w. placed (closes d c) (row_after (around (setting_of world) 0 20) w (board stack [] (x ∷ conditions) 0))) endif_row

-- ---- the whole

module _ (a b : List Spanned) (d c : Span) where
  abbrev pub close : List Spanned
  close = closes d c ∷ []

  abbrev pub otherwise : List Spanned
  otherwise = flips d c ∷ (b ++ close)

  abbrev pub choice : List Spanned
  choice = opens d c ∷ (a ++ otherwise)

  closed : (world : World) (stack : Stack) (x : Bool) (conditions : List Bool) → run_rows world close (machine stack (x ∷ conditions)) ≡ Ok (machine stack conditions)
  closed world stack x conditions = then_ok world (step world (closes d c) (machine stack (x ∷ conditions))) ∙ endif_step world d c x stack conditions

  -- the other block is not executed
  skips_other : IsNested b → (world : World) (stack : Stack) (conditions : List Bool) → run_rows world otherwise (machine stack (true ∷ conditions)) ≡ Ok (machine stack conditions)
  skips_other nb world stack conditions =
      ap (λ r. r >>= run_rows world (b ++ close)) (else_step world d c true stack conditions)
      ∙ run_append world b close (machine stack (false ∷ conditions))
      ∙ ap (λ r. r >>= run_rows world close) (passes world b nb stack (false ∷ conditions) refl)
      ∙ closed world stack false conditions

  close_nests : (n : ℕ) → nesting (instructions close) (suc n) ≡ Some n
  close_nests n = ap (λ w. option_and_then (nesting []) (open_after_row w (suc n))) endif_row

  otherwise_nests : IsNested b → (n : ℕ) → nesting (instructions otherwise) (suc n) ≡ Some n
  otherwise_nests nb n =
      ap (λ w. option_and_then (nesting (instructions (b ++ close))) (open_after_row w (suc n))) else_row
      ∙ nesting_append b close (suc n)
      ∙ ap (option_and_then (nesting (instructions close))) (nb (suc n))
      ∙ close_nests n

  pub choice_nested : IsNested a → IsNested b → IsNested choice
  choice_nested na nb n =
      ap (λ w. option_and_then (nesting (instructions (a ++ otherwise))) (open_after_row w n)) if_row
      ∙ nesting_append a otherwise (suc n)
      ∙ ap (option_and_then (nesting (instructions otherwise))) (na (suc n))
      ∙ otherwise_nests nb n

  close_sound : are_sound close ≡ true
  close_sound = and_from (is_sound (op 0x68)) true (sound_opcode 0x68 refl (ap row_is_simple endif_row) refl) refl

  otherwise_sound : are_sound b ≡ true → are_sound otherwise ≡ true
  otherwise_sound sb =
      and_from (is_sound (op 0x67)) (are_sound (b ++ close)) (sound_opcode 0x67 refl (ap row_is_simple else_row) refl) (sound_append b close sb close_sound)

  pub choice_sound : are_sound a ≡ true → are_sound b ≡ true → are_sound choice ≡ true
  choice_sound sa sb =
      and_from (is_sound (op 0x63)) (are_sound (a ++ otherwise)) (sound_opcode 0x63 refl (ap row_is_simple if_row) refl)
      (sound_append a otherwise sa (otherwise_sound sb))

  agrees_close : (world : World) (q : Spot) (rest : Stack) (before after : List Bool) (o : Result State Failure) (r : Next) (more : List Spanned)
      → ((s : State) → run_rows world more (machine_at q.slots rest before s) ≡ Ok (machine_at q.slots rest after s))
      → Agrees q rest before o r → Agrees q rest after o (r >>= run_rows world more)
  agrees_close world q rest before after (Ok s) r more k h = (h.0, ap (λ x. x >>= run_rows world more) h.1 ∙ k s)
  agrees_close world q rest before after (Err e) r more k h = ap (λ x. x >>= run_rows world more) h

  choice_on : (f g : Deed) (p q : Spot) (world : World) (s : State) (rest : Stack) (conditions : List Bool) (t : Bool) → is_live conditions ≡ true
      → Fits p.operands s.operands → Follows a f p q → Follows b g p q
      → Agrees q rest conditions (cond t (f world) (g world) s) (run_rows world (a ++ otherwise) (machine_at p.slots rest (t ∷ conditions) s))
  choice_on f g p q world s rest conditions true live fits fa fb =
      subst (λ r. Agrees q rest conditions (f world s) r)
      (sym (run_append world a otherwise (machine_at p.slots rest (true ∷ conditions) s)))
      (agrees_close world q rest (true ∷ conditions) conditions (f world s) (run_rows world a (machine_at p.slots rest (true ∷ conditions) s)) otherwise
      (λ e. skips_other fb.nested world (e.operands ++ (map (value e.env) q.slots ++ rest)) conditions)
      (fa.runs world s rest (true ∷ conditions) live fits))
  choice_on f g p q world s rest conditions false live fits fa fb =
      let stack : Stack = s.operands ++ (map (value s.env) p.slots ++ rest) in
      let e : run_rows world (a ++ otherwise) (machine stack (false ∷ conditions)) ≡ (run_rows world b (machine stack (true ∷ conditions)) >>= run_rows world close) =
      run_append world a otherwise (machine stack (false ∷ conditions))
      ∙ ap (λ r. r >>= run_rows world otherwise) (passes world a fa.nested stack (false ∷ conditions) refl)
      ∙ ap (λ r. r >>= run_rows world (b ++ close)) (else_step world d c false stack conditions)
      ∙ run_append world b close (machine stack (true ∷ conditions)) in
      subst (λ r. Agrees q rest conditions (g world s) r) (sym e)
      (agrees_close world q rest (true ∷ conditions) conditions (g world s) (run_rows world b (machine stack (true ∷ conditions))) close
      (λ e. closed world (e.operands ++ (map (value e.env) q.slots ++ rest)) true conditions)
      (fb.runs world s rest (true ∷ conditions) live fits))

  abbrev pub choice_deed : Deed → Deed → Deed
  choice_deed f g world s = on_one d s.operands (λ x more. cond (truth_of x) (f world) (g world) (state more s.env))

  choice_top : (f g : Deed) (k : Operand) (known : List Operand) (p q : Spot) (world : World) (rest operands : Stack) (env : Env) (conditions : List Bool)
      → Fits (k ∷ known) operands → is_live conditions ≡ true → Follows a f (spot known p.slots) q → Follows b g (spot known p.slots) q
      → Agrees q rest conditions (on_one d operands (λ x more. cond (truth_of x) (f world) (g world) (state more env)))
      (run_rows world choice (machine (operands ++ (map (value env) p.slots ++ rest)) conditions))
  choice_top f g k known p q world rest [] env conditions fits live fa fb = absurd (none_fits k known fits)
  choice_top f g k known p q world rest (x ∷ operands) env conditions fits live fa fb =
      subst (λ r. Agrees q rest conditions (cond (truth_of x) (f world) (g world) (state operands env)) (r >>= run_rows world (a ++ otherwise)))
      (sym (if_step world d c x (operands ++ (map (value env) p.slots ++ rest)) conditions live))
      (choice_on f g (spot known p.slots) q world (state operands env) rest conditions (truth_of x) live (fits_tail k known x operands fits) fa fb)

  -- both blocks lead to one place
  pub choice_follows : (f g : Deed) (k : Operand) (known : List Operand) (p q : Spot) → p.operands ≡ k ∷ known → Follows a f (spot known p.slots) q
      → Follows b g (spot known p.slots) q → Follows choice (choice_deed f g) p q
  choice_follows f g k known p q at fa fb = record {
    nested = choice_nested fa.nested fb.nested;
    sound = choice_sound fa.sound fb.sound;
    runs = λ world s rest conditions live fits.
        choice_top f g k known p q world rest s.operands s.env conditions (subst (λ o. Fits o s.operands) at fits) live fa fb;
  }

  -- ---- at a path's end

  module _ (na : IsNested a) (nb : IsNested b) where
    control_row : (t : Bool) (e : Executed) (o : Option Executed) → is_control e.row.instr ≡ true → last_of o (cond t (e ∷ []) []) ≡ o
    control_row true e o h = ap (λ x. cond x o (Some e)) h
    control_row false e o h = refl

    abbrev entry : ℕ → Spanned → Stack → Executed
    entry at r stack = record { at = at; row = r; stack = stack }

    close_quiet : (world : World) (x : Bool) (conditions : List Bool) → Quiet world close (x ∷ conditions) conditions
    close_quiet world x conditions stack = (
      closed world stack x conditions,
      λ at o. ap (λ r. last_of o (logged (is_live conditions) (entry at (closes d c) stack) r (executed world (at + 1) []))) (endif_step world d c x stack conditions)
          ∙ control_row (is_live conditions) (entry at (closes d c) stack) o refl,
    )

    other_quiet : (world : World) (conditions : List Bool) → Quiet world otherwise (true ∷ conditions) conditions
    other_quiet world conditions stack = (
      skips_other nb world stack conditions,
      λ at o. ap (λ r. last_of o (logged (is_live conditions) (entry at (flips d c) stack) r (executed world (at + 1) (b ++ close)))) (else_step world d c true stack conditions)
          ∙ quiet at o (is_live conditions),
    )
      where
        rest : (at : ℕ) → executed world at (b ++ close) (machine stack (false ∷ conditions)) ≡ executed world (at + length b) close (machine stack (false ∷ conditions))
        rest at = executed_append world at b close (machine stack (false ∷ conditions))
            ∙ ap (λ r. executed world at b (machine stack (false ∷ conditions)) ++ then_log r (executed world (at + length b) close)) (passes world b nb stack (false ∷ conditions) refl)
            ∙ ap (λ l. l ++ executed world (at + length b) close (machine stack (false ∷ conditions))) (silent world b nb at stack (false ∷ conditions) refl)

        quiet : (at : ℕ) (o : Option Executed) (t : Bool)
            → last_of o (cond t (entry at (flips d c) stack ∷ executed world (at + 1) (b ++ close) (machine stack (false ∷ conditions))) (executed world (at + 1) (b ++ close) (machine stack (false ∷ conditions)))) ≡ o
        quiet at o true = ap (last_of o) (rest (at + 1)) ∙ (close_quiet world false conditions stack).1 (at + 1 + length b) o
        quiet at o false = ap (last_of o) (rest (at + 1)) ∙ (close_quiet world false conditions stack).1 (at + 1 + length b) o

    -- the block that is picked ends the path
    pub end_yes : (world : World) (stack : Stack) (conditions : List Bool) (span : Span) (o : Result State Failure)
        → AtEnd world a (machine stack (true ∷ conditions)) (true ∷ conditions) span o → AtEnd world (a ++ otherwise) (machine stack (true ∷ conditions)) conditions span o
    end_yes world stack conditions span o x =
        end_before world a otherwise (machine stack (true ∷ conditions)) (true ∷ conditions) conditions span o (other_quiet world conditions) x

    pub end_no : (world : World) (stack : Stack) (conditions : List Bool) (span : Span) (o : Result State Failure)
        → AtEnd world b (machine stack (true ∷ conditions)) (true ∷ conditions) span o → AtEnd world (a ++ otherwise) (machine stack (false ∷ conditions)) conditions span o
    end_no world stack conditions span o x =
        end_after world a otherwise (machine stack (false ∷ conditions)) (machine stack (false ∷ conditions)) conditions span o (passes world a na stack (false ∷ conditions) refl)
        (end_after world (flips d c ∷ []) (b ++ close) (machine stack (false ∷ conditions)) (machine stack (true ∷ conditions)) conditions span o
        (then_ok world (step world (flips d c) (machine stack (false ∷ conditions))) ∙ else_step world d c false stack conditions)
        (end_before world b close (machine stack (true ∷ conditions)) (true ∷ conditions) conditions span o (close_quiet world true conditions) x))

-- ---- what an emitter added

pub emits_choice : (old a b c d new : Emitter) (f g : Deed) (doing checking : Span) (k : Operand) → old.place.operands ≡ k ∷ []
    → a.code.items ≡ old.code.items ++ opens doing checking ∷ [] → a.place ≡ spot [] old.place.slots → Emits a b f
    → c.code.items ≡ b.code.items ++ flips doing checking ∷ [] → c.place ≡ spot [] old.place.slots → Emits c d g → d.place ≡ b.place
    → new.code.items ≡ d.code.items ++ closes doing checking ∷ [] → new.place ≡ d.place
    → Emits old new (λ world s. on_one doing s.operands (λ x more. cond (truth_of x) (f world) (g world) (state more s.env)))
emits_choice old a b c d new f g doing checking k one code1 at_a x code2 at_c y at_d code3 at_new =
    let first = subst (λ p. Follows x.rows f p b.place) at_a x.follows in
    let second = subst (λ p. Follows y.rows g p b.place) at_c (subst (λ p. Follows y.rows g c.place p) at_d y.follows) in
    emits_by old new (choice x.rows y.rows doing checking) (choice_deed x.rows y.rows doing checking f g) b.place
    (rw (code3, y.grown, code2, x.grown, code1) (simp append_assoc))
    (at_new ∙ at_d)
    (choice_follows x.rows y.rows doing checking f g k [] old.place b.place one first second)
