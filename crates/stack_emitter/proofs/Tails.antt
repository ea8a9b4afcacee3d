-- The end of a path: one element is left on the stack, alone.
use Rattle.std.proofs.Common.{◌≡◌, ℕ, zero, suc, ◌+◌, ◌≤◌, nat_lt, ◌≢◌, Bool, true, false, cond, List, [], ◌∷◌, ◌++◌, length, map, replicate, Option, Some, Result, Ok, Err, pos, refl, sym, ap, ◌∙◌, subst, arith, inl, inr, append_assoc, append-nil}
use Rattle.std.proofs.lemmas.List.{length-map}
use Rattle.cash_base.specs.declared.fault.Cause.TheVariants.{CheckFailed}
use Rattle.cash_base.specs.declared.place.Span.{Span}
use Rattle.cash_base.specs.Failing.{◌>>=◌}
use Rattle.cash_base.specs.Number.{truth_of, digits, minimal_bytes}
use Rattle.tx_context.specs.World.{World}
use Rattle.script_codec.specs.declared.spans.Spanned.{Spanned}
use Rattle.script_codec.specs.Reading.{push}
use Rattle.script_codec.specs.Spelling.{minimal_push}
use Rattle.script_codec.specs.Counting.{weight}
use Rattle.opcode_table.specs.Stack.{Stack}
use Rattle.opcode_table.specs.declared.rows.Deed.TheVariants.{Stays}
use Rattle.opcode_table.specs.declared.rows.Deed.{Deed as TableDeed}
use Rattle.opcode_table.specs.Deeds.{done}
use Rattle.bch_vm.specs.Board.{is_live, is_executed}
use Rattle.source_meaning.specs.declared.outcome.Failure.{Failure}
use Rattle.source_meaning.specs.Meaning.{Env, fails, checked}
use Rattle.slot_code.specs.Meaning.{State, on_one, goes_on}
use Rattle.slot_code.specs.Shape.{Operand}
use Rattle.row_runs.specs.Rows.{row, Machine, machine, step, run_rows, Executed, logged, executed, is_control, last_of, IsNested}
use Rattle.row_runs.proofs.Turns.{run_append, then_ok, nested_append, then_log, executed_append, last_append}
use Rattle.stack_emitter.specs.Places.{Spot}
use Rattle.stack_emitter.specs.declared.emit.Emitter.{Emitter}
use Rattle.stack_emitter.specs.Codes.{are_sound, are_plain, IsOpcode, bytes_of, ops_of}
use Rattle.stack_emitter.specs.Correct.{value, Fits, Deed, nothing, check_deed, IsLast, EndsIn, AtEnd, Tail, Ends, EndCosts}
use Rattle.stack_emitter.proofs.Steps.{op, asked, stacked, step_push, step_do, push_nested, op_nested, op_sound, sound_append, plain_row, op_plain, plain_append}
use Rattle.stack_emitter.proofs.Sizes.{bytes_append, ops_append, bytes_more, ops_more}
use Rattle.stack_emitter.proofs.Works.{drop_table, nip_table, fits_length}
use Rattle.stack_emitter.proofs.Emits.{drop_opcode, nip_opcode, nop_opcode}

-- ---- an end after other rows, and before rows that execute nothing but IF, NOTIF, ELSE and ENDIF

last_after : (world : World) (a b : List Spanned) (m n : Machine) (span : Span) → run_rows world a m ≡ Ok n → IsLast world b n span
    → IsLast world (a ++ b) m span
last_after world a b m n span e last at before =
    let x = last (at + length a) (last_of before (executed world at a m)) in (
      x.0,
      ap (last_of before) (executed_append world at a b m ∙ ap (λ r. executed world at a m ++ then_log r (executed world (at + length a) b)) e)
          ∙ last_append before (executed world at a m) (executed world (at + length a) b n) ∙ x.1,
      x.2,
    )

ends_after : (truth : Bool) (world : World) (a b : List Spanned) (m n : Machine) (conditions : List Bool) (span : Span) → run_rows world a m ≡ Ok n
    → EndsIn truth world b n conditions span → EndsIn truth world (a ++ b) m conditions span
ends_after truth world a b m n conditions span e t = record {
  element = t.element;
  truth_is = t.truth_is;
  ends = run_append world a b m ∙ ap (λ r. r >>= run_rows world b) e ∙ t.ends;
  last = last_after world a b m n span e t.last;
}

pub end_after : (world : World) (a b : List Spanned) (m n : Machine) (conditions : List Bool) (span : Span) (o : Result State Failure)
    → run_rows world a m ≡ Ok n → AtEnd world b n conditions span o → AtEnd world (a ++ b) m conditions span o
end_after world a b m n conditions span (Ok s) e t = ends_after true world a b m n conditions span e t
end_after world a b m n conditions span (Err f) e (inl h) = inl (run_append world a b m ∙ ap (λ r. r >>= run_rows world b) e ∙ h)
end_after world a b m n conditions span (Err f) e (inr t) =
    inr (record { ends = ends_after false world a b m n conditions span e t.ends; cause = t.cause; place = t.place })

abbrev pub Quiet : World → List Spanned → List Bool → List Bool → Type 0
Quiet world rows before after = (stack : Stack)
    → (run_rows world rows (machine stack before) ≡ Ok (machine stack after))
    × ((at : ℕ) (o : Option Executed) → last_of o (executed world at rows (machine stack before)) ≡ o)

ends_before : (truth : Bool) (world : World) (a b : List Spanned) (m : Machine) (before after : List Bool) (span : Span) → Quiet world b before after
    → EndsIn truth world a m before span → EndsIn truth world (a ++ b) m after span
ends_before truth world a b m before after span q t = record {
  element = t.element;
  truth_is = t.truth_is;
  ends = run_append world a b m ∙ ap (λ r. r >>= run_rows world b) t.ends ∙ (q (t.element ∷ [])).0;
  last = λ at o.
      let x = t.last at o in (
        x.0,
        ap (last_of o) (executed_append world at a b m ∙ ap (λ r. executed world at a m ++ then_log r (executed world (at + length a) b)) t.ends)
            ∙ last_append o (executed world at a m) (executed world (at + length a) b (machine (t.element ∷ []) before))
            ∙ (q (t.element ∷ [])).1 (at + length a) (last_of o (executed world at a m))
            ∙ x.1,
        x.2,
      );
}

pub end_before : (world : World) (a b : List Spanned) (m : Machine) (before after : List Bool) (span : Span) (o : Result State Failure) → Quiet world b before after
    → AtEnd world a m before span o → AtEnd world (a ++ b) m after span o
end_before world a b m before after span (Ok s) q t = ends_before true world a b m before after span q t
end_before world a b m before after span (Err f) q (inl h) = inl (run_append world a b m ∙ ap (λ r. r >>= run_rows world b) h)
end_before world a b m before after span (Err f) q (inr t) =
    inr (record { ends = ends_before false world a b m before after span q t.ends; cause = t.cause; place = t.place })

-- ---- rows of one opcode that take elements off the stack

module _ (world : World) (opcode : ℕ) (deed : TableDeed) (is : IsOpcode opcode deed) (c : Span) (kept : Stack) (conditions : List Bool) (live : is_live conditions ≡ true) (one : (v : List ℕ) (values : Stack) → done (asked world) deed (kept ++ v ∷ values) ≡ Ok (kept ++ values)) (counts : is_executed (op opcode) conditions ≡ true) (plain : is_control (op opcode) ≡ false) where
  abbrev rows_of : Stack → List Spanned
  rows_of values = replicate (length values) (row (op opcode) c c)

  one_step : (v : List ℕ) (values : Stack) → step world (row (op opcode) c c) (machine (kept ++ v ∷ values) conditions) ≡ Ok (machine (kept ++ values) conditions)
  one_step v values =
      step_do world opcode deed c c (kept ++ v ∷ values) conditions is.row live ∙ ap (stacked c c conditions) (one v values)

  pub taken : (values : Stack) → run_rows world (rows_of values) (machine (kept ++ values) conditions) ≡ Ok (machine (kept ++ []) conditions)
  taken [] = refl
  taken (v ∷ values) = ap (λ r. r >>= run_rows world (rows_of values)) (one_step v values) ∙ taken values

  abbrev entry : ℕ → List ℕ → Stack → Executed
  entry at v values = record { at = at; row = row (op opcode) c c; stack = kept ++ v ∷ values }

  log_is : (at : ℕ) (v : List ℕ) (values : Stack) → executed world at (rows_of (v ∷ values)) (machine (kept ++ v ∷ values) conditions)
      ≡ entry at v values ∷ executed world (at + 1) (rows_of values) (machine (kept ++ values) conditions)
  log_is at v values =
      ap (λ b. logged b (entry at v values) (step world (row (op opcode) c c) (machine (kept ++ v ∷ values) conditions)) (executed world (at + 1) (rows_of values))) counts
      ∙ ap (λ r. logged true (entry at v values) r (executed world (at + 1) (rows_of values))) (one_step v values)

  last_same : (at : ℕ) (e : Executed) → e.row.checking ≡ c → (values : Stack)
      → (f : Executed) × (last_of (Some e) (executed world at (rows_of values) (machine (kept ++ values) conditions)) ≡ Some f) × (f.row.checking ≡ c)
  last_same at e h [] = (e, refl, h)
  last_same at e h (v ∷ values) =
      let x = last_same (at + 1) (entry at v values) refl values in (
        x.0,
        ap (last_of (Some e)) (log_is at v values)
            ∙ ap (λ b. last_of (cond b (Some e) (Some (entry at v values))) (executed world (at + 1) (rows_of values) (machine (kept ++ values) conditions))) plain
            ∙ x.1,
        x.2,
      )

  pub last_taken : (v : List ℕ) (values : Stack) → IsLast world (rows_of (v ∷ values)) (machine (kept ++ v ∷ values) conditions) c
  last_taken v values at o =
      let x = last_same (at + 1) (entry at v values) refl values in (
        x.0,
        ap (last_of o) (log_is at v values)
            ∙ ap (λ b. last_of (cond b o (Some (entry at v values))) (executed world (at + 1) (rows_of values) (machine (kept ++ values) conditions))) plain
            ∙ x.1,
        x.2,
      )

repeat_nested : (r : Spanned) (n : ℕ) → IsNested (r ∷ []) → IsNested (replicate n r)
repeat_nested r zero h = λ k. refl
repeat_nested r (suc n) h = nested_append (r ∷ []) (replicate n r) h (repeat_nested r n h)

repeat_sound : (r : Spanned) (n : ℕ) → are_sound (r ∷ []) ≡ true → are_sound (replicate n r) ≡ true
repeat_sound r zero h = refl
repeat_sound r (suc n) h = sound_append (r ∷ []) (replicate n r) h (repeat_sound r n h)

repeat_plain : (opcode : ℕ) (deed : TableDeed) (c : Span) (n : ℕ) → IsOpcode opcode deed → are_plain c c (replicate n (row (op opcode) c c)) ≡ true
repeat_plain opcode deed c zero is = refl
repeat_plain opcode deed c (suc n) is = op_plain opcode c c (replicate n (row (op opcode) c c)) is.plain (repeat_plain opcode deed c n is)

-- ---- the last check

-- only the top is left, and the last row has the span
abbrev LeavesOne : List Spanned → Span → ℕ → Type 0
LeavesOne rows c n = (world : World) (x : List ℕ) (values : Stack) (conditions : List Bool) → is_live conditions ≡ true → length values ≡ n
    → (run_rows world rows (machine (x ∷ values) conditions) ≡ Ok (machine (x ∷ []) conditions)) × IsLast world rows (machine (x ∷ values) conditions) c

check_end : (rows : List Spanned) (c : Span) (n : ℕ) → LeavesOne rows c n → (world : World) (x : List ℕ) (values : Stack) (conditions : List Bool) (env : Env)
    → is_live conditions ≡ true → length values ≡ n → (b : Bool) → truth_of x ≡ b
    → AtEnd world rows (machine (x ∷ values) conditions) conditions c (goes_on [] (cond b (Ok env) (fails c CheckFailed)))
check_end rows c n leaves world x values conditions env live len true t =
    let k = leaves world x values conditions live len in record { element = x; truth_is = t; ends = k.0; last = k.1 }
check_end rows c n leaves world x values conditions env live len false t =
    let k = leaves world x values conditions live len in
    inr (record { ends = record { element = x; truth_is = t; ends = k.0; last = k.1 }; cause = refl; place = refl })

one_operand : (known : List Operand) (operands : Stack) → length known ≡ 1 → Fits known operands → (x : List ℕ) × (operands ≡ x ∷ [])
one_operand known operands one fits = by operands (fits_length known operands fits ∙ one)
  where
    by : (operands : Stack) → length operands ≡ 1 → (x : List ℕ) × (operands ≡ x ∷ [])
    by [] h = absurd (omega (arith, h))
    by (x ∷ []) h = (x, refl)
    by (x ∷ y ∷ operands) h = absurd (omega (arith, h))

check_tail : (rows : List Spanned) (doing c : Span) (p : Spot) → IsNested rows → are_sound rows ≡ true → length p.operands ≡ 1 → LeavesOne rows c (length p.slots)
    → Tail rows (check_deed doing c) p c
check_tail rows doing c p nested sound one leaves = record {
  nested = nested;
  sound = sound;
  ends = λ world s conditions live fits.
      let x = one_operand p.operands s.operands one fits in
      subst (λ operands. AtEnd world rows (machine (operands ++ (map (value s.env) p.slots ++ [])) conditions) conditions c
      (on_one doing operands (λ a rest. goes_on rest (checked c a s.env)))) (sym x.1)
      (subst (λ l. AtEnd world rows (machine (x.0 ∷ l) conditions) conditions c (goes_on [] (cond (truth_of x.0) (Ok s.env) (fails c CheckFailed))))
      (sym (append-nil (map (value s.env) p.slots)))
      (check_end rows c (length p.slots) leaves world x.0 (map (value s.env) p.slots) conditions s.env live (length-map p.slots (value s.env)) (truth_of x.0) refl));
}

-- a live condition executes an opcode that is no ELSE or ENDIF
alone : (c : Span) → LeavesOne (row (op 0x61) c c ∷ []) c 0
alone c world x (v ∷ values) conditions live len = absurd (omega (arith, len))
alone c world x [] conditions live len = (
  then_ok world (step world (row (op 0x61) c c) (machine (x ∷ []) conditions)) ∙ stays,
  λ at o. (
    entry at,
    ap (λ l. last_of o (logged l (entry at) (step world (row (op 0x61) c c) (machine (x ∷ []) conditions)) (executed world (at + 1) []))) live
        ∙ ap (λ r. last_of o (logged true (entry at) r (executed world (at + 1) []))) stays,
    refl,
  ),
)
  where
    stays : step world (row (op 0x61) c c) (machine (x ∷ []) conditions) ≡ Ok (machine (x ∷ []) conditions)
    stays = step_do world 0x61 Stays c c (x ∷ []) conditions nop_opcode.row live

    entry : ℕ → Executed
    entry at = record { at = at; row = row (op 0x61) c c; stack = x ∷ [] }

above : (c : Span) (n : ℕ) → LeavesOne (replicate (suc n) (row (op 0x77) c c)) c (suc n)
above c n world x [] conditions live len = absurd (omega (arith, len))
above c n world x (v ∷ values) conditions live len =
    let e : length values ≡ n = omega (arith, len) in
    subst (λ k. (run_rows world (replicate (suc k) (row (op 0x77) c c)) (machine (x ∷ v ∷ values) conditions) ≡ Ok (machine (x ∷ []) conditions))
    × IsLast world (replicate (suc k) (row (op 0x77) c c)) (machine (x ∷ v ∷ values) conditions) c) e (
      taken world 0x77 nip_table nip_opcode c (x ∷ []) conditions live (λ w ws. refl) live refl (v ∷ values),
      last_taken world 0x77 nip_table nip_opcode c (x ∷ []) conditions live (λ w ws. refl) live refl v values,
    )

ends_by : (checking : Span) (old new : Emitter) (rows : List Spanned) (deed : Deed) → new.code.items ≡ old.code.items ++ rows → Tail rows deed old.place checking
    → are_plain checking checking rows ≡ true → Ends checking old new deed
ends_by checking old new rows deed code tail plain = record { rows = rows; plain = plain; grown = code; tail = tail }

pub ends_alone : (old new : Emitter) (n : ℕ) (doing checking : Span) → length old.place.operands ≡ 1 → n ≡ length old.place.slots → n ≡ 0
    → new.code.items ≡ old.code.items ++ row (op 0x61) checking checking ∷ [] → Ends checking old new (check_deed doing checking)
ends_alone old new n doing checking one len none code =
    ends_by checking old new (row (op 0x61) checking checking ∷ []) (check_deed doing checking) code
    (check_tail (row (op 0x61) checking checking ∷ []) doing checking old.place (op_nested 0x61 Stays checking checking nop_opcode.row)
    (op_sound 0x61 Stays checking checking nop_opcode) one
    (subst (LeavesOne (row (op 0x61) checking checking ∷ []) checking) (sym none ∙ len) (alone checking)))
    (op_plain 0x61 checking checking [] refl refl)

pub ends_above : (old new : Emitter) (n : ℕ) (doing checking : Span) → length old.place.operands ≡ 1 → n ≡ length old.place.slots → n ≢ 0
    → new.code.items ≡ old.code.items ++ replicate n (row (op 0x77) checking checking) → Ends checking old new (check_deed doing checking)
ends_above old new zero doing checking one len some code = absurd (some refl)
ends_above old new (suc n) doing checking one len some code =
    let nip = row (op 0x77) checking checking in
    ends_by checking old new (replicate (suc n) nip) (check_deed doing checking) code
    (check_tail (replicate (suc n) nip) doing checking old.place
    (repeat_nested nip (suc n) (op_nested 0x77 nip_table checking checking nip_opcode.row))
    (repeat_sound nip (suc n) (op_sound 0x77 nip_table checking checking nip_opcode)) one
    (subst (LeavesOne (replicate (suc n) nip) checking) len (above checking n)))
    (repeat_plain 0x77 nip_table checking (suc n) nip_opcode)

-- ---- no check is left

one_is_true : truth_of (minimal_bytes (pos 1)) ≡ true
unfolding digits
one_is_true = refl

abbrev true_row : Span → Spanned
true_row c = row (push (minimal_bytes (pos 1))) c c

abbrev true_rows : ℕ → Span → List Spanned
true_rows n c = replicate n (row (op 0x75) c c) ++ true_row c ∷ []

true_end : (world : World) (c : Span) (values : Stack) (conditions : List Bool) → is_live conditions ≡ true
    → EndsIn true world (true_rows (length values) c) (machine values conditions) conditions c
true_end world c values conditions live =
    ends_after true world (replicate (length values) (row (op 0x75) c c)) (true_row c ∷ []) (machine values conditions) (machine [] conditions) conditions c
    (taken world 0x75 drop_table drop_opcode c [] conditions live (λ w ws. refl) live refl values)
    (record {
      element = minimal_bytes (pos 1);
      truth_is = one_is_true;
      ends = then_ok world (step world (true_row c) (machine [] conditions)) ∙ pushes;
      last = λ at o. (
        entry at,
        ap (λ l. last_of o (logged l (entry at) (step world (true_row c) (machine [] conditions)) (executed world (at + 1) []))) live
            ∙ ap (λ r. last_of o (logged true (entry at) r (executed world (at + 1) []))) pushes,
        refl,
      );
    })
  where
    pushes : step world (true_row c) (machine [] conditions) ≡ Ok (machine (minimal_bytes (pos 1) ∷ []) conditions)
    pushes = step_push world (minimal_bytes (pos 1)) c c [] conditions live

    entry : ℕ → Executed
    entry at = record { at = at; row = true_row c; stack = [] }

pub no_operand : (known : List Operand) (operands : Stack) → known ≡ [] → Fits known operands → operands ≡ []
no_operand known operands none fits = by operands (fits_length known operands fits ∙ ap length none)
  where
    by : (operands : Stack) → length operands ≡ 0 → operands ≡ []
    by [] h = refl
    by (x ∷ operands) h = absurd (omega (arith, h))

true_tail : (c : Span) (p : Spot) (n : ℕ) → n ≡ length p.slots → p.operands ≡ [] → Tail (true_rows n c) nothing p c
true_tail c p n len none = record {
  nested = nested_append (replicate n (row (op 0x75) c c)) (true_row c ∷ [])
      (repeat_nested (row (op 0x75) c c) n (op_nested 0x75 drop_table c c drop_opcode.row)) (push_nested (minimal_bytes (pos 1)) c c);
  sound = sound_append (replicate n (row (op 0x75) c c)) (true_row c ∷ []) (repeat_sound (row (op 0x75) c c) n (op_sound 0x75 drop_table c c drop_opcode)) refl;
  ends = λ world s conditions live fits.
      let size : length (map (value s.env) p.slots) ≡ n = length-map p.slots (value s.env) ∙ sym len in
      subst (λ operands. EndsIn true world (true_rows n c) (machine (operands ++ (map (value s.env) p.slots ++ [])) conditions) conditions c)
      (sym (no_operand p.operands s.operands none fits))
      (subst (λ l. EndsIn true world (true_rows n c) (machine l conditions) conditions c) (sym (append-nil (map (value s.env) p.slots)))
      (subst (λ k. EndsIn true world (true_rows k c) (machine (map (value s.env) p.slots) conditions) conditions c) size
      (true_end world c (map (value s.env) p.slots) conditions live)));
}

pub ends_true : (old mid new : Emitter) (n : ℕ) (checking : Span) → old.place.operands ≡ [] → n ≡ length old.place.slots
    → mid.code.items ≡ old.code.items ++ replicate n (row (op 0x75) checking checking)
    → new.code.items ≡ mid.code.items ++ row (push (minimal_bytes (pos 1))) checking checking ∷ [] → Ends checking old new nothing
ends_true old mid new n checking none len first second =
    ends_by checking old new (true_rows n checking) nothing
    (second ∙ ap (λ l. l ++ true_row checking ∷ []) first ∙ append_assoc old.code.items (replicate n (row (op 0x75) checking checking)) (true_row checking ∷ []))
    (true_tail checking old.place n len none)
    (plain_append checking checking (replicate n (row (op 0x75) checking checking)) (true_row checking ∷ []) (repeat_plain 0x75 drop_table checking n drop_opcode)
    (plain_row (push (minimal_bytes (pos 1))) checking checking [] refl refl))

-- ---- what ends cost

-- an opcode so many times
repeat_bytes : (opcode n : ℕ) (checking : Span) → bytes_of (replicate n (row (op opcode) checking checking)) ≡ n
unfolding bytes_of
repeat_bytes opcode zero checking = refl
repeat_bytes opcode (suc n) checking = let more = repeat_bytes opcode n checking in omega (arith, more)

opcode_weight : (opcode : ℕ) → weight opcode ≤ 1
opcode_weight opcode = by (nat_lt 0x60 opcode)
  where
    by : (b : Bool) → cond b 1 0 ≤ 1
    by true = omega arith
    by false = omega arith

repeat_ops : (opcode n : ℕ) (checking : Span) → ops_of (replicate n (row (op opcode) checking checking)) ≤ n
unfolding ops_of
repeat_ops opcode zero checking = omega arith
repeat_ops opcode (suc n) checking =
    let more = repeat_ops opcode n checking in let one = opcode_weight opcode in omega (arith, more, one)

pub costs_alone : (old new : Emitter) (n : ℕ) (checking : Span) → n ≡ length old.place.slots → n ≡ 0
    → new.code.items ≡ old.code.items ++ row (op 0x61) checking checking ∷ [] → EndCosts old new
costs_alone old new n checking len none code =
    let b = bytes_more new.code.items old.code.items (op 0x61) checking checking code in
    let o = ops_more new.code.items old.code.items (op 0x61) checking checking code in
    let one = opcode_weight 0x61 in
    record { bytes_fit = omega (arith, b); ops_fit = omega (arith, o, one) }

pub costs_above : (old new : Emitter) (n : ℕ) (checking : Span) → n ≡ length old.place.slots
    → new.code.items ≡ old.code.items ++ replicate n (row (op 0x77) checking checking) → EndCosts old new
costs_above old new n checking len code =
    let rows = replicate n (row (op 0x77) checking checking) in
    let b = ap bytes_of code ∙ bytes_append old.code.items rows in
    let o = ap ops_of code ∙ ops_append old.code.items rows in
    let nb = repeat_bytes 0x77 n checking in
    let no = repeat_ops 0x77 n checking in
    record { bytes_fit = omega (arith, b, nb, len); ops_fit = omega (arith, o, no, len) }

one_byte : length (minimal_push (minimal_bytes (pos 1))) ≡ 1
unfolding digits
one_byte = refl

pub costs_true : (old mid new : Emitter) (n : ℕ) (checking : Span) → n ≡ length old.place.slots
    → mid.code.items ≡ old.code.items ++ replicate n (row (op 0x75) checking checking)
    → new.code.items ≡ mid.code.items ++ row (push (minimal_bytes (pos 1))) checking checking ∷ [] → EndCosts old new
costs_true old mid new n checking len first second =
    let rows = replicate n (row (op 0x75) checking checking) in
    let b = ap bytes_of first ∙ bytes_append old.code.items rows in
    let o = ap ops_of first ∙ ops_append old.code.items rows in
    let nb = repeat_bytes 0x75 n checking in
    let no = repeat_ops 0x75 n checking in
    let c = bytes_more new.code.items mid.code.items (push (minimal_bytes (pos 1))) checking checking second in
    let p = ops_more new.code.items mid.code.items (push (minimal_bytes (pos 1))) checking checking second in
    let one = one_byte in
    record { bytes_fit = omega (arith, b, nb, c, one, len); ops_fit = omega (arith, o, no, p, len) }
