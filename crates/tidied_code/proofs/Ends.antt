-- The run of tidied code ends as that of the code.
use Rattle.std.proofs.Common.{◌≡◌, ℕ, ◌+◌, ◌<◌, ◌⊎◌, inl, inr, Bool, true, false, is_ok, List, [], ◌∷◌, map, Option, Some, None, option_map, Result, Ok, Err, refl, sym, ap, ◌∙◌, subst, arith}
use Rattle.std.specs.Prelude.{slice_get, IsTrue}
use Rattle.std.proofs.lemmas.Bool.{false≢true}
use Rattle.std.proofs.lemmas.Option.{same_Some, slice_get-map}
use Rattle.cash_base.specs.declared.fault.Cause.{Cause}
use Rattle.cash_base.specs.declared.fault.Cause.TheVariants.{CheckFailed}
use Rattle.cash_base.specs.declared.fault.MachineCause.{MachineCause}
use Rattle.cash_base.specs.declared.fault.MachineCause.TheVariants.{Shared, EndFalse}
use Rattle.cash_base.specs.declared.place.Span.{Span}
use Rattle.cash_base.specs.Number.{truth_of}
use Rattle.cash_base.specs.Source.{place_in}
use Rattle.source_meaning.specs.declared.outcome.SourceOutcome.{SourceOutcome}
use Rattle.source_meaning.specs.declared.outcome.SourceOutcome.TheVariants.{Met, Failed}
use Rattle.tx_context.specs.World.{World}
use Rattle.script_codec.specs.declared.spans.Spanned.{Spanned}
use Rattle.bch_vm.specs.Board.{Board, board}
use Rattle.bch_vm.specs.Setting.{setting_in}
use Rattle.bch_vm.specs.Script.{State, state, run, Progress, Failure}
use Rattle.selector.specs.Place.{is_unseparated}
use Rattle.span_map.specs.Places as mapped
use Rattle.row_runs.specs.Rows.{instructions, Fault, fault}
use Rattle.rewrite_rules.specs.Rows.{Next, run_rows, underflows}
use Rattle.peephole.specs.Scripts.{failure, place_of, statement_at, HasLast, GoesAlike, RunsAnywhere}
use Rattle.peephole.specs.Tidy.{StandsFor, Tidied}
use Rattle.peephole.specs.Trace.{trace, last_statement}
use Rattle.tidied_code.specs.Ends.{places, EndsAs}
use Rattle.tidied_code.specs.Keeps.{KeepsEnds}

-- ---- equations of results

abbrev End : Type 0
End = Result State Failure

abbrev state_or : State → End → State
state_or d (Ok s) = s
state_or d (Err f) = d

same_state : (a b : State) → ◌≡◌ {A = End} (Ok a) (Ok b) → a ≡ b
same_state a b is = ap (state_or a) is

abbrev failure_or : Failure → End → Failure
failure_or d (Ok s) = d
failure_or d (Err f) = f

same_failure : (a b : Failure) → ◌≡◌ {A = End} (Err a) (Err b) → a ≡ b
same_failure a b is = ap (failure_or a) is

abbrev board_or : Board → Next → Board
board_or d (Ok b) = b
board_or d (Err f) = d

same_board : (a b : Board) → ◌≡◌ {A = Next} (Ok a) (Ok b) → a ≡ b
same_board a b is = ap (board_or a) is

abbrev fault_or : Fault → Next → Fault
fault_or d (Ok b) = d
fault_or d (Err f) = f

same_fault : (a b : Fault) → ◌≡◌ {A = Next} (Err a) (Err b) → a ≡ b
same_fault a b is = ap (fault_or a) is

-- ---- how a run of rows ends

place_told : (rows : List Spanned) (at : ℕ) (cause : MachineCause)
    → mapped.place_of (map places rows) at cause ≡ place_of rows (failure at cause)
place_told rows at cause =
    ap (option_map (λ p. place_in p.doing p.checking cause)) (slice_get-map places rows at) ∙ by (slice_get rows at)
  where
    by : (o : Option Spanned)
        → option_map (λ p. place_in p.doing p.checking cause) (option_map places o) ≡ option_map (λ (r : Spanned). place_in r.doing r.checking cause) o
    by None = refl
    by (Some r) = refl

-- it leaves no open condition, and one element of this truth
abbrev OneLeft : Bool → Board → Type 0
OneLeft truth b = (e : List ℕ) × (b.stack ≡ e ∷ []) × (truth_of e ≡ truth) × (b.conditions ≡ [])

-- the run of the rows ends as the source, where the last executed row has this statement
abbrev RowsEndAs : SourceOutcome → Next → Option Span → Type 0
RowsEndAs Met next statement = (b : Board) × (next ≡ Ok b) × (OneLeft true b)
RowsEndAs (Failed span cause) next statement =
    (next ≡ Err (fault span (Shared cause)))
    ⊎ ((b : Board) × (next ≡ Ok b) × (OneLeft false b) × (cause ≡ CheckFailed) × (statement ≡ Some span))

-- ---- from the machine to the rows

-- behind at least one instruction, the last executed instruction is one of the rows
told : (rows : List Spanned) (p : Progress) (statement : Option Span) (last at : ℕ) (span : Span) → p.last < p.at
    → HasLast rows p statement last → last ≡ p.at + at → mapped.place_of (map places rows) at EndFalse ≡ Some span → statement ≡ Some span
told rows p None last at span early h is tells = absurd (omega (arith, early, h, is))
told rows p (Some s) last at span early (i, there, stands) is tells =
    let index : i ≡ at = omega (arith, there, is) in
    sym stands ∙ ap (statement_at rows) index ∙ sym (place_told rows at EndFalse) ∙ tells

failed : (rows : List Spanned) (p : Progress) (f : Fault) (at i : ℕ) (span : Span) (cause : Cause)
    → ◌≡◌ {A = End} (Err (failure (p.at + at) f.cause)) (Err (failure (p.at + i) (Shared cause)))
    → place_of rows (failure at f.cause) ≡ Some f.span → mapped.place_of (map places rows) i (Shared cause) ≡ Some span
    → f ≡ fault span (Shared cause)
failed rows p f at i span cause is place tells =
    let same = same_failure (failure (p.at + at) f.cause) (failure (p.at + i) (Shared cause)) is in
    let index : at ≡ i = omega (arith, ap (λ (x : Failure). x.at) same) in
    let alike : f.cause ≡ Shared cause = ap (λ (x : Failure). x.cause) same in
    let both : Some f.span ≡ Some span =
    sym place ∙ ap (λ c. place_of rows (failure at c)) alike ∙ ap (λ n. place_of rows (failure n (Shared cause))) index
    ∙ sym (place_told rows i (Shared cause)) ∙ tells in
    let spans : f.span ≡ span = same_Some f.span span both in
    ap (λ c. fault f.span c) alike ∙ ap (λ s. fault s (Shared cause)) spans

rows_end : (rows : List Spanned) (outcome : SourceOutcome) (p : Progress) (statement : Option Span) (next : Next) (end : End) → p.last < p.at
    → GoesAlike rows p statement next end → EndsAs (map places rows) p.at outcome end → RowsEndAs outcome next statement
rows_end rows Met p statement (Ok b) end early (t, is, board_is, h) (s, got, one) =
    let same = same_state t s (sym is ∙ got) in
    (b, refl, subst (OneLeft true) (sym (ap (λ (x : State). x.board) same) ∙ board_is) one)
rows_end rows Met p statement (Err f) end early (at, is, place) (s, got, one) = absurd (false≢true (sym (ap is_ok is) ∙ ap is_ok got))
rows_end rows (Failed span cause) p statement (Ok b) end early (t, is, board_is, h) (inl (at, got, tells)) =
    absurd (false≢true (sym (ap is_ok got) ∙ ap is_ok is))
rows_end rows (Failed span cause) p statement (Ok b) end early (t, is, board_is, h) (inr (s, got, one, checks, (at, there, tells))) =
    let same = same_state t s (sym is ∙ got) in
    inr (
      b,
      refl,
      subst (OneLeft false) (sym (ap (λ (x : State). x.board) same) ∙ board_is) one,
      checks,
      told rows p statement t.progress.last at span early h (ap (λ (x : State). x.progress.last) same ∙ there) tells,
    )
rows_end rows (Failed span cause) p statement (Err f) end early (at, is, place) (inl (i, got, tells)) =
    inl (ap Err (failed rows p f at i span cause (sym is ∙ got) place tells))
rows_end rows (Failed span cause) p statement (Err f) end early (at, is, place) (inr (s, got, one, checks, tells)) =
    absurd (false≢true (sym (ap is_ok is) ∙ ap is_ok got))

-- ---- from the rows to the machine

ends_as : (rows : List Spanned) (outcome : SourceOutcome) (p : Progress) (statement : Option Span) (next : Next) (end : End)
    → GoesAlike rows p statement next end → RowsEndAs outcome next statement → EndsAs (map places rows) p.at outcome end
ends_as rows Met p statement (Ok b) end (t, is, board_is, h) (c, got, one) =
    (t, is, subst (OneLeft true) (sym (same_board b c got) ∙ sym board_is) one)
ends_as rows Met p statement (Err f) end g (c, got, one) = absurd (false≢true (ap is_ok got))
ends_as rows (Failed span cause) p statement (Ok b) end g (inl got) = absurd (false≢true (sym (ap is_ok got)))
ends_as rows (Failed span cause) p statement (Ok b) end (t, is, board_is, h) (inr (c, got, one, checks, tells)) =
    let last : HasLast rows p (Some span) t.progress.last = subst (λ s. HasLast rows p s t.progress.last) tells h in
    inr (
      t,
      is,
      subst (OneLeft false) (sym (same_board b c got) ∙ sym board_is) one,
      checks,
      (last.0, last.1, place_told rows last.0 EndFalse ∙ last.2),
    )
ends_as rows (Failed span cause) p statement (Err f) end (at, is, place) (inl got) =
    let same = same_fault f (fault span (Shared cause)) got in
    inl (
      at,
      is ∙ ap (λ (x : Fault). Err (failure (p.at + at) x.cause)) same,
      place_told rows at (Shared cause) ∙ subst (λ (x : Fault). place_of rows (failure at x.cause) ≡ Some x.span) same place,
    )
ends_as rows (Failed span cause) p statement (Err f) end g (inr (c, got, one, checks, tells)) = absurd (false≢true (ap is_ok got))

-- ---- from the code to the tidied code

-- no run that ends as a source finds too few elements
enough : (outcome : SourceOutcome) (next : Next) (statement : Option Span) → RowsEndAs outcome next statement → underflows next ≡ false
enough Met next statement (b, is, one) = ap underflows is
enough (Failed span cause) next statement (inl is) = ap underflows is
enough (Failed span cause) next statement (inr (b, is, one, checks, tells)) = ap underflows is

also : (outcome : SourceOutcome) (next other : Next) (statement told : Option Span) → other ≡ next → (is_ok next ≡ true → told ≡ statement)
    → RowsEndAs outcome next statement → RowsEndAs outcome other told
also Met next other statement told same last (b, is, one) = (b, same ∙ is, one)
also (Failed span cause) next other statement told same last (inl is) = inl (same ∙ is)
also (Failed span cause) next other statement told same last (inr (b, is, one, checks, tells)) =
    inr (b, same ∙ is, one, checks, last (ap is_ok is) ∙ tells)

stands_for : (before after : List Spanned) → StandsFor before after → (outcome : SourceOutcome) (world : World) (b : Board)
    → RowsEndAs outcome (run_rows world before b) (last_statement None (trace world before b))
    → RowsEndAs outcome (run_rows world after b) (last_statement None (trace world after b))
stands_for before after x outcome world b h =
    let long = enough outcome (run_rows world before b) (last_statement None (trace world before b)) h in
    also outcome (run_rows world before b) (run_rows world after b) (last_statement None (trace world before b)) (last_statement None (trace world after b))
    (x.runs world b long) (λ ok. (x.statements world b long).last ok None) h

-- ---- the whole

abbrev pub Law : Type 0
Law = (rows : List Spanned) → IsTrue (is_unseparated (instructions rows)) → RunsAnywhere rows

-- behind one instruction
abbrev behind_one : Progress
behind_one = record { at = 1; last = 0; place = 0 }

pub keeps_ends : Law → (before after : List Spanned) → IsTrue (is_unseparated (instructions before)) → Tidied before after → KeepsEnds before after
keeps_ends law before after plain t outcome world whole stack always p =
    let b = board stack [] [] 0 in
    let first = run (setting_in world whole) (instructions before) (state stack behind_one) in
    let second = run (setting_in world whole) (instructions after) (state stack p) in
    let so = rows_end before outcome behind_one (last_statement None (trace world before b)) (run_rows world before b) first (omega arith)
    (law before plain world whole stack behind_one) (always behind_one) in
    ends_as after outcome p (last_statement None (trace world after b)) (run_rows world after b) second
    (law after t.unseparated world whole stack p) (stands_for before after t.tidy.stands outcome world b so)
