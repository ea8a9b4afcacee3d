-- Windows as rows: what the code finds is what the table says.
use Rattle.std.proofs.Common.{◌≡◌, ℕ, zero, suc, ◌<◌, List, [], ◌∷◌, length, map, get_or, refl, sym, ap, ◌∙◌, subst, arith}
use Rattle.std.specs.List.{All}
use Rattle.std.proofs.lemmas.List.Elements.{All-head, All-tail, All-nil, All-cons}
use Rattle.std.proofs.Math.ListN.{length-map}
use Rattle.cash_base.specs.declared.place.Span.{Span}
use Rattle.script_codec.specs.declared.instr.Instr.{Instr}
use Rattle.script_codec.specs.declared.instr.Instr.TheVariants.{Do}
use Rattle.script_codec.specs.declared.instr.Opcode.{Opcode}
use Rattle.script_codec.specs.declared.spans.Spanned.{Spanned}
use Rattle.row_runs.specs.Rows.{instructions}
use Rattle.rewrite_rules.specs.Rows.{row}
use Rattle.rewrite_rules.specs.Rules.{Rule, rule, VERIFY, rows_of, replacement_of, Matches, Rewrites}

-- the doing span of each row, and the checking span past the end
abbrev doing_at : List Spanned → Span → ℕ → Span
doing_at [] checking k = checking
doing_at (r ∷ rows) checking zero = r.doing
doing_at (r ∷ rows) checking (suc k) = doing_at rows checking k

-- what stands where a list has no element
pub some_row : Span → Spanned
some_row span = row span VERIFY span

abbrev Checks : Span → List Spanned → Type 0
Checks checking rows = All (λ r. r.checking ≡ checking) rows

rows_are : (rows : List Spanned) (checking : Span) → Checks checking rows
    → rows ≡ rows_of (instructions rows) (doing_at rows checking) checking
rows_are [] checking h = refl
rows_are (r ∷ rows) checking h =
    ap (λ c. row c r.instr r.doing ∷ rows) (All-head (λ r. r.checking ≡ checking) r rows h)
    ∙ ap (λ l. row checking r.instr r.doing ∷ l) (rows_are rows checking (All-tail (λ r. r.checking ≡ checking) r rows h))

doing_is : (rows : List Spanned) (checking : Span) (k : ℕ) (d : Spanned) → k < length rows
    → doing_at rows checking k ≡ (get_or rows k d).doing
doing_is [] checking k d h = absurd (omega arith)
doing_is (r ∷ rows) checking zero d h = refl
doing_is (r ∷ rows) checking (suc k) d h = doing_is rows checking k d (omega arith)

pub instrs_of : (instrs : List Instr) (places : ℕ → Span) (checking : Span) → instructions (rows_of instrs places checking) ≡ instrs
instrs_of [] places checking = refl
instrs_of (i ∷ instrs) places checking = ap (λ l. i ∷ l) (instrs_of instrs (λ k. places (suc k)) checking)

checks_of : (instrs : List Instr) (places : ℕ → Span) (checking : Span) → Checks checking (rows_of instrs places checking)
checks_of [] places checking = All-nil (λ r. r.checking ≡ checking)
checks_of (i ∷ instrs) places checking =
    All-cons (λ r. r.checking ≡ checking) (row checking i (places 0)) _ refl (checks_of instrs (λ k. places (suc k)) checking)

-- a window has the instructions of its rule
pub matched_instrs : (r : Rule) (rows : List Spanned) → Matches r rows → instructions rows ≡ r.before
matched_instrs r rows m = ap instructions m.is ∙ instrs_of r.before m.places m.checking

within : (rows : List Spanned) (instrs : List Instr) (k : ℕ) → instructions rows ≡ instrs → k < length instrs → k < length rows
within rows instrs k e h = omega (arith, length-map rows (λ (r : Spanned). r.instr), ap length e)

pub same_place : {A B : Type 0} (xs : List A) (f : A → B) (k : ℕ) → k < length xs → k < length (map f xs)
same_place xs f k h = omega (arith, length-map xs f, h)

-- and one checking span
pub matched_checks : (r : Rule) (rows : List Spanned) (k : ℕ) (x : Spanned) (checking : Span) → Matches r rows → k < length r.before
    → checking ≡ (get_or rows k x).checking → Checks checking rows
matched_checks r rows k x checking m h' e =
    let h = within rows r.before k (matched_instrs r rows m) h' in
    let checks = subst (Checks m.checking) (sym m.is) (checks_of r.before m.places m.checking) in
    subst (λ c. Checks c rows) (sym (checks k x h) ∙ sym e) checks

opcodes_placed : (checking doing : Span) (opcodes : List Opcode)
    → map (λ o. row checking (Do o) doing) opcodes ≡ map (λ instr. row checking instr doing) (map (λ o. Do o) opcodes)
opcodes_placed checking doing [] = refl
opcodes_placed checking doing (o ∷ opcodes) = ap (λ l. row checking (Do o) doing ∷ l) (opcodes_placed checking doing opcodes)

pub found : (before : List Instr) (after : List Opcode) (place : ℕ) (rows code : List Spanned) (x : Spanned) (doing checking : Span)
    → instructions rows ≡ before → Checks checking rows → place < length before → doing ≡ (get_or rows place x).doing
    → code ≡ map (λ o. row checking (Do o) doing) after → Rewrites (rule before (map (λ o. Do o) after) place) rows code
found before after place rows code x doing checking e checks h' at is = let h = within rows before place e h' in record {
  places = doing_at rows checking;
  checking = checking;
  was = rows_are rows checking checks ∙ ap (λ l. rows_of l (doing_at rows checking) checking) e;
  now = is ∙ ap (λ d. map (λ o. row checking (Do o) d) after) (at ∙ sym (doing_is rows checking place x h))
      ∙ opcodes_placed checking (doing_at rows checking place) after;
}

pub length_window : (instrs : List Instr) (places : ℕ → Span) (checking : Span) → length (rows_of instrs places checking) ≡ length instrs
length_window [] places checking = refl
length_window (i ∷ instrs) places checking = ap suc (length_window instrs (λ k. places (suc k)) checking)

pub length_replacement : (r : Rule) (places : ℕ → Span) (checking : Span) → length (replacement_of r places checking) ≡ length r.after
length_replacement r places checking = length-map r.after (λ instr. row checking instr (places r.place))
