-- Nested code composes.
use Rattle.std.proofs.Common.{◌≡◌, ℕ, zero, suc, Bool, true, false, List, [], ◌∷◌, ◌++◌, Option, Some, None, refl, ap, ◌∙◌}
use Rattle.std.specs.Prelude.{option_and_then}
use Rattle.std.proofs.lemmas.Option.{none-some, same_Some}
use Rattle.script_codec.specs.declared.instr.Instr.{Instr}
use Rattle.script_codec.specs.declared.instr.Instr.TheVariants.{Push, Do}
use Rattle.opcode_table.specs.declared.rows.Row.{Row}
use Rattle.opcode_table.specs.declared.rows.Row.TheVariants.{Never, Opens, Flips, Closes}
use Rattle.opcode_table.specs.Table.{row_of}
use Rattle.run_laws.specs.Nested.{open_after_row, open_after, nesting, none_open, is_nested}
use Rattle.run_laws.specs.Branches.{opener, ELSE, ENDIF, one_arm, two_arms}
use Rattle.run_laws.proofs.Nesting.{closes}
use Rattle.run_laws.proofs.Arms.{if_row, notif_row, else_row, endif_row}

-- ---- under one more condition

row_deeper : (row : Row) (n k : ℕ) → open_after_row row n ≡ Some k → open_after_row row (suc n) ≡ Some (suc k)
row_deeper (Never cause) n k h = absurd (none-some k h)
row_deeper (Opens sense) n k h = ap (λ j. Some (suc j)) (same_Some (suc n) k h)
row_deeper Flips zero k h = absurd (none-some k h)
row_deeper Flips (suc n) k h = ap (λ j. Some (suc j)) (same_Some (suc n) k h)
row_deeper Closes zero k h = absurd (none-some k h)
row_deeper Closes (suc n) k h = ap (λ j. Some (suc j)) (same_Some n k h)
row_deeper row n k h = ap (λ j. Some (suc j)) (same_Some n k h)

instr_deeper : (instr : Instr) (n k : ℕ) → open_after instr n ≡ Some k → open_after instr (suc n) ≡ Some (suc k)
instr_deeper (Push e) n k h = ap (λ j. Some (suc j)) (same_Some n k h)
instr_deeper (Do opcode) n k h = row_deeper (row_of opcode.0) n k h

-- an instruction in front of code
in_front : (instr : Instr) (code : List Instr) (n k : ℕ) → open_after instr n ≡ Some k
    → nesting (instr ∷ code) n ≡ nesting code k
in_front instr code n k h = ap (λ o. option_and_then (nesting code) o) h

deeper : (code : List Instr) (n m : ℕ) → nesting code n ≡ Some m → nesting code (suc n) ≡ Some (suc m)
deeper [] n m h = ap (λ j. Some (suc j)) (same_Some n m h)
deeper (instr ∷ code) n m h = by_open (deeper code) (open_after instr n) refl h
  where
    by_open : ((n m : ℕ) → nesting code n ≡ Some m → nesting code (suc n) ≡ Some (suc m)) → (o : Option ℕ)
        → open_after instr n ≡ o → option_and_then (nesting code) o ≡ Some m
        → nesting (instr ∷ code) (suc n) ≡ Some (suc m)
    by_open more None is h = absurd (none-some m h)
    by_open more (Some k) is h = in_front instr code (suc n) (suc k) (instr_deeper instr n k is) ∙ more k m h

-- ---- code in front of code

nesting_append : (first second : List Instr) (n : ℕ)
    → nesting (first ++ second) n ≡ option_and_then (nesting second) (nesting first n)
nesting_append [] second n = refl
nesting_append (instr ∷ first) second n = by_open (nesting_append first second) (open_after instr n)
  where
    by_open : ((n : ℕ) → nesting (first ++ second) n ≡ option_and_then (nesting second) (nesting first n)) → (o : Option ℕ)
        → option_and_then (nesting (first ++ second)) o ≡ option_and_then (nesting second) (option_and_then (nesting first) o)
    by_open more None = refl
    by_open more (Some k) = more k

code_in_front : (first second : List Instr) (n m : ℕ) → nesting first n ≡ Some m
    → nesting (first ++ second) n ≡ nesting second m
code_in_front first second n m h = nesting_append first second n ∙ ap (λ o. option_and_then (nesting second) o) h

-- ---- the laws

pub nested_in_turn : (first second : List Instr) → is_nested first ≡ true → is_nested second ≡ true
    → is_nested (first ++ second) ≡ true
nested_in_turn first second nested other =
    ap none_open (code_in_front first second 0 0 (closes first nested)) ∙ other

opener_open : (sense : Bool) (n : ℕ) → open_after (opener sense) n ≡ Some (suc n)
opener_open true n = ap (λ row. open_after_row row n) if_row
opener_open false n = ap (λ row. open_after_row row n) notif_row

else_open : (n : ℕ) → open_after ELSE (suc n) ≡ Some (suc n)
else_open n = ap (λ row. open_after_row row (suc n)) else_row

endif_closes : open_after ENDIF 1 ≡ Some 0
endif_closes = ap (λ row. open_after_row row 1) endif_row

-- an arm under its condition, and what stands after it
arm_in_front : (arm more : List Instr) → is_nested arm ≡ true → nesting (arm ++ more) 1 ≡ nesting more 1
arm_in_front arm more nested = code_in_front arm more 1 1 (deeper arm 0 0 (closes arm nested))

ends : nesting (ENDIF ∷ []) 1 ≡ Some 0
ends = in_front ENDIF [] 1 0 endif_closes

pub nested_one : (sense : Bool) (arm : List Instr) → is_nested arm ≡ true → is_nested (one_arm sense arm) ≡ true
nested_one sense arm nested =
    ap none_open (in_front (opener sense) (arm ++ (ENDIF ∷ [])) 0 1 (opener_open sense 0)
    ∙ arm_in_front arm (ENDIF ∷ []) nested ∙ ends)

pub nested_two : (sense : Bool) (first second : List Instr) → is_nested first ≡ true → is_nested second ≡ true
    → is_nested (two_arms sense first second) ≡ true
nested_two sense first second nested other =
    let after = second ++ (ENDIF ∷ []) in
    ap none_open (in_front (opener sense) (first ++ (ELSE ∷ after)) 0 1 (opener_open sense 0)
    ∙ arm_in_front first (ELSE ∷ after) nested ∙ in_front ELSE after 1 1 (else_open 0)
    ∙ arm_in_front second (ENDIF ∷ []) other ∙ ends)
