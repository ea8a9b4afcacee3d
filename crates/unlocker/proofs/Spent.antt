-- Elements one after the other, and what follows for the scripts of a call.
use Rattle.std.proofs.Common.{◌≡◌, ℕ, zero, suc, ◌≤◌, List, [], ◌∷◌, ◌++◌, length, Bool, true, false, cond, Option, Some, None, Result, Ok, Err, refl, sym, ap, subst, ◌∙◌, append_assoc}
use Rattle.std.specs.Prelude.{slice_get, ok_or, ◌==◌}
use Rattle.std.specs.List.{AllByRecursion}
use Rattle.std.proofs.lemmas.Bool.{eqb-true}
use Rattle.cash_base.specs.Failing.{◌>>=◌}
use Rattle.spend_json.specs.Given.{ValueParts, ChoiceParts, by_call, by_pushes, SpendParts}
use Rattle.artifact_json.specs.Artifact.{Artifact, AbiParam, AbiCall, HasFewInputs}
use Rattle.unlocker.specs.declared.BuildFault.{BuildFault}
use Rattle.unlocker.specs.declared.BuildFault.TheVariants.{WrongCount, NoSuchFunction}
use Rattle.unlocker.specs.Building.{capped, size_check, chosen_function}
use Rattle.unlocker.specs.Scripts.{redeem_script, spending_script}
use Rattle.unlocker.specs.Values.{element_for}
use Rattle.unlocker.specs.Spends.{each_element, opened_by, called_by, unlocking_by, opened, called, built, built_spend, handed, call_with, built_call, elements_for, place_of, Opened, Called, Built, Handed, IsCallOf}

abbrev pub Elements : Type 0
Elements = List (List ℕ)

-- some elements, and those that are read after them
abbrev pub after : Elements → Result Elements BuildFault → Result Elements BuildFault
after front read = read >>= λ more. Ok (front ++ more)

-- one that is read is the last of those before
pub one_more_element : (front : Elements) (param : AbiParam) (params : List AbiParam) (value : ValueParts) (values : List ValueParts)
    (e : List ℕ) → element_for param.ty value ≡ Ok e
    → after (front ++ e ∷ []) (each_element params values) ≡ after front (each_element (param ∷ params) (value ∷ values))
one_more_element front param params value values e is =
    by_rest (each_element params values)
    ∙ sym (ap (λ (r : Result (List ℕ) BuildFault). after front (r >>= λ x. each_element params values >>= λ es. Ok (x ∷ es))) is)
  where
    by_rest : (rest : Result Elements BuildFault) → after (front ++ e ∷ []) rest ≡ after front (rest >>= λ es. Ok (e ∷ es))
    by_rest (Ok es) = ap (λ (all : Elements). Ok all) (append_assoc front (e ∷ []) es)
    by_rest (Err fault) = refl

-- without values nothing is read
pub nothing_left : (params : List AbiParam) → each_element params [] ≡ Ok []
nothing_left [] = refl
nothing_left (param ∷ params) = refl

-- a function of a program has few parameters
pub few_found : (program : Artifact) (k : ℕ) (function : AbiCall) → HasFewInputs program
    → slice_get program.abi k ≡ Some function → length function.inputs ≤ 16
few_found program k function few found = of_all program.abi k function few found
  where
    of_all : (functions : List AbiCall) (k : ℕ) (function : AbiCall) → AllByRecursion (λ f. length f.inputs ≤ 16) functions
        → slice_get functions k ≡ Some function → length function.inputs ≤ 16
    of_all [] k function all is = absurd cc
    of_all (f ∷ functions) zero function all is =
        let same : f ≡ function = cc in
        subst (λ (g : AbiCall). length g.inputs ≤ 16) same all.0
    of_all (f ∷ functions) (suc k) function all is = of_all functions k function all.1 is

-- the scripts of a call are those of its spend
pub scripts_of_call : (program : Artifact) (spend : SpendParts) (call : Handed)
    → built_call program spend ≡ Ok call → built_spend program spend ≡ Ok call.scripts
scripts_of_call program spend call is = by_choice spend.choice is
  where
    by_called : (front : Opened) (asked : Result Called BuildFault)
        → (asked >>= λ c. Ok (handed (length program.abi) front c)) ≡ Ok call
        → (asked >>= (λ c. Ok (spending_script (length program.abi) c.chosen c.args front.redeem)) >>= λ u. Ok (built front.redeem u)) ≡ Ok call.scripts
    by_called front (Ok c) is = ap (λ (h : Result Handed BuildFault). h >>= λ x. Ok x.scripts) is
    by_called front (Err fault) is = absurd cc

    by_front : (front : Result Opened BuildFault) (asked : Result Called BuildFault)
        → (front >>= λ f. asked >>= λ c. Ok (handed (length program.abi) f c)) ≡ Ok call
        → (front >>= λ f. (asked >>= λ c. Ok (spending_script (length program.abi) c.chosen c.args f.redeem)) >>= λ u. Ok (built f.redeem u)) ≡ Ok call.scripts
    by_front (Ok f) asked is = by_called f asked is
    by_front (Err fault) asked is = absurd cc

    by_choice : (choice : ChoiceParts) → call_with program spend.ctor choice ≡ Ok call
        → (opened_by program spend.ctor >>= λ f. unlocking_by program choice f.redeem >>= λ u. Ok (built f.redeem u)) ≡ Ok call.scripts
    by_choice (by_call name values) is = by_front (opened_by program spend.ctor) (called_by program name values) is
    by_choice (by_pushes elements) is = absurd cc

-- ---- what is built is a call of the program

each_count : (params : List AbiParam) (values : List ValueParts) (es : Elements) → length params ≡ length values
    → each_element params values ≡ Ok es → length es ≡ length params
each_count [] values es count is =
    let same : [] ≡ es = cc in
    sym (ap (λ (xs : Elements). length xs) same)
each_count (param ∷ params) [] es count is = absurd cc
each_count (param ∷ params) (value ∷ values) es count is =
    let fewer : length params ≡ length values = cc in
    by_element (element_for param.ty value) (each_element params values) (λ xs rest. each_count params values xs fewer rest) is
  where
    by_element : (e : Result (List ℕ) BuildFault) (more : Result Elements BuildFault)
        → ((xs : Elements) → more ≡ Ok xs → length xs ≡ length params)
        → (e >>= λ x. more >>= λ xs. Ok (x ∷ xs)) ≡ Ok es → length es ≡ length (param ∷ params)
    by_element (Ok x) (Ok xs) counts built =
        let same : x ∷ xs ≡ es = cc in
        sym (ap (λ (ys : Elements). length ys) same) ∙ ap (λ (n : ℕ). suc n) (counts xs refl)
    by_element (Ok x) (Err fault) counts built = absurd cc
    by_element (Err fault) more counts built = absurd cc

all_count : (params : List AbiParam) (values : List ValueParts) (es : Elements)
    → elements_for params values ≡ Ok es → length es ≡ length params
all_count params values es is = by_test (length params == length values) refl is
  where
    by_test : (t : Bool) → (length params == length values) ≡ t
        → (cond t (Ok tt) (Err (WrongCount (capped (length params)) (capped (length values)))) >>= λ (c : Unit {0}). each_element params values) ≡ Ok es
        → length es ≡ length params
    by_test true same built = each_count params values es (eqb-true (length params) (length values) same) built
    by_test false same built = absurd cc

front_count : (program : Artifact) (values : List ValueParts) (front : Opened) → opened_by program values ≡ Ok front
    → length front.ctor ≡ length program.ctor
front_count program values front is = by_ctor (elements_for program.ctor values) refl is
  where
    by_redeem : (ctor : Elements) (r : Result (List ℕ) BuildFault) → (r >>= λ redeem. Ok (opened ctor redeem)) ≡ Ok front → front.ctor ≡ ctor
    by_redeem ctor (Ok redeem) built =
        let same : opened ctor redeem ≡ front = cc in
        ap (λ (o : Opened). o.ctor) (sym same)
    by_redeem ctor (Err fault) built = absurd cc

    by_ctor : (r : Result Elements BuildFault) → elements_for program.ctor values ≡ r
        → (r >>= λ ctor. size_check (redeem_script program.code ctor) >>= λ redeem. Ok (opened ctor redeem)) ≡ Ok front
        → length front.ctor ≡ length program.ctor
    by_ctor (Ok ctor) read built =
        ap (λ (es : Elements). length es) (by_redeem ctor (size_check (redeem_script program.code ctor)) built)
        ∙ all_count program.ctor values ctor read
    by_ctor (Err fault) read built = absurd cc

-- a function of the program, with an element for each parameter
record IsAsked (program : Artifact) (call : Called) : Type 0 where
  function : AbiCall
  found : slice_get program.abi call.chosen ≡ Some function
  arg_count : length call.args ≡ length function.inputs

asked_fits : (program : Artifact) (name : Option (List ℕ)) (values : List ValueParts) (call : Called)
    → called_by program name values ≡ Ok call → IsAsked program call
asked_fits program name values call is = by_place (ok_or (place_of program.abi name) NoSuchFunction) is
  where
    by_args : (chosen : ℕ) (function : AbiCall) → slice_get program.abi chosen ≡ Some function
        → (r : Result Elements BuildFault) → elements_for function.inputs values ≡ r
        → (r >>= λ args. Ok (called chosen args)) ≡ Ok call → IsAsked program call
    by_args chosen function found (Ok args) read built =
        let same : called chosen args ≡ call = cc in
        subst (λ (c : Called). IsAsked program c) same
        (record { function = function; found = found; arg_count = all_count function.inputs values args read })
    by_args chosen function found (Err fault) read built = absurd cc

    by_function : (chosen : ℕ) (found : Option AbiCall) → slice_get program.abi chosen ≡ found
        → (chosen_function found >>= λ function. elements_for function.inputs values >>= λ args. Ok (called chosen args)) ≡ Ok call
        → IsAsked program call
    by_function chosen (Some function) found built =
        by_args chosen function found (elements_for function.inputs values) refl built
    by_function chosen None found built = absurd cc

    by_place : (r : Result ℕ BuildFault)
        → (r >>= λ chosen. chosen_function (slice_get program.abi chosen) >>= λ function. elements_for function.inputs values >>= λ args. Ok (called chosen args)) ≡ Ok call
        → IsAsked program call
    by_place (Ok chosen) built = by_function chosen (slice_get program.abi chosen) refl built
    by_place (Err fault) built = absurd cc

pub call_fits : (program : Artifact) (ctor : List ValueParts) (choice : ChoiceParts) (call : Handed)
    → call_with program ctor choice ≡ Ok call → IsCallOf program call
call_fits program ctor (by_call name values) call is =
    by_parts name values (opened_by program ctor) (called_by program name values) refl refl is
  where
    by_parts : (name : Option (List ℕ)) (values : List ValueParts) (front : Result Opened BuildFault) (asked : Result Called BuildFault)
        → opened_by program ctor ≡ front → called_by program name values ≡ asked
        → (front >>= λ f. asked >>= λ c. Ok (handed (length program.abi) f c)) ≡ Ok call → IsCallOf program call
    by_parts name values (Ok f) (Ok c) opened called built =
        let same : handed (length program.abi) f c ≡ call = cc in
        let fits = asked_fits program name values c called in
        subst (λ (h : Handed). IsCallOf program h) same (record {
          ctor_count = front_count program ctor f opened;
          function = fits.function;
          found = fits.found;
          arg_count = fits.arg_count;
        })
    by_parts name values (Ok f) (Err fault) opened called built = absurd cc
    by_parts name values (Err fault) asked opened called built = absurd cc
call_fits program ctor (by_pushes elements) call is = absurd cc
