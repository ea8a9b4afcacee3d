use Rattle.std.proofs.Common.{◌≡◌, ◌≤◌, IsTrue, List, [], ◌∷◌, length, sym, ap, ◌∙◌, subst, arith}
use Rattle.script_codec.specs.declared.spans.Spanned.{Spanned}
use Rattle.script_codec.specs.declared.spans.Marked.{Marked}
use Rattle.row_runs.specs.Rows.{instructions}
use Rattle.selector.specs.Place.{is_unseparated}
use Rattle.selector.specs.Selection.{Selects, AreNested, AreUnseparated}
use Rattle.cash_compile.specs.Code.{IsCode}
use Rattle.cash_compile.proofs.Whole.{planned, as_many, all_nested, all_plain, whole_code}
use Rattle.cash_compile.proofs.Tidied.{plain_code}
use Rattle.cash_compile.proofs.compile.untidied_code.Goals as goal

pub select-requires-clause-some : goal.select-requires-clause-some
select-requires-clause-some c =
    let all = planned c.rows_run_behind.ensures c.args.contract.now c.in_ok-lowered.lowered.items c.as_slice.result.now c.in_ok-codes.codes.items c.as_slice.ensures.value
    (record { counts = c.in_ok-lowered.ensures.functions; runs = c.in_ok-lowered.ensures.run; weights = c.in_ok-lowered.ensures.weights; spans = c.in_ok-lowered.ensures.spans })
    c.in_ok-codes.ensures in
    let count = as_many c.args.contract.now c.in_ok-codes.codes.items all in
    let same = ap length c.as_slice-2.ensures.value in
    let some = c.requires.some_function in
    omega (arith, count, same, some)

pub select-requires-clause-few : goal.select-requires-clause-few
select-requires-clause-few c =
    let all = planned c.rows_run_behind.ensures c.args.contract.now c.in_ok-lowered.lowered.items c.as_slice.result.now c.in_ok-codes.codes.items c.as_slice.ensures.value
    (record { counts = c.in_ok-lowered.ensures.functions; runs = c.in_ok-lowered.ensures.run; weights = c.in_ok-lowered.ensures.weights; spans = c.in_ok-lowered.ensures.spans })
    c.in_ok-codes.ensures in
    let count = as_many c.args.contract.now c.in_ok-codes.codes.items all in
    let same = ap length c.as_slice-2.ensures.value in
    let few = c.requires.few_functions in
    omega (arith, count, same, few)

pub select-requires-clause-nested : goal.select-requires-clause-nested
select-requires-clause-nested c =
    let all = planned c.rows_run_behind.ensures c.args.contract.now c.in_ok-lowered.lowered.items c.as_slice.result.now c.in_ok-codes.codes.items c.as_slice.ensures.value
    (record { counts = c.in_ok-lowered.ensures.functions; runs = c.in_ok-lowered.ensures.run; weights = c.in_ok-lowered.ensures.weights; spans = c.in_ok-lowered.ensures.spans })
    c.in_ok-codes.ensures in
    subst AreNested (sym c.as_slice-2.ensures.value) (all_nested c.args.contract.now c.in_ok-codes.codes.items all)

pub select-requires-clause-unseparated : goal.select-requires-clause-unseparated
select-requires-clause-unseparated c =
    let all = planned c.rows_run_behind.ensures c.args.contract.now c.in_ok-lowered.lowered.items c.as_slice.result.now c.in_ok-codes.codes.items c.as_slice.ensures.value
    (record { counts = c.in_ok-lowered.ensures.functions; runs = c.in_ok-lowered.ensures.run; weights = c.in_ok-lowered.ensures.weights; spans = c.in_ok-lowered.ensures.spans })
    c.in_ok-codes.ensures in
    subst AreUnseparated (sym c.as_slice-2.ensures.value) (all_plain c.args.contract.now c.in_ok-codes.codes.items all)

pub returns-clause-code : goal.returns-clause-code
returns-clause-code c =
    let codes = c.in_ok-codes.codes.items in
    let all = planned c.rows_run_behind.ensures c.args.contract.now c.in_ok-lowered.lowered.items c.as_slice.result.now codes c.as_slice.ensures.value
    (record { counts = c.in_ok-lowered.ensures.functions; runs = c.in_ok-lowered.ensures.run; weights = c.in_ok-lowered.ensures.weights; spans = c.in_ok-lowered.ensures.spans })
    c.in_ok-codes.ensures in
    let count = as_many c.args.contract.now codes all in
    let some = c.requires.some_function in
    let few = c.requires.few_functions in
    let slice = c.as_slice-2.ensures.value in
    let code = c.in_ok-code.code in
    let one = λ (function : Marked) (is : codes ≡ function ∷ []). c.in_ok-code.ensures.one function (slice ∙ is) in
    let several = λ (two : 2 ≤ length codes). subst (λ (l : List Marked). Selects l c.ctor_count-ctors.result c.args.contract.now.span code) slice
    (c.in_ok-code.ensures.several (subst (λ (l : List Marked). 2 ≤ length l) (sym slice) two)) in
    subst (λ (rows : List Spanned). IsCode c.args.contract.now rows) (sym (ap (λ v. v.items) c.rows_of-rows.ensures))
    (whole_code c.number_of_written.ensures c.choices_count_few.ensures c.args.contract.now codes c.ctor_count-ctors.result code all c.ctor_count-ctors.ensures
    (omega (arith, count, some)) (omega (arith, count, few)) one several)

pub returns-clause-unseparated : goal.returns-clause-unseparated
returns-clause-unseparated c =
    let codes = c.in_ok-codes.codes.items in
    let all = planned c.rows_run_behind.ensures c.args.contract.now c.in_ok-lowered.lowered.items c.as_slice.result.now codes c.as_slice.ensures.value
    (record { counts = c.in_ok-lowered.ensures.functions; runs = c.in_ok-lowered.ensures.run; weights = c.in_ok-lowered.ensures.weights; spans = c.in_ok-lowered.ensures.spans })
    c.in_ok-codes.ensures in
    let count = as_many c.args.contract.now codes all in
    let some = c.requires.some_function in
    let slice = c.as_slice-2.ensures.value in
    let code = c.in_ok-code.code in
    let one = λ (function : Marked) (is : codes ≡ function ∷ []). c.in_ok-code.ensures.one function (slice ∙ is) in
    let several = λ (two : 2 ≤ length codes). subst (λ (l : List Marked). Selects l c.ctor_count-ctors.result c.args.contract.now.span code) slice
    (c.in_ok-code.ensures.several (subst (λ (l : List Marked). 2 ≤ length l) (sym slice) two)) in
    subst (λ (rows : List Spanned). IsTrue (is_unseparated (instructions rows))) (sym (ap (λ v. v.items) c.rows_of-rows.ensures))
    (plain_code c.args.contract.now codes c.ctor_count-ctors.result code all (omega (arith, count, some)) one several)
