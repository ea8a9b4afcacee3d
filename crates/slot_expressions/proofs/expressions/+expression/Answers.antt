use Rattle.slot_expressions.proofs.Arrays.{left_all_more, left_all_done, left_chunks_more, left_chunks_done}
use Rattle.slot_expressions.proofs.Arrays.{lowers_form_data, lowers_form_sigs}
use Rattle.slot_expressions.proofs.Lowered.{at_value, lowers_sized_cast, lowers_form_one, lowers_form_two, lowers_form_three, lowers_form_sig, lowers_form_data_sig, lowers_form_lock}
use Rattle.slot_expressions.proofs.Readies.{one_arg, two_args, three_args}
use Rattle.slot_expressions.proofs.expressions.+expression.Goals as goal

-- ---- casts

pub kind-returns-in_ok-do2-in-Some : goal.kind-returns-in_ok-do2-in-Some
kind-returns-in_ok-do2-in-Some t c =
    lowers_sized_cast c.in-Cast.is c.in-Some.is (at_value c.get-in-Cast.ensures c.in_ok-element-in-Cast.ensures) (at_value c.get-in-Some.ensures c.in_ok-element-in-Some.ensures) c.in_ok-do2-in-Some.ensures

-- ---- the arguments of a call

pub form_of_one-returns : goal.form_of_one-returns
form_of_one-returns t c =
    lowers_form_one (one_arg c.args.args.now c.a-item.result c.in-len1.len_at_least c.in-len1.len_below c.a-item.is)
    c.in_ok-element.ensures c.in_ok-do1.ensures

pub form_of_two-returns : goal.form_of_two-returns
form_of_two-returns t c =
    lowers_form_two (two_args c.args.args.now c.a-item.result c.b-item.result c.in-len2.len_at_least c.in-len2.len_below c.a-item.is c.b-item.is)
    c.in_ok-element.ensures c.in_ok-element-2.ensures c.in_ok-do2.ensures

pub form_of_three-returns : goal.form_of_three-returns
form_of_three-returns t c =
    lowers_form_three (three_args c.args.args.now c.a-item.result c.b-item.result c.c-item.result c.in-len3.len_at_least c.in-len3.len_below c.a-item.is c.b-item.is c.c-item.is)
    c.in_ok-element.ensures c.in_ok-element-2.ensures c.in_ok-element-3.ensures c.in_ok-do3.ensures

pub form_of_sig-returns : goal.form_of_sig-returns
form_of_sig-returns t c =
    lowers_form_sig (two_args c.args.args.now c.sig-item.result c.key-item.result c.in-len2.len_at_least c.in-len2.len_below c.sig-item.is c.key-item.is)
    c.in_ok-element.ensures c.in_ok-element-2.ensures c.in_ok-check_sig.ensures

pub form_of_data_sig-returns : goal.form_of_data_sig-returns
form_of_data_sig-returns t c =
    lowers_form_data_sig (three_args c.args.args.now c.sig-item.result c.message-item.result c.key-item.result c.in-len3.len_at_least c.in-len3.len_below c.sig-item.is c.message-item.is c.key-item.is)
    c.in_ok-element.ensures c.in_ok-element-2.ensures c.in_ok-element-3.ensures c.in_ok-check_data.ensures

pub form_of_lock-returns : goal.form_of_lock-returns
form_of_lock-returns t c =
    lowers_form_lock (one_arg c.args.args.now c.hash-item.result c.in-len1.len_at_least c.in-len1.len_below c.hash-item.is)
    c.lock_front.ensures c.in_ok-literal.ensures c.in_ok-element.ensures c.in_ok-do2.ensures c.lock_back.ensures c.in_ok-literal-2.ensures c.in_ok-do2-2.ensures

pub form_of_sigs-returns : goal.form_of_sigs-returns
form_of_sigs-returns t c =
    lowers_form_sigs (two_args c.args.args.now c.sigs-item.result c.keys-item.result c.in-len2.len_at_least c.in-len2.len_below c.sigs-item.is c.keys-item.is)
    c.in_ok-literal.ensures c.in_ok-sigs.ensures c.in_ok-count.ensures c.in_ok-keys.ensures c.in_ok-count-2.ensures c.in_ok-check_multi.ensures c.requires

pub form_of_data-returns : goal.form_of_data-returns
form_of_data-returns t c =
    lowers_form_data (one_arg c.args.args.now c.chunks-item.result c.in-len1.len_at_least c.in-len1.len_below c.chunks-item.is)
    c.in_ok-literal.ensures c.in_ok-chunks_of.ensures

-- ---- loops

pub all-loop-part-preserved : goal.all-loop-part-preserved
all-loop-part-preserved t c = left_all_more _ _ _ _ _ _ _ c.loop-part.invariant c.loop-part-test.true c.part-item.is c.in_ok-element.ensures

pub all-returns : goal.all-returns
all-returns t c = left_all_done _ _ _ _ _ c.loop-part.invariant c.loop-part-test.false

pub chunks-loop-part-preserved : goal.chunks-loop-part-preserved
chunks-loop-part-preserved t c = left_chunks_more _ _ _ _ _ _ _ _ c.loop-part.invariant c.loop-part-test.true c.part-item.is c.in_ok-chunk.ensures

pub chunks-returns : goal.chunks-returns
chunks-returns t c = left_chunks_done _ _ _ _ _ _ c.loop-part.invariant c.loop-part-test.false
