use Rattle.std.proofs.Common.{◌≡◌, ◌<◌, false, length, ◌∙◌, arith}
use Rattle.std.specs.BTreeSet.{contains}
use Rattle.tx_context.specs.declared.verdict.Subject.{Subject}
use Rattle.tx_context.specs.Table.{has_needless_message, is_empty_and_good}
use Rattle.tx_context.proofs.Subjects.{subject_cmp, IsOf, seen_more, unseen, checks_on, bytes_on}
use Rattle.tx_context.proofs.verdict.check_rows.Goals as goal

pub loop-i-preserved : goal.loop-i-preserved
loop-i-preserved c =
    let rows = c.args.rows.now in
    let i = c.loop-i.i in
    let row = c.index-rows-i.result in
    let subject = c.subject_of-subject.result in
    let within : i < length rows = omega arith in
    let is : IsOf row subject = record {
      kind = c.subject_of-subject.ensures.kind;
      sig = c.subject_of-subject.ensures.sig;
      key = c.subject_of-subject.ensures.key;
      message = c.subject_of-subject.ensures.message;
    } in
    let absent : contains subject_cmp c.loop-i.seen subject ≡ false = grind (arith, c.in-Ok.ensures.added, c.if-not-is_new.false, c.in-Ok.is_new-is) in
    let alone = unseen rows i row subject (contains subject_cmp c.loop-i.seen subject) is (c.loop-i.invariant.seen subject) absent in
    let message : has_needless_message row ≡ false = cc (c.is_needless_message.ensures, c.if-is_needless_message.false) in
    let empty : is_empty_and_good row ≡ false = cc (c.is_empty_good.ensures, c.if-is_empty_good.false) in
    record {
      checks = checks_on rows i row within c.index-rows-i.is message empty alone ∙ c.loop-i.invariant.checks;
      bytes = bytes_on rows i row within c.index-rows-i.is c.subject_of-subject.ensures.bytes ∙ c.loop-i.invariant.bytes;
      seen = λ (q : Subject). seen_more rows i row subject q (contains subject_cmp c.loop-i.seen q) (contains subject_cmp c.insert.new.self q) within c.index-rows-i.is is
          (c.loop-i.invariant.seen q) (c.in-Ok.ensures.updates.0 q);
    }
