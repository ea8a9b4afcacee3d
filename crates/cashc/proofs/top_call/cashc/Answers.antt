use Rattle.std.proofs.Common.{rules, ◌≡◌, None, Some, inl, refl, sym}
use Rattle.cashc.specs.TopCall
use Rattle.cashc.specs.Answering.{seen}
use Rattle.cashc.proofs.Answered.{misuse, told_for, unread_for}
use Rattle.cashc.proofs.Finished.{no_command, shown_whole, never_told, never_unread}
use Rattle.cashc.proofs.top_call.cashc.Goals as goal

pub returns-in_default-clause-stopped : goal.returns-in_default-clause-stopped
returns-in_default-clause-stopped g c = λ e.
    let none : TopCall.command_of c.args.words.now ≡ None = search rules in
    inl (c.as_bytes.result.now, 2, misuse (g.S.Store.files c.args.store.now) c.args.words.now c.as_bytes.result.now none c.as_bytes.ensures.value, c.write.ensures.stopped e, refl)

pub returns-in-Err-Refused-clause-stopped : goal.returns-in-Err-Refused-clause-stopped
returns-in-Err-Refused-clause-stopped g c = λ e.
    let named : TopCall.command_of c.args.words.now ≡ Some (seen c.in-Some.command) = sym c.in-Some.ensures.named in
    let cause = rw c.in-Err-Refused.field-0-is at c.in-Err-Refused.ensures.stopped in
    let told = told_for (g.S.Store.files c.args.store.now) c.args.words.now (seen c.in-Some.command) c.in-Err-Refused.status c.in-Err-Refused.text.items
    c.as_slice-in-Err-Refused.result.now named c.as_slice-in-Err-Refused.ensures.value cause in
    inl (c.as_slice-in-Err-Refused.result.now, c.in-Err-Refused.status, told, c.write-in-Err-Refused.ensures.stopped e, refl)

pub returns-in-Err-Unread-clause-unread : goal.returns-in-Err-Unread-clause-unread
returns-in-Err-Unread-clause-unread g c = λ e.
    let named : TopCall.command_of c.args.words.now ≡ Some (seen c.in-Some.command) = sym c.in-Some.ensures.named in
    let cause = unread_for (g.S.Store.files c.args.store.now) c.args.words.now (seen c.in-Some.command) (g.S.Store.faults c.args.store.now) (g.S.Store.faults c.answer.new.store)
    named (rw c.in-Err-Unread.field-0-is at c.in-Err-Unread.ensures.stopped) in
    (cause, rw c.as_bytes-in-Err-Unread.ensures.value at c.fail.ensures.told, refl)

pub returns-in-Err-Memory-clause-memory : goal.returns-in-Err-Memory-clause-memory
returns-in-Err-Memory-clause-memory g c = λ e. (rw c.as_bytes-in-Err-Memory.ensures.value at c.fail-in-Err-Memory.ensures.told, refl)

pub returns-in_default-clause-complete : goal.returns-in_default-clause-complete
returns-in_default-clause-complete g c = λ command named can reads shows tells.
    let none : TopCall.command_of c.args.words.now ≡ None = search rules in
    no_command c.args.words.now command c.write.result none named

pub returns-in-Ok-clause-complete : goal.returns-in-Ok-clause-complete
returns-in-Ok-clause-complete g c = λ command named can reads shows tells.
    shown_whole c.write-in-Ok.result c.in-Ok.field-0.status (g.K.Sink.faults c.args.out.now) (g.K.Sink.faults c.write-in-Ok.new.sink) c.write-in-Ok.ensures.only c.in-Ok.ensures.status
    (λ e. (c.write-in-Ok.ensures.stopped e).0) shows

pub returns-in-Err-Refused-clause-complete : goal.returns-in-Err-Refused-clause-complete
returns-in-Err-Refused-clause-complete g c = λ command named can reads shows tells.
    let again : TopCall.command_of c.args.words.now ≡ Some (seen c.in-Some.command) = sym c.in-Some.ensures.named in
    let cause = rw c.in-Err-Refused.field-0-is at c.in-Err-Refused.ensures.stopped in
    never_told c.small_contracts_fit.ensures (g.S.Store.files c.args.store.now) c.args.words.now command (seen c.in-Some.command) c.in-Err-Refused.status c.in-Err-Refused.text.items
    c.write-in-Err-Refused.result named can again cause

pub returns-in-Err-Unread-clause-complete : goal.returns-in-Err-Unread-clause-complete
returns-in-Err-Unread-clause-complete g c = λ command named can reads shows tells.
    let again : TopCall.command_of c.args.words.now ≡ Some (seen c.in-Some.command) = sym c.in-Some.ensures.named in
    never_unread (g.S.Store.files c.args.store.now) c.args.words.now command (seen c.in-Some.command) (g.S.Store.faults c.args.store.now) (g.S.Store.faults c.answer.new.store)
    c.fail.result named can again reads (rw c.in-Err-Unread.field-0-is at c.in-Err-Unread.ensures.stopped)
