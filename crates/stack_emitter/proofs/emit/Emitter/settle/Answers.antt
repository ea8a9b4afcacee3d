use Rattle.std.proofs.Common.{ap, ◌∙◌, sym, subst, ◌++◌, []}
use Rattle.std.specs.Prelude.{IsTrue}
use Rattle.branch_layout.specs.Slots.{all_stand_in, kept_of}
use Rattle.stack_emitter.specs.Places.{spot}
use Rattle.stack_emitter.specs.Correct.{rows_of}
use Rattle.stack_emitter.proofs.Reached.{settled, settled_bytes, settled_ops, stand_in_itself, kept_itself}
use Rattle.stack_emitter.proofs.emit.Emitter.settle.Goals as goal

pub returns-clause-emits : goal.returns-clause-emits
returns-clause-emits c =
    settled c.args.self.now (record { alloc = c.put_all.new.self.alloc; code = c.put_all.new.self.code; place = c.of_slots.result }) c.args.checking
    c.in_ok-from.from c.args.target.now c.in_ok-joined.joined.target c.in_ok-joined.joined.else_moves.items c.requires.operands
    (c.in_ok-from.ensures ∙ c.slots.ensures)
    (c.in_ok-joined.ensures.target ∙ ap (kept_of c.args.target.now) c.in_ok-to.ensures)
    c.in_ok-joined.ensures.else_arm
    (c.in_ok-put_all.ensures.code ∙ ap (λ m. c.args.self.now.code.items ++ rows_of c.args.checking m) c.as_slice.ensures.value)
    (c.of_slots.ensures ∙ ap (spot []) (c.in_ok-slots.ensures.items ∙ c.slots-2.ensures.slots))

pub join-requires-clause-in_a : goal.join-requires-clause-in_a
join-requires-clause-in_a c =
    subst (λ t. IsTrue (all_stand_in c.args.target.now t)) (sym c.in_ok-to.ensures) (stand_in_itself c.args.target.now)

pub returns-clause-place : goal.returns-clause-place
returns-clause-place c =
    c.of_slots.ensures ∙ ap (spot [])
    (c.in_ok-slots.ensures.items ∙ c.slots-2.ensures.slots ∙ c.in_ok-joined.ensures.target ∙ ap (kept_of c.args.target.now) c.in_ok-to.ensures ∙ kept_itself c.args.target.now)

pub returns-clause-bytes : goal.returns-clause-bytes
returns-clause-bytes c =
    settled_bytes c.args.self.now (record { alloc = c.put_all.new.self.alloc; code = c.put_all.new.self.code; place = c.of_slots.result }) c.args.checking
    c.in_ok-from.from c.in_ok-joined.joined.target c.in_ok-joined.joined.else_moves.items (c.in_ok-from.ensures ∙ c.slots.ensures) c.in_ok-joined.ensures.else_arm
    (c.in_ok-put_all.ensures.code ∙ ap (λ m. c.args.self.now.code.items ++ rows_of c.args.checking m) c.as_slice.ensures.value)

pub returns-clause-ops : goal.returns-clause-ops
returns-clause-ops c =
    settled_ops c.args.self.now (record { alloc = c.put_all.new.self.alloc; code = c.put_all.new.self.code; place = c.of_slots.result }) c.args.checking
    c.in_ok-from.from c.in_ok-joined.joined.target c.in_ok-joined.joined.else_moves.items (c.in_ok-from.ensures ∙ c.slots.ensures) c.in_ok-joined.ensures.else_arm
    (c.in_ok-put_all.ensures.code ∙ ap (λ m. c.args.self.now.code.items ++ rows_of c.args.checking m) c.as_slice.ensures.value)
