use Rattle.std.proofs.Common.{◌≡◌, cond, arith, ap, ◌∙◌, sym, not, subst, true, false, refl, [], ◌∷◌, ◌++◌, None}
use Rattle.slot_code.specs.declared.slots.SlotKind.TheVariants.{If}
use Rattle.slot_liveness.specs.Live.{later, hold, kept}
use Rattle.slot_liveness.specs.Counts.{less}
use Rattle.stack_emitter.specs.Correct.{nothing, get_deed, store_deed, pair_deed}
use Rattle.stack_steps.proofs.Stepped.{steps_operates, steps_adds, spent, get_pays, define_pays, pair_pays, assign_pays, end_pays}
use Rattle.stack_steps.proofs.PlacesAt.{places_get, places_define, places_define_pair, places_assign, places_end}
use Rattle.stack_steps.proofs.Pairs.{pair_two, pair_left, pair_right, pair_differ, does_pair}
use Rattle.stack_steps.proofs.Names.{end_none, does_lit, get_room, get_has, does_get, define_one, define_fresh, does_define, assign_one, assign_few, assign_once, assign_has, does_assign, end_has, end_once, end_room, does_end}
use Rattle.stack_steps.proofs.low.Low.step.Goals as goal

pub operate-requires : goal.operate-requires
operate-requires c =
    record { before = c.args.self.now; later = (later c.args.rest.now c.args.after.now); hold = (hold c.args.body.now c.args.held.now); marks = record { scope = c.mark.ensures.scope; outer = c.mark.ensures.outer; emitter = c.mark.ensures.emitter; seen = c.in_ok-mark.ensures.seen }; ready = c.requires.ready }

pub returns-in_ok-operate-in-Do1 : goal.returns-in_ok-operate-in-Do1
returns-in_ok-operate-in-Do1 c =
    steps_operates c.args.instr.now (later c.args.rest.now c.args.after.now) (hold c.args.body.now c.args.held.now) c.args.self.now c.mark.new.self (record { scope = c.mark.ensures.scope; outer = c.mark.ensures.outer; emitter = c.mark.ensures.emitter; seen = c.in_ok-mark.ensures.seen }) c.in_ok-mark.ensures.marks c.operate.new.self c.requires.ready c.in_ok-operate-in-Do1.ensures

pub returns-in_ok-lit-in-Lit : goal.returns-in_ok-lit-in-Lit
returns-in_ok-lit-in-Lit c =
    steps_operates c.args.instr.now (later c.args.rest.now c.args.after.now) (hold c.args.body.now c.args.held.now) c.args.self.now c.mark.new.self (record { scope = c.mark.ensures.scope; outer = c.mark.ensures.outer; emitter = c.mark.ensures.emitter; seen = c.in_ok-mark.ensures.seen }) c.in_ok-mark.ensures.marks _ c.requires.ready (does_lit c.args.instr.now c.in-Lit.element.items c.in-Lit.is c.mark.new.self c.lit.new.self c.in_ok-lit-in-Lit.ensures.emits c.in_ok-lit-in-Lit.ensures.code c.in_ok-lit-in-Lit.ensures.costs c.in_ok-lit-in-Lit.ensures.place)

pub read-requires-clause-room : goal.read-requires-clause-room
read-requires-clause-room c =
    get_room c.args.instr.now (later c.args.rest.now c.args.after.now) (hold c.args.body.now c.args.held.now) c.args.self.now c.mark.new.self (record { scope = c.mark.ensures.scope; outer = c.mark.ensures.outer; emitter = c.mark.ensures.emitter; seen = c.in_ok-mark.ensures.seen }) c.requires.ready c.in-Get.slot c.in-Get.is

pub read-requires-clause-defined : goal.read-requires-clause-defined
read-requires-clause-defined c =
    get_has c.args.instr.now (later c.args.rest.now c.args.after.now) (hold c.args.body.now c.args.held.now) c.args.self.now c.mark.new.self (record { scope = c.mark.ensures.scope; outer = c.mark.ensures.outer; emitter = c.mark.ensures.emitter; seen = c.in_ok-mark.ensures.seen }) c.requires.ready c.in-Get.slot c.in-Get.is

pub returns-in_ok-read-in-Get : goal.returns-in_ok-read-in-Get
returns-in_ok-read-in-Get c =
    steps_adds c.args.instr.now (later c.args.rest.now c.args.after.now) (hold c.args.body.now c.args.held.now) c.args.self.now c.mark.new.self (record { scope = c.mark.ensures.scope; outer = c.mark.ensures.outer; emitter = c.mark.ensures.emitter; seen = c.in_ok-mark.ensures.seen }) c.in_ok-mark.ensures.marks c.read.new.self _ refl refl (get_deed c.in-Get.slot) c.args.instr.now.doing c.in_ok-read-in-Get.ensures.emits (None ∷ c.mark.new.self.emitter.place.operands) (ap (λ p. p.operands) c.in_ok-read-in-Get.ensures.place) tt
    _ (places_get c.args.instr.now c.in-Get.slot c.in-Get.is) refl
    (ap (λ p. p.slots) c.in_ok-read-in-Get.ensures.place ∙ ap (λ b. cond b c.mark.new.self.emitter.place.slots (less c.in-Get.slot c.mark.new.self.emitter.place.slots)) c.is_kept-kept.ensures)
    (does_get c.args.instr.now (later c.args.rest.now c.args.after.now) (hold c.args.body.now c.args.held.now) c.args.self.now c.mark.new.self (record { scope = c.mark.ensures.scope; outer = c.mark.ensures.outer; emitter = c.mark.ensures.emitter; seen = c.in_ok-mark.ensures.seen }) c.requires.ready c.in-Get.slot c.in-Get.is c.read.new.self c.is_kept-kept.result c.is_kept-kept.ensures c.in_ok-read-in-Get.ensures.emits.emits c.in_ok-read-in-Get.ensures.place)
    (get_pays c.args.instr.now (later c.args.rest.now c.args.after.now) (hold c.args.body.now c.args.held.now) c.args.self.now c.mark.new.self (record { scope = c.mark.ensures.scope; outer = c.mark.ensures.outer; emitter = c.mark.ensures.emitter; seen = c.in_ok-mark.ensures.seen }) c.in_ok-mark.ensures.marks c.in-Get.slot _ c.in-Get.is refl (spent c.args.instr.now c.mark.new.self c.read.new.self _ refl (get_deed c.in-Get.slot) c.args.instr.now.doing c.in_ok-read-in-Get.ensures.emits 4 1 c.in_ok-read-in-Get.ensures.costs))

pub store-requires-clause-operand : goal.store-requires-clause-operand
store-requires-clause-operand c =
    define_one c.args.instr.now (later c.args.rest.now c.args.after.now) (hold c.args.body.now c.args.held.now) c.args.self.now c.mark.new.self (record { scope = c.mark.ensures.scope; outer = c.mark.ensures.outer; emitter = c.mark.ensures.emitter; seen = c.in_ok-mark.ensures.seen }) c.requires.ready c.in-Define.slot c.in-Define.is

pub store-requires-clause-fresh : goal.store-requires-clause-fresh
store-requires-clause-fresh c =
    define_fresh c.args.instr.now (later c.args.rest.now c.args.after.now) (hold c.args.body.now c.args.held.now) c.args.self.now c.mark.new.self (record { scope = c.mark.ensures.scope; outer = c.mark.ensures.outer; emitter = c.mark.ensures.emitter; seen = c.in_ok-mark.ensures.seen }) c.requires.ready c.in-Define.slot c.in-Define.is

pub returns-in_ok-push-in-Define : goal.returns-in_ok-push-in-Define
returns-in_ok-push-in-Define c =
    steps_adds c.args.instr.now (later c.args.rest.now c.args.after.now) (hold c.args.body.now c.args.held.now) c.args.self.now c.mark.new.self (record { scope = c.mark.ensures.scope; outer = c.mark.ensures.outer; emitter = c.mark.ensures.emitter; seen = c.in_ok-mark.ensures.seen }) c.in_ok-mark.ensures.marks c.store.new.self _ refl refl (store_deed c.is_kept-kept-in-Define.result c.in-Define.slot c.args.instr.now.doing) c.args.instr.now.checking (c.in_ok-store-in-Define.ensures.emits c.args.instr.now.doing) [] (ap (λ p. p.operands) c.in_ok-store-in-Define.ensures.place) tt
    _ (places_define c.args.instr.now c.in-Define.slot c.in-Define.is) refl
    (ap (λ p. p.slots) c.in_ok-store-in-Define.ensures.place ∙ ap (λ b. cond b (c.in-Define.slot ∷ c.mark.new.self.emitter.place.slots) c.mark.new.self.emitter.place.slots) c.is_kept-kept-in-Define.ensures)
    (does_define c.args.instr.now (later c.args.rest.now c.args.after.now) (hold c.args.body.now c.args.held.now) c.args.self.now c.mark.new.self (record { scope = c.mark.ensures.scope; outer = c.mark.ensures.outer; emitter = c.mark.ensures.emitter; seen = c.in_ok-mark.ensures.seen }) c.requires.ready c.in-Define.slot c.in-Define.is c.store.new.self _ c.is_kept-kept-in-Define.result c.is_kept-kept-in-Define.ensures c.in_ok-store-in-Define.ensures.emits c.in_ok-store-in-Define.ensures.place refl c.in_ok-push-in-Define.ensures.ok refl refl)
    (define_pays c.args.instr.now (later c.args.rest.now c.args.after.now) (hold c.args.body.now c.args.held.now) c.args.self.now c.mark.new.self (record { scope = c.mark.ensures.scope; outer = c.mark.ensures.outer; emitter = c.mark.ensures.emitter; seen = c.in_ok-mark.ensures.seen }) c.in_ok-mark.ensures.marks c.in-Define.slot _ c.in-Define.is c.in_ok-push-in-Define.ensures.ok (spent c.args.instr.now c.mark.new.self c.store.new.self _ refl (store_deed c.is_kept-kept-in-Define.result c.in-Define.slot c.args.instr.now.doing) c.args.instr.now.checking (c.in_ok-store-in-Define.ensures.emits c.args.instr.now.doing) 1 1 c.in_ok-store-in-Define.ensures.costs))

pub replace-requires-clause-operand : goal.replace-requires-clause-operand
replace-requires-clause-operand c =
    assign_one c.args.instr.now (later c.args.rest.now c.args.after.now) (hold c.args.body.now c.args.held.now) c.args.self.now c.mark.new.self (record { scope = c.mark.ensures.scope; outer = c.mark.ensures.outer; emitter = c.mark.ensures.emitter; seen = c.in_ok-mark.ensures.seen }) c.requires.ready c.in-Assign.slot c.in-Assign.is

pub replace-requires-clause-room : goal.replace-requires-clause-room
replace-requires-clause-room c =
    assign_few c.args.instr.now (later c.args.rest.now c.args.after.now) (hold c.args.body.now c.args.held.now) c.args.self.now c.mark.new.self (record { scope = c.mark.ensures.scope; outer = c.mark.ensures.outer; emitter = c.mark.ensures.emitter; seen = c.in_ok-mark.ensures.seen }) c.requires.ready c.in-Assign.slot c.in-Assign.is

pub replace-requires-clause-once : goal.replace-requires-clause-once
replace-requires-clause-once c =
    assign_once c.args.instr.now (later c.args.rest.now c.args.after.now) (hold c.args.body.now c.args.held.now) c.args.self.now c.mark.new.self (record { scope = c.mark.ensures.scope; outer = c.mark.ensures.outer; emitter = c.mark.ensures.emitter; seen = c.in_ok-mark.ensures.seen }) c.requires.ready c.in-Assign.slot c.in-Assign.is

pub replace-requires-clause-defined : goal.replace-requires-clause-defined
replace-requires-clause-defined c =
    assign_has c.args.instr.now (later c.args.rest.now c.args.after.now) (hold c.args.body.now c.args.held.now) c.args.self.now c.mark.new.self (record { scope = c.mark.ensures.scope; outer = c.mark.ensures.outer; emitter = c.mark.ensures.emitter; seen = c.in_ok-mark.ensures.seen }) c.requires.ready c.in-Assign.slot c.in-Assign.is _ c.is_later-later.ensures

pub returns-in_ok-replace-in-Assign : goal.returns-in_ok-replace-in-Assign
returns-in_ok-replace-in-Assign c =
    steps_adds c.args.instr.now (later c.args.rest.now c.args.after.now) (hold c.args.body.now c.args.held.now) c.args.self.now c.mark.new.self (record { scope = c.mark.ensures.scope; outer = c.mark.ensures.outer; emitter = c.mark.ensures.emitter; seen = c.in_ok-mark.ensures.seen }) c.in_ok-mark.ensures.marks c.replace.new.self _ refl refl (store_deed c.is_later-later.result c.in-Assign.slot c.args.instr.now.doing) c.args.instr.now.checking (c.in_ok-replace-in-Assign.ensures.emits c.args.instr.now.doing) [] (ap (λ p. p.operands) c.in_ok-replace-in-Assign.ensures.place) tt
    _ (places_assign c.args.instr.now c.in-Assign.slot c.in-Assign.is) refl
    (ap (λ p. p.slots) c.in_ok-replace-in-Assign.ensures.place ∙ ap (λ b. cond b (c.in-Assign.slot ∷ less c.in-Assign.slot c.mark.new.self.emitter.place.slots) c.mark.new.self.emitter.place.slots) c.is_later-later.ensures)
    (does_assign c.args.instr.now (later c.args.rest.now c.args.after.now) (hold c.args.body.now c.args.held.now) c.args.self.now c.mark.new.self (record { scope = c.mark.ensures.scope; outer = c.mark.ensures.outer; emitter = c.mark.ensures.emitter; seen = c.in_ok-mark.ensures.seen }) c.requires.ready c.in-Assign.slot c.in-Assign.is c.replace.new.self c.is_later-later.result c.is_later-later.ensures c.in_ok-replace-in-Assign.ensures.emits c.in_ok-replace-in-Assign.ensures.place)
    (assign_pays c.args.instr.now (later c.args.rest.now c.args.after.now) (hold c.args.body.now c.args.held.now) c.args.self.now c.mark.new.self (record { scope = c.mark.ensures.scope; outer = c.mark.ensures.outer; emitter = c.mark.ensures.emitter; seen = c.in_ok-mark.ensures.seen }) c.in_ok-mark.ensures.marks c.in-Assign.slot _ c.in-Assign.is refl (spent c.args.instr.now c.mark.new.self c.replace.new.self _ refl (store_deed c.is_later-later.result c.in-Assign.slot c.args.instr.now.doing) c.args.instr.now.checking (c.in_ok-replace-in-Assign.ensures.emits c.args.instr.now.doing) 5 2 c.in_ok-replace-in-Assign.ensures.costs))

pub forget-requires : goal.forget-requires
forget-requires c =
    record { room = end_room c.args.instr.now (later c.args.rest.now c.args.after.now) (hold c.args.body.now c.args.held.now) c.args.self.now c.mark.new.self (record { scope = c.mark.ensures.scope; outer = c.mark.ensures.outer; emitter = c.mark.ensures.emitter; seen = c.in_ok-mark.ensures.seen }) c.requires.ready c.in-End.slot c.in-End.is }

pub leave-requires-clause-some : goal.leave-requires-clause-some
leave-requires-clause-some c =
    end_has c.args.instr.now (later c.args.rest.now c.args.after.now) (hold c.args.body.now c.args.held.now) c.args.self.now c.mark.new.self (record { scope = c.mark.ensures.scope; outer = c.mark.ensures.outer; emitter = c.mark.ensures.emitter; seen = c.in_ok-mark.ensures.seen }) c.requires.ready c.in-End.slot c.in-End.is

pub leave-requires-clause-once : goal.leave-requires-clause-once
leave-requires-clause-once c =
    end_once c.args.instr.now (later c.args.rest.now c.args.after.now) (hold c.args.body.now c.args.held.now) c.args.self.now c.mark.new.self (record { scope = c.mark.ensures.scope; outer = c.mark.ensures.outer; emitter = c.mark.ensures.emitter; seen = c.in_ok-mark.ensures.seen }) c.requires.ready c.in-End.slot c.in-End.is

pub returns-in_ok-forget-in-End : goal.returns-in_ok-forget-in-End
returns-in_ok-forget-in-End c =
    steps_adds c.args.instr.now (later c.args.rest.now c.args.after.now) (hold c.args.body.now c.args.held.now) c.args.self.now c.mark.new.self (record { scope = c.mark.ensures.scope; outer = c.mark.ensures.outer; emitter = c.mark.ensures.emitter; seen = c.in_ok-mark.ensures.seen }) c.in_ok-mark.ensures.marks c.forget.new.self _ c.leave.ensures.emitter c.leave.ensures.marks nothing c.args.instr.now.checking c.in_ok-forget-in-End.ensures.emits [] (ap (λ p. p.operands) c.in_ok-forget-in-End.ensures.place ∙ end_none c.args.instr.now (later c.args.rest.now c.args.after.now) (hold c.args.body.now c.args.held.now) c.args.self.now c.mark.new.self (record { scope = c.mark.ensures.scope; outer = c.mark.ensures.outer; emitter = c.mark.ensures.emitter; seen = c.in_ok-mark.ensures.seen }) c.requires.ready c.in-End.slot c.in-End.is) tt
    _ (places_end c.args.instr.now c.in-End.slot c.in-End.is) refl (ap (λ p. p.slots) c.in_ok-forget-in-End.ensures.place)
    (does_end c.args.instr.now (later c.args.rest.now c.args.after.now) (hold c.args.body.now c.args.held.now) c.args.self.now c.mark.new.self (record { scope = c.mark.ensures.scope; outer = c.mark.ensures.outer; emitter = c.mark.ensures.emitter; seen = c.in_ok-mark.ensures.seen }) c.requires.ready c.in-End.slot c.in-End.is c.forget.new.self _ c.in_ok-forget-in-End.ensures.emits c.in_ok-forget-in-End.ensures.place c.leave.ensures.emitter c.leave.ensures.scope c.leave.ensures.outer c.leave.ensures.marks)
    (end_pays c.args.instr.now (later c.args.rest.now c.args.after.now) (hold c.args.body.now c.args.held.now) c.args.self.now c.mark.new.self (record { scope = c.mark.ensures.scope; outer = c.mark.ensures.outer; emitter = c.mark.ensures.emitter; seen = c.in_ok-mark.ensures.seen }) c.in_ok-mark.ensures.marks c.in-End.slot _ c.in-End.is c.leave.ensures.scope (end_has c.args.instr.now (later c.args.rest.now c.args.after.now) (hold c.args.body.now c.args.held.now) c.args.self.now c.mark.new.self (record { scope = c.mark.ensures.scope; outer = c.mark.ensures.outer; emitter = c.mark.ensures.emitter; seen = c.in_ok-mark.ensures.seen }) c.requires.ready c.in-End.slot c.in-End.is) (end_once c.args.instr.now (later c.args.rest.now c.args.after.now) (hold c.args.body.now c.args.held.now) c.args.self.now c.mark.new.self (record { scope = c.mark.ensures.scope; outer = c.mark.ensures.outer; emitter = c.mark.ensures.emitter; seen = c.in_ok-mark.ensures.seen }) c.requires.ready c.in-End.slot c.in-End.is) (spent c.args.instr.now c.mark.new.self c.forget.new.self _ c.leave.ensures.emitter nothing c.args.instr.now.checking c.in_ok-forget-in-End.ensures.emits 4 1 c.in_ok-forget-in-End.ensures.costs))

pub store_pair-requires-clause-operands : goal.store_pair-requires-clause-operands
store_pair-requires-clause-operands c = pair_two c.args.instr.now (later c.args.rest.now c.args.after.now) (hold c.args.body.now c.args.held.now) c.args.self.now c.mark.new.self (record { scope = c.mark.ensures.scope; outer = c.mark.ensures.outer; emitter = c.mark.ensures.emitter; seen = c.in_ok-mark.ensures.seen }) c.requires.ready c.in-DefinePair.left c.in-DefinePair.right c.in-DefinePair.is

pub store_pair-requires-clause-fresh_left : goal.store_pair-requires-clause-fresh_left
store_pair-requires-clause-fresh_left c = pair_left c.args.instr.now (later c.args.rest.now c.args.after.now) (hold c.args.body.now c.args.held.now) c.args.self.now c.mark.new.self (record { scope = c.mark.ensures.scope; outer = c.mark.ensures.outer; emitter = c.mark.ensures.emitter; seen = c.in_ok-mark.ensures.seen }) c.requires.ready c.in-DefinePair.left c.in-DefinePair.right c.in-DefinePair.is

pub store_pair-requires-clause-fresh_right : goal.store_pair-requires-clause-fresh_right
store_pair-requires-clause-fresh_right c = pair_right c.args.instr.now (later c.args.rest.now c.args.after.now) (hold c.args.body.now c.args.held.now) c.args.self.now c.mark.new.self (record { scope = c.mark.ensures.scope; outer = c.mark.ensures.outer; emitter = c.mark.ensures.emitter; seen = c.in_ok-mark.ensures.seen }) c.requires.ready c.in-DefinePair.left c.in-DefinePair.right c.in-DefinePair.is

pub store_pair-requires-clause-differ : goal.store_pair-requires-clause-differ
store_pair-requires-clause-differ c = pair_differ c.args.instr.now (later c.args.rest.now c.args.after.now) (hold c.args.body.now c.args.held.now) c.args.self.now c.mark.new.self (record { scope = c.mark.ensures.scope; outer = c.mark.ensures.outer; emitter = c.mark.ensures.emitter; seen = c.in_ok-mark.ensures.seen }) c.requires.ready c.in-DefinePair.left c.in-DefinePair.right c.in-DefinePair.is

pub returns-in_ok-push-in-DefinePair-2 : goal.returns-in_ok-push-in-DefinePair-2
returns-in_ok-push-in-DefinePair-2 c =
    steps_adds c.args.instr.now (later c.args.rest.now c.args.after.now) (hold c.args.body.now c.args.held.now) c.args.self.now c.mark.new.self (record { scope = c.mark.ensures.scope; outer = c.mark.ensures.outer; emitter = c.mark.ensures.emitter; seen = c.in_ok-mark.ensures.seen }) c.in_ok-mark.ensures.marks c.store_pair.new.self _ refl refl (pair_deed c.is_kept-left_kept.result c.is_kept-right_kept.result c.in-DefinePair.left c.in-DefinePair.right c.args.instr.now.doing) c.args.instr.now.checking (c.in_ok-store_pair-in-DefinePair.ensures.emits c.args.instr.now.doing) [] (ap (λ p. p.operands) c.in_ok-store_pair-in-DefinePair.ensures.place) tt
    _ (places_define_pair c.args.instr.now c.in-DefinePair.left c.in-DefinePair.right c.in-DefinePair.is) refl
    (ap (λ p. p.slots) c.in_ok-store_pair-in-DefinePair.ensures.place
    ∙ ap (λ a. cond a (c.in-DefinePair.right ∷ (cond c.is_kept-left_kept.result (c.in-DefinePair.left ∷ c.mark.new.self.emitter.place.slots) c.mark.new.self.emitter.place.slots)) (cond c.is_kept-left_kept.result (c.in-DefinePair.left ∷ c.mark.new.self.emitter.place.slots) c.mark.new.self.emitter.place.slots)) c.is_kept-right_kept.ensures
    ∙ ap (λ b. cond (kept (later c.args.rest.now c.args.after.now) (hold c.args.body.now c.args.held.now) c.in-DefinePair.right) (c.in-DefinePair.right ∷ (cond b (c.in-DefinePair.left ∷ c.mark.new.self.emitter.place.slots) c.mark.new.self.emitter.place.slots)) (cond b (c.in-DefinePair.left ∷ c.mark.new.self.emitter.place.slots) c.mark.new.self.emitter.place.slots)) c.is_kept-left_kept.ensures)
    (does_pair c.args.instr.now (later c.args.rest.now c.args.after.now) (hold c.args.body.now c.args.held.now) c.args.self.now c.mark.new.self (record { scope = c.mark.ensures.scope; outer = c.mark.ensures.outer; emitter = c.mark.ensures.emitter; seen = c.in_ok-mark.ensures.seen }) c.requires.ready c.in-DefinePair.left c.in-DefinePair.right c.in-DefinePair.is c.store_pair.new.self _ c.is_kept-left_kept.result c.is_kept-right_kept.result c.is_kept-left_kept.ensures c.is_kept-right_kept.ensures c.in_ok-store_pair-in-DefinePair.ensures.emits c.in_ok-store_pair-in-DefinePair.ensures.place refl (c.in_ok-push-in-DefinePair-2.ensures.ok ∙ ap (λ l. l ++ c.in-DefinePair.right ∷ []) c.in_ok-push-in-DefinePair.ensures.ok) refl refl)
    (pair_pays c.args.instr.now (later c.args.rest.now c.args.after.now) (hold c.args.body.now c.args.held.now) c.args.self.now c.mark.new.self (record { scope = c.mark.ensures.scope; outer = c.mark.ensures.outer; emitter = c.mark.ensures.emitter; seen = c.in_ok-mark.ensures.seen }) c.in_ok-mark.ensures.marks c.in-DefinePair.left c.in-DefinePair.right _ c.in-DefinePair.is (c.in_ok-push-in-DefinePair-2.ensures.ok ∙ ap (λ l. l ++ c.in-DefinePair.right ∷ []) c.in_ok-push-in-DefinePair.ensures.ok) (spent c.args.instr.now c.mark.new.self c.store_pair.new.self _ refl (pair_deed c.is_kept-left_kept.result c.is_kept-right_kept.result c.in-DefinePair.left c.in-DefinePair.right c.args.instr.now.doing) c.args.instr.now.checking (c.in_ok-store_pair-in-DefinePair.ensures.emits c.args.instr.now.doing) 2 2 c.in_ok-store_pair-in-DefinePair.ensures.costs))
