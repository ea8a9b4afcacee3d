use Rattle.std.proofs.Common.{◌≡◌, ◌+◌, ◌≤◌, ap, ◌∙◌, sym, subst, None, ◌∷◌, drop, length}
use Rattle.slot_code.specs.declared.slots.SlotKind.TheVariants.{Do1, Keep}
use Rattle.stack_emitter.specs.Places.{spot}
use Rattle.stack_emitter.specs.Codes.{IsOpcode}
use Rattle.stack_emitter.proofs.Emits.{nip_opcode, drop_opcode, two_rows}
use Rattle.stack_steps.proofs.Operations.{not_size, one_few, does_one, does_size, two_few, does_two, three_few, does_three, look_few, does_look_at, sig_few, does_check_sig, data_few, does_check_data, keep_few, keeps_right, keeps_left, split_few, does_split, does_look0, require_few, does_require, time_few, does_time, age_few, does_age, size_opcode, split_opcode, verify_opcode, sig_opcode, data_opcode, time_opcode, age_opcode}
use Rattle.stack_steps.proofs.Larger.{chunk_few, does_chunk, many_few, does_many}
use Rattle.stack_steps.proofs.low.Low.operate.Goals as goal

pub work-requires : goal.work-requires
work-requires c = one_few c.args.instr.now c.args.self.now c.requires c.in-Do1.op c.in-Do1.is

pub work-requires-else-is_size : goal.work-requires-else-is_size
work-requires-else-is_size c = one_few c.args.instr.now c.args.self.now c.requires c.in-Do1.op c.in-Do1.is

pub work-requires-in-Do2 : goal.work-requires-in-Do2
work-requires-in-Do2 c = two_few c.args.instr.now c.args.self.now c.requires c.in-Do2.op c.in-Do2.is

pub work-requires-in-Do3 : goal.work-requires-in-Do3
work-requires-in-Do3 c = three_few c.args.instr.now c.args.self.now c.requires c.in-Do3.op c.in-Do3.is

pub work-requires-in-Split : goal.work-requires-in-Split
work-requires-in-Split c = split_few c.args.instr.now c.args.self.now c.requires c.in-Split.is

pub work-requires-then-right : goal.work-requires-then-right
work-requires-then-right c = keep_few c.args.instr.now c.args.self.now c.requires c.in-Keep.right c.in-Keep.is

pub work-requires-else-right : goal.work-requires-else-right
work-requires-else-right c = keep_few c.args.instr.now c.args.self.now c.requires c.in-Keep.right c.in-Keep.is

pub work-requires-in-LookAt : goal.work-requires-in-LookAt
work-requires-in-LookAt c = look_few c.args.instr.now c.args.self.now c.requires c.in-LookAt.what c.in-LookAt.is

pub work-requires-in-CheckSig : goal.work-requires-in-CheckSig
work-requires-in-CheckSig c = sig_few c.args.instr.now c.args.self.now c.requires c.in-CheckSig.is

pub work-requires-in-CheckData : goal.work-requires-in-CheckData
work-requires-in-CheckData c = data_few c.args.instr.now c.args.self.now c.requires c.in-CheckData.is

pub work-requires-in-Time : goal.work-requires-in-Time
work-requires-in-Time c = time_few c.args.instr.now c.args.self.now c.requires c.in-Time.is

pub work-requires-in-Age : goal.work-requires-in-Age
work-requires-in-Age c = age_few c.args.instr.now c.args.self.now c.requires c.in-Age.is

pub work-requires-in-Require : goal.work-requires-in-Require
work-requires-in-Require c = require_few c.args.instr.now c.args.self.now c.requires c.in-Require.is

pub returns-in_ok-work-in-Do1-2 : goal.returns-in_ok-work-in-Do1-2
returns-in_ok-work-in-Do1-2 c =
    does_size c.args.instr.now c.args.self.now c.requires (c.in-Do1.is ∙ ap Do1 (c.is_size.ensures.size c.if-is_size.true)) c.work-then-is_size.new.self
    (two_rows _ _ _ _ _ c.in_ok-work-in-Do1.ensures.code c.in_ok-work-in-Do1-2.ensures.code)
    (c.in_ok-work-in-Do1-2.ensures.place ∙ ap (λ p. spot (None ∷ drop 2 p.operands) p.slots) c.in_ok-work-in-Do1.ensures.place) size_opcode nip_opcode

pub returns-in_ok-work-in-Do1-3 : goal.returns-in_ok-work-in-Do1-3
returns-in_ok-work-in-Do1-3 c =
    does_one c.args.instr.now c.args.self.now c.requires c.in-Do1.op c.in-Do1.is c.opcode1.result.0 (subst (λ d. IsOpcode c.opcode1.result.0 d) (c.is_size.ensures.other c.if-is_size.false) c.opcode1.ensures) (not_size c.in-Do1.op (c.is_size.ensures.other c.if-is_size.false)) c.work-else-is_size.new.self
    c.in_ok-work-in-Do1-3.ensures.code c.in_ok-work-in-Do1-3.ensures.place

pub returns-in_ok-work-in-Do2 : goal.returns-in_ok-work-in-Do2
returns-in_ok-work-in-Do2 c =
    does_two c.args.instr.now c.args.self.now c.requires c.in-Do2.op c.in-Do2.is c.opcode2.result.0 c.opcode2.ensures c.work-in-Do2.new.self c.in_ok-work-in-Do2.ensures.code c.in_ok-work-in-Do2.ensures.place

pub returns-in_ok-work-in-Do3 : goal.returns-in_ok-work-in-Do3
returns-in_ok-work-in-Do3 c =
    does_three c.args.instr.now c.args.self.now c.requires c.in-Do3.op c.in-Do3.is c.opcode3.result.0 c.opcode3.ensures c.work-in-Do3.new.self c.in_ok-work-in-Do3.ensures.code c.in_ok-work-in-Do3.ensures.place

pub returns-in_ok-work-in-Split : goal.returns-in_ok-work-in-Split
returns-in_ok-work-in-Split c =
    does_split c.args.instr.now c.args.self.now c.requires c.in-Split.is split_opcode c.work-in-Split.new.self c.in_ok-work-in-Split.ensures.code c.in_ok-work-in-Split.ensures.place

pub returns-in_ok-work-in-LookAt : goal.returns-in_ok-work-in-LookAt
returns-in_ok-work-in-LookAt c =
    does_look_at c.args.instr.now c.args.self.now c.requires c.in-LookAt.what c.in-LookAt.is c.opcode_of_look_at-opcode.result.0 c.opcode_of_look_at-opcode.ensures c.work-in-LookAt.new.self c.in_ok-work-in-LookAt.ensures.code c.in_ok-work-in-LookAt.ensures.place

pub returns-in_ok-work-in-CheckSig : goal.returns-in_ok-work-in-CheckSig
returns-in_ok-work-in-CheckSig c =
    does_check_sig c.args.instr.now c.args.self.now c.requires c.in-CheckSig.is 0xac sig_opcode c.work-in-CheckSig.new.self c.in_ok-work-in-CheckSig.ensures.code c.in_ok-work-in-CheckSig.ensures.place

pub returns-in_ok-work-in-CheckData : goal.returns-in_ok-work-in-CheckData
returns-in_ok-work-in-CheckData c =
    does_check_data c.args.instr.now c.args.self.now c.requires c.in-CheckData.is 0xba data_opcode c.work-in-CheckData.new.self c.in_ok-work-in-CheckData.ensures.code c.in_ok-work-in-CheckData.ensures.place

pub returns-in_ok-work-in-Require : goal.returns-in_ok-work-in-Require
returns-in_ok-work-in-Require c =
    does_require c.args.instr.now c.args.self.now c.requires c.in-Require.is verify_opcode c.work-in-Require.new.self c.in_ok-work-in-Require.ensures.code c.in_ok-work-in-Require.ensures.place

pub returns-in_ok-work-in-Keep : goal.returns-in_ok-work-in-Keep
returns-in_ok-work-in-Keep c =
    keeps_right c.args.instr.now c.args.self.now c.requires (c.in-Keep.is ∙ ap Keep c.if-right.true) nip_opcode c.work-then-right.new.self c.in_ok-work-in-Keep.ensures.code c.in_ok-work-in-Keep.ensures.place

pub returns-in_ok-work-in-Keep-2 : goal.returns-in_ok-work-in-Keep-2
returns-in_ok-work-in-Keep-2 c =
    keeps_left c.args.instr.now c.args.self.now c.requires (c.in-Keep.is ∙ ap Keep c.if-right.false) drop_opcode c.work-else-right.new.self c.in_ok-work-in-Keep-2.ensures.code c.in_ok-work-in-Keep-2.ensures.place

pub returns-in_ok-work-in-Look0 : goal.returns-in_ok-work-in-Look0
returns-in_ok-work-in-Look0 c =
    does_look0 c.args.instr.now c.args.self.now c.requires c.in-Look0.what c.in-Look0.is c.opcode_of_look0-opcode.result.0 c.opcode_of_look0-opcode.ensures c.work-in-Look0.new.self c.in_ok-work-in-Look0.ensures.code c.in_ok-work-in-Look0.ensures.place

pub returns-in_ok-work-in-Time-2 : goal.returns-in_ok-work-in-Time-2
returns-in_ok-work-in-Time-2 c =
    does_time c.args.instr.now c.args.self.now c.requires c.in-Time.is time_opcode drop_opcode c.work-in-Time-2.new.self (two_rows _ _ _ _ _ c.in_ok-work-in-Time.ensures.code c.in_ok-work-in-Time-2.ensures.code)
    (c.in_ok-work-in-Time-2.ensures.place ∙ ap (λ p. spot (drop 1 p.operands) p.slots) c.in_ok-work-in-Time.ensures.place)

pub returns-in_ok-work-in-Age-2 : goal.returns-in_ok-work-in-Age-2
returns-in_ok-work-in-Age-2 c =
    does_age c.args.instr.now c.args.self.now c.requires c.in-Age.is age_opcode drop_opcode c.work-in-Age-2.new.self (two_rows _ _ _ _ _ c.in_ok-work-in-Age.ensures.code c.in_ok-work-in-Age-2.ensures.code)
    (c.in_ok-work-in-Age-2.ensures.place ∙ ap (λ p. spot (drop 1 p.operands) p.slots) c.in_ok-work-in-Age.ensures.place)

pub work-requires-in-CheckMulti : goal.work-requires-in-CheckMulti
work-requires-in-CheckMulti c =
    subst (λ k. k + c.from-in-CheckMulti.result + 3 ≤ length c.args.self.now.emitter.place.operands) (sym c.from.ensures)
    (subst (λ s. c.in-CheckMulti.keys + s + 3 ≤ length c.args.self.now.emitter.place.operands) (sym c.from-in-CheckMulti.ensures)
    (many_few c.args.instr.now c.args.self.now c.requires c.in-CheckMulti.sigs c.in-CheckMulti.keys c.in-CheckMulti.is))

pub returns-in_ok-work-in-CheckMulti : goal.returns-in_ok-work-in-CheckMulti
returns-in_ok-work-in-CheckMulti c =
    does_many c.args.instr.now c.args.self.now c.requires c.in-CheckMulti.sigs c.in-CheckMulti.keys c.in-CheckMulti.is c.work-in-CheckMulti.new.self c.in_ok-work-in-CheckMulti.ensures.code
    (c.in_ok-work-in-CheckMulti.ensures.place
    ∙ ap (λ k. spot (None ∷ drop (k + c.from-in-CheckMulti.result + 3) c.args.self.now.emitter.place.operands) c.args.self.now.emitter.place.slots) c.from.ensures
    ∙ ap (λ s. spot (None ∷ drop (c.in-CheckMulti.keys + s + 3) c.args.self.now.emitter.place.operands) c.args.self.now.emitter.place.slots) c.from-in-CheckMulti.ensures)

pub chunk-requires : goal.chunk-requires
chunk-requires c = chunk_few c.args.instr.now c.args.self.now c.requires c.in-Chunk.is

pub returns-in_ok-chunk-in-Chunk : goal.returns-in_ok-chunk-in-Chunk
returns-in_ok-chunk-in-Chunk c =
    does_chunk c.args.instr.now c.args.self.now c.requires c.in-Chunk.is c.chunk.new.emitter c.in_ok-chunk-in-Chunk.ensures.adds c.in_ok-chunk-in-Chunk.ensures.place c.in_ok-chunk-in-Chunk.ensures.bytes c.in_ok-chunk-in-Chunk.ensures.ops
