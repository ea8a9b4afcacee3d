-- What each row does to the operands.
use Rattle.std.proofs.Common.{◌≡◌, ℕ, Bool, [], ◌∷◌, Ok, ap, ◌∙◌}
use Rattle.std.specs.Prelude.{unwrap_or, if◌then◌else◌}
use Rattle.arrayvec.specs.ArrayVec.{ArrayVec}
use Rattle.cash_base.specs.declared.place.Span.{Span}
use Rattle.cash_base.specs.declared.place.Slot.{Slot}
use Rattle.cash_base.specs.declared.look.Look0.{Look0}
use Rattle.cash_base.specs.declared.look.LookAt.{LookAt}
use Rattle.element_ops.specs.declared.op.Op1.{Op1}
use Rattle.element_ops.specs.declared.op.Op2.{Op2}
use Rattle.element_ops.specs.declared.op.Op2.TheVariants.{Cat}
use Rattle.element_ops.specs.declared.op.Op3.{Op3}
use Rattle.element_ops.specs.Operation.{result1, result2, result3}
use Rattle.tx_context.specs.World.{World}
use Rattle.tx_context.specs.Lookup.{context_value, indexed_value}
use Rattle.tx_context.specs.Verdict.{single_verdict}
use Rattle.tx_context.specs.declared.verdict.Kind.TheVariants.{Single, DataSig}
use Rattle.form_tables.specs.Forms.{verdict_result, pushed_chunk}
use Rattle.source_meaning.specs.Meaning.{at_span}
use Rattle.slot_code.specs.declared.slots.SlotKind.{SlotKind}
use Rattle.slot_code.specs.declared.slots.SlotKind.TheVariants as kinds
use Rattle.slot_code.specs.Meaning.{State, state, Act, act_of, act_at}
use Rattle.slot_code.proofs.Steps as steps
use Rattle.slot_expressions.specs.Pieces.{instruction}
use Rattle.slot_expressions.proofs.Single.{Acts0, Acts1, Acts2, Acts3}

pub row_done : (world : World) (kind : SlotKind) (doing checking : Span) (f : Span → Span → Act) (s : State) → act_at world kind ≡ f
    → act_of world (instruction kind doing checking) s ≡ f doing checking s
row_done world kind doing checking f s is =
    ap (λ (a : Act). a s) (steps.whole_done world (instruction kind doing checking)) ∙ ap (λ (g : Span → Span → Act). g doing checking s) is

pub lit_acts : (e : ArrayVec ℕ) (doing checking : Span) → Acts0 (instruction (kinds.Lit e) doing checking) (λ world env. Ok e.items)
lit_acts e doing checking world operands env = row_done world (kinds.Lit e) doing checking _ (state operands env) (steps.lit_done world e)

pub get_acts : (slot : Slot) (doing checking : Span) → Acts0 (instruction (kinds.Get slot) doing checking) (λ world env. Ok (unwrap_or (env slot) []))
get_acts slot doing checking world operands env = row_done world (kinds.Get slot) doing checking _ (state operands env) (steps.get_done world slot)

pub look0_acts : (what : Look0) (doing checking : Span) → Acts0 (instruction (kinds.Look0 what) doing checking) (λ world env. at_span doing (context_value world.context what world.redeem))
look0_acts what doing checking world operands env = row_done world (kinds.Look0 what) doing checking _ (state operands env) (steps.look0_done world what)

pub do1_acts : (op : Op1) (doing checking : Span) → Acts1 (instruction (kinds.Do1 op) doing checking) (λ world x. at_span doing (result1 op x))
do1_acts op doing checking world x rest env = row_done world (kinds.Do1 op) doing checking _ (state (x ∷ rest) env) (steps.do1_done world op)

pub look_at_acts : (what : LookAt) (doing checking : Span) → Acts1 (instruction (kinds.LookAt what) doing checking) (λ world x. at_span doing (indexed_value world.context what x))
look_at_acts what doing checking world x rest env = row_done world (kinds.LookAt what) doing checking _ (state (x ∷ rest) env) (steps.look_at_done world what)

pub do2_acts : (op : Op2) (doing checking : Span) → Acts2 (instruction (kinds.Do2 op) doing checking) (λ world x y. at_span doing (result2 op x y))
do2_acts op doing checking world x y rest env = row_done world (kinds.Do2 op) doing checking _ (state (y ∷ x ∷ rest) env) (steps.do2_done world op)

pub check_sig_acts : (doing checking : Span) → Acts2 (instruction kinds.CheckSig doing checking) (λ world x y. at_span doing (verdict_result (single_verdict world.verdicts Single x y [])))
check_sig_acts doing checking world x y rest env = row_done world kinds.CheckSig doing checking _ (state (y ∷ x ∷ rest) env) (steps.check_sig_done world)

pub chunk_acts : (doing checking : Span) → Acts2 (instruction kinds.Chunk doing checking) (λ world x y. at_span doing (result2 Cat x (pushed_chunk y)))
chunk_acts doing checking world x y rest env = row_done world kinds.Chunk doing checking _ (state (y ∷ x ∷ rest) env) (steps.chunk_done world)

pub do3_acts : (op : Op3) (doing checking : Span) → Acts3 (instruction (kinds.Do3 op) doing checking) (λ world x y z. at_span doing (result3 op x y z))
do3_acts op doing checking world x y z rest env = row_done world (kinds.Do3 op) doing checking _ (state (z ∷ y ∷ x ∷ rest) env) (steps.do3_done world op)

pub check_data_acts : (doing checking : Span) → Acts3 (instruction kinds.CheckData doing checking) (λ world x y z. at_span doing (verdict_result (single_verdict world.verdicts DataSig x z y)))
check_data_acts doing checking world x y z rest env = row_done world kinds.CheckData doing checking _ (state (z ∷ y ∷ x ∷ rest) env) (steps.check_data_done world)

pub keep_acts : (right : Bool) (doing checking : Span) → Acts2 (instruction (kinds.Keep right) doing checking) (λ world x y. Ok (if right then y else x))
keep_acts right doing checking world x y rest env = row_done world (kinds.Keep right) doing checking _ (state (y ∷ x ∷ rest) env) (steps.keep_done world right)
