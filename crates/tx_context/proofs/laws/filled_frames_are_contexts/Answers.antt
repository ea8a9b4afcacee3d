use Rattle.tx_context.proofs.Bytes.{test-from_IsBytes}
use Rattle.tx_context.proofs.Filling.{context_of_frame}
use Rattle.tx_context.proofs.laws.filled_frames_are_contexts.Goals as goal

pub returns : goal.returns
returns c = λ frame locking unlocking is bytes more short brief.
    context_of_frame frame locking unlocking is (test-from_IsBytes locking bytes) (test-from_IsBytes unlocking more) short brief
