use Rattle.std.proofs.Common.{ℕ, List, ◌/◌, ◌∙◌, ap, fold, length, refl, arith}
use Rattle.std.specs.Simd.{first_chunks}
use Rattle.ripemd160.specs.Ripemd160.{compressed}
use Rattle.ripemd160.proofs.Blocks.{last_bytes}
use Rattle.ripemd160.proofs.after_padding.Goals as goal

pub returns : goal.returns
returns c =
    c.after_blocks.ensures
    ∙ ap (fold compressed c.args.start)
    (c.as_chunks.ensures.front
    ∙ ap (λ (s : List ℕ). first_chunks 64 (length s / 64) s)
    (last_bytes c.args.rest.now _ _ c.args.len (length c.args.rest.now) _ _ _ _ c.copy_from_slice.ensures.after
    (c.copy_from_slice-2.ensures.after ∙ c.length_field.ensures) (omega arith) refl refl c.padded_len-end.ensures (omega arith)))
