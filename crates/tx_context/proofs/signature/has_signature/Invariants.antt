use Rattle.std.proofs.Common.{◌≡◌, drop, map, length}
use Rattle.std.specs.Prelude.{nat_lt}
use Rattle.std.specs.List.{list_any}
use Rattle.tx_context.proofs.signature.has_signature.Given as goal

-- one of what is left isn't empty where one of all isn't
abbrev pub invariant-loop-sig : goal.invariant-loop-sig
invariant-loop-sig l =
    list_any (λ sig. nat_lt 0 (length sig)) (map (λ e. e.items) (drop l.sig-index l.sigs))
    ≡ list_any (λ sig. nat_lt 0 (length sig)) (map (λ e. e.items) l.sigs)
