use Rattle.size_cases.proofs.sizes.sizes_of.Goals as goal

pub untidied_size-requires : goal.untidied_size-requires
untidied_size-requires c = (c.as_bytes.result.now, c.accepted_contracts_fit.ensures _ _ c.in-Ok.ensures.compiled.accepted)
