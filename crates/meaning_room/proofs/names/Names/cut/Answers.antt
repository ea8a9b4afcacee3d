use Rattle.std.proofs.Common.{◌≡◌, ◌∙◌, ℕ, ap, map, cond, None, get_or, false, arith}
use Rattle.meaning_room.specs.Names.{has_element, env_of}
use Rattle.meaning_room.proofs.Places.{cut_at, cut_whole}
use Rattle.meaning_room.proofs.names.Names.cut.Goals as goal

pub returns : goal.returns
returns c =
    let at : c.loop-place.place ≡ 160 = omega (arith, c.loop-place-test.false, c.loop-place.auto.place-end) in
    let are : (j : ℕ) → get_or c.loop-place.self-inside.known j false ≡ cut_at 160 c.self.inside.known c.mark.inside.known j =
    λ j. c.loop-place.invariant.2 j ∙ ap (λ n. cut_at n c.self.inside.known c.mark.inside.known j) at in
    cut_whole c.loop-place.self-inside.known c.self.inside.known c.mark.inside.known (map (λ e. e.items) c.loop-place.self-inside.elements.items) c.self.told c.mark.told are
    ∙ ap (λ es slot. cond (has_element c.mark.inside.known slot) (env_of (c.self.inside.known, map (λ e. e.items) es.items) slot) None) c.loop-place.invariant.1
    ∙ ap (λ held slot. cond (has_element c.mark.inside.known slot) (env_of held slot) None) c.self.view_is
    ∙ ap (λ mark slot. cond (has_element mark slot) (env_of c.args.self.now slot) None) c.mark.view_is
