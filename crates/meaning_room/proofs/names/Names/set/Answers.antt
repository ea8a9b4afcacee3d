use Rattle.std.proofs.Common.{◌≡◌, ◌<◌, length, map, ap, ◌∙◌, arith}
use Rattle.std.proofs.lemmas.List.{length-map}
use Rattle.meaning_room.specs.Meaning.{with_value}
use Rattle.meaning_room.specs.Names.{env_of}
use Rattle.meaning_room.proofs.Places.{one_given}
use Rattle.meaning_room.proofs.names.Names.set.Goals as goal

pub returns : goal.returns
returns c =
    let is : c.from-place.result ≡ c.args.slot.0 = c.from-place.ensures in
    let known : c.from-place.result < length c.self.inside.known = omega (arith, is, c.requires, c.self.invariant.0) in
    let count = length-map c.self.inside.elements.items (λ e. e.items) in
    let given : c.from-place.result < length (map (λ e. e.items) c.self.inside.elements.items) = omega (arith, is, c.requires, c.self.invariant.1, count) in
    one_given (λ e. e.items) c.self.inside.known c.self.inside.elements.items c.from-place.result c.args.slot c.args.element is known given
    ∙ ap (λ held. with_value c.args.slot c.args.element.items (env_of held)) c.self.view_is
