use Rattle.std.proofs.Common.{arith, lit<}
use Rattle.cash_base.proofs.Widths.{room_after}
use Rattle.cash_base.proofs.number.with_sign.Goals as goal

pub push-requires-else-has_room-2 : goal.push-requires-else-has_room-2
push-requires-else-has_room-2 c =
    let room = room_after c.args.negative c.args.digits.items c.pop.new.self.items c.in-Some.top c.in-Some.ensures.items c.if-has_room.false c.requires in
    (lit< tt, omega (arith, room))
