-- What was added and what the outlets to come will add make what is paid for all that follow.
use Rattle.std.proofs.Common.{◌≡◌, ◌+◌, get_or, drop}
use Rattle.rules.specs.Crossing.{right_of}
use Rattle.rules.specs.Rail.{cost}
use Rattle.orders.proofs.on_rail.OnRail.right_of.Given as goal

abbrev pub invariant-loop-at : goal.invariant-loop-at
invariant-loop-at l =
    let outlets = l.self.outlets.now in
    let order = l.self.order.now in
    let outlet = get_or order l.place 0 in
    l.sum + right_of (cost outlets) outlet (drop l.at order) ≡ right_of (cost outlets) outlet (drop (l.place + 1) order)
