-- What was added and the crossings of the outlets to come make the order's crossings.
use Rattle.std.proofs.Common.{◌≡◌, ◌+◌, drop}
use Rattle.rules.specs.Crossing.{crossings}
use Rattle.rules.specs.Rail.{cost}
use Rattle.orders.proofs.on_rail.OnRail.crossings.Given as goal

abbrev pub invariant-loop-place : goal.invariant-loop-place
invariant-loop-place l =
    l.sum + crossings (cost l.self.outlets.now) (drop l.place l.self.order.now) ≡ crossings (cost l.self.outlets.now) l.self.order.now
