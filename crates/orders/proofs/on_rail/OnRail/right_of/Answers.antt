-- A turn adds what the outlet pays for the next one.
use Rattle.std.proofs.Common.{◌≡◌, ◌+◌, get_or, drop, arith}
use Rattle.rules.specs.Crossing.{right_of}
use Rattle.rules.specs.Rail.{cost}
use Rattle.orders.proofs.Paid.{cost_of_rail, paid_step, paid-none, crossings_step, crossings-most}
use Rattle.orders.proofs.on_rail.OnRail.right_of.Goals as goal

added : (c : goal.After-pair-sum)
    → let outlets = c.args.self.outlets.now in
    let order = c.args.self.order.now in
    let paid = right_of (cost outlets) (get_or order c.args.place 0) in
    paid (drop c.loop-at.at order) ≡ c.pair-sum.result + paid (drop (c.loop-at.at + 1) order)
added c =
    let outlets = c.args.self.outlets.now in
    let order = c.args.self.order.now in
    let a = get_or order c.args.place 0 in
    let one : c.pair-sum.result ≡ cost outlets a (get_or order c.loop-at.at 0) =
    cost_of_rail outlets a _ _ _ c.pair-sum.result c.bins_at-left.ensures c.bins_at.ensures c.pair-sum.ensures.crossings in
    omega (arith, paid_step (cost outlets) order c.loop-at.at a (omega arith))

pub overflow_add-sum : goal.overflow_add-sum
overflow_add-sum c =
    let outlets = c.args.self.outlets.now in
    let order = c.args.self.order.now in
    omega (
      arith,
      added c,
      crossings_step (cost outlets) order c.args.place c.requires,
      crossings-most outlets order c.args.place c.args.self.few,
    )

pub loop-at-preserved : goal.loop-at-preserved
loop-at-preserved c = omega (arith, added c)

pub returns : goal.returns
returns c =
    omega
    (arith, paid-none (cost c.args.self.outlets.now) c.args.self.order.now c.loop-at.at (get_or c.args.self.order.now c.args.place 0) (omega arith))
