use Rattle.std.proofs.Common.{arith}
use Rattle.rules.specs.Rail.{cost}
use Rattle.orders.proofs.Paid.{crossings_step, crossings-none, crossings-most}
use Rattle.orders.proofs.on_rail.OnRail.crossings.Goals as goal

pub overflow_add-sum : goal.overflow_add-sum
overflow_add-sum c =
    let outlets = c.args.self.outlets.now in
    let order = c.args.self.order.now in
    omega (
      arith,
      crossings_step (cost outlets) order c.loop-place.place (omega arith),
      crossings-most outlets order 0 c.args.self.few,
    )

pub loop-place-preserved : goal.loop-place-preserved
loop-place-preserved c = omega (arith, crossings_step (cost c.args.self.outlets.now) c.args.self.order.now c.loop-place.place (omega arith))

pub returns : goal.returns
returns c = omega (arith, crossings-none (cost c.args.self.outlets.now) c.args.self.order.now c.loop-place.place (omega arith))
