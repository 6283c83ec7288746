-- Where no check holds, the row is an order of the rail.
use Rattle.std.proofs.Common.{◌≡◌, length, sym, arith}
use Rattle.rules.proofs.Count.{CountFits, count_fits}
use Rattle.rules.proofs.Orders.{order-length, entry_on_rail}
use Rattle.orders.proofs.count.Goals as goal

pub invariant_of-crossings : goal.invariant_of-crossings
invariant_of-crossings c =
    let fits : CountFits c.args.bins c.args.outlets.now c.args.order.now =
    count_fits c.args.bins c.args.outlets.now c.args.order.now (sym c.in_ok-check.ensures) in
    let long : length c.args.order.now ≡ length c.args.outlets.now = order-length (length c.args.outlets.now) c.args.order.now fits.is_order in
    let few = fits.rail.outlets32 in
    record { few = omega arith; on_rail = entry_on_rail (length c.args.outlets.now) c.args.order.now fits.is_order }
