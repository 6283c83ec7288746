use Rattle.std.proofs.Common.{◌++◌, refl}
use Rattle.rules.specs.Text.{text}
use Rattle.rules.specs.Line.{decimal}
use Rattle.lines.specs.Parts.{order_part}
use Rattle.lines.proofs.Laws.{then_put}
use Rattle.lines.proofs.put_crossings.Goals as goal

pub returns-clause-room_after : goal.returns-clause-room_after
unfolding text
returns-clause-room_after c =
    let w = c.put_order-count.ensures in
    let count = text " crossings " ++ decimal c.args.crossings in
    then_put (order_part c.args.order.now) count c.args.room.now _ _ _ _ w.room_after w.value refl c.requires c.put_counted.ensures.room_after
