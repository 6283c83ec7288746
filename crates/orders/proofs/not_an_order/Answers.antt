-- A row of another length is none, and one of the rail's length is one exactly if no entry is bad.
use Rattle.std.proofs.Common.{sym, ◌∙◌, arith}
use Rattle.orders.proofs.Entries.{told_by_place, length_not_order}
use Rattle.orders.proofs.not_an_order.Goals as goal

pub returns-then-order-outlets : goal.returns-then-order-outlets
returns-then-order-outlets c = sym (length_not_order c.args.outlets c.args.order.now (λ e. omega arith))

pub returns : goal.returns
returns c =
    c.is_some.ensures ∙ told_by_place c.args.outlets c.args.order.now (omega arith) c.first_bad.result c.first_bad.ensures
