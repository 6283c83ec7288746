-- The rail's checks decide, and where none of them holds, the order's.
use Rattle.std.proofs.Common.{sym, ◌∙◌, [], length}
use Rattle.std.proofs.lemmas.Result.{err_from_is_err_and}
use Rattle.refusals.proofs.Refuses.{refuses}
use Rattle.rules.specs.Numbers.{first_of, not_an_order}
use Rattle.rules.proofs.Checks.{first-yes, first-no, count_rail, count-order}
use Rattle.orders.proofs.check.Goals as goal

pub returns-in_err-check_rail : goal.returns-in_err-check_rail
returns-in_err-check_rail c =
    let a = c.args in
    let p = err_from_is_err_and c.from_residual.result c.from_residual.ensures.1 in
    rw (p.1, p.2)
    (c.in_err-check_rail.ensures.number
    ∙ sym (count_rail a.bins a.outlets.now a.order.now (λ e. refuses c.in_err-check_rail.field-0.0 (c.in_err-check_rail.ensures.number ∙ e))))

pub returns-then-not_an_order : goal.returns-then-not_an_order
returns-then-not_an_order c =
    sym
    (count-order c.args.bins c.args.outlets.now c.args.order.now (sym c.in_ok-check_rail.ensures.number)
    ∙ first-yes (not_an_order (length c.args.outlets.now) c.args.order.now) 7 [] (sym c.not_an_order.ensures ∙ c.if-not_an_order.true))

pub returns : goal.returns
unfolding first_of
returns c =
    sym
    (count-order c.args.bins c.args.outlets.now c.args.order.now (sym c.in_ok-check_rail.ensures.number)
    ∙ first-no (not_an_order (length c.args.outlets.now) c.args.order.now) 7 [] (sym c.not_an_order.ensures ∙ c.if-not_an_order.false))
