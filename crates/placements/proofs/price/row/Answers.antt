-- The lowest one pays, and the others are left.
use Rattle.std.proofs.Common.{◌≡◌, ◌+◌, ◌∙◌, ap, arith}
use Rattle.tables.specs.Tables.{cost_in}
use Rattle.placements.proofs.Masks.{taken}
use Rattle.placements.proofs.Paying.{to_pay, paid_on, paid-all, row-most}
use Rattle.placements.proofs.price.row.Goals as goal

pub loop-v-init : goal.loop-v-init
loop-v-init c =
    let all : c.into_iter-v-iterator.result.rest ≡ c.args.which =
    ap (λ s. s.rest) c.into_iter-v-iterator.ensures.into_iter_gives ∙ c.of-v-items.ensures ∙ c.from.ensures in
    (tt, tt, omega arith, omega (arith, ap (to_pay (cost_in c.args.costs.now.pairs c.args.u)) all))

-- what is paid then, and what is left to pay
pays : (c : goal.After-cost-paid)
    → c.loop-v.paid + c.cost-paid.result + to_pay (cost_in c.args.costs.now.pairs c.args.u) c.next.new.self.rest ≡ to_pay (cost_in c.args.costs.now.pairs c.args.u) c.args.which
pays c =
    paid_on (cost_in c.args.costs.now.pairs c.args.u) _ _ _ (taken c.loop-v.invariant.2 c.in-Some.ensures.steps) c.cost-paid.ensures c.loop-v.invariant.3

pub cost-paid-requires : goal.cost-paid-requires
cost-paid-requires c = (c.requires, (taken c.loop-v.invariant.2 c.in-Some.ensures.steps).outlet)

pub overflow_add-paid : goal.overflow_add-paid
overflow_add-paid c =
    record { fits = omega (arith, pays c, row-most c.args.costs.now.pairs c.args.costs.now.table c.args.u c.args.which) }

pub loop-v-preserved : goal.loop-v-preserved
loop-v-preserved c = (tt, tt, (taken c.loop-v.invariant.2 c.in-Some.ensures.steps).left, pays c)

pub returns : goal.returns
unfolding to_pay
returns c =
    let all = paid-all (cost_in c.args.costs.now.pairs c.args.u) c.loop-v.v-iterator.rest _ _ c.in-None.ensures.steps.0 c.loop-v.invariant.3 in
    (all, omega (arith, all, row-most c.args.costs.now.pairs c.args.costs.now.table c.args.u c.args.which))
