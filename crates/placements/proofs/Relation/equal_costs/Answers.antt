-- Each turn an outlet more pays for those above it that are unplaced with it. All together pay no less than some.
use Rattle.std.proofs.Common.{◌≡◌, ◌+◌, ap, refl, ◌∙◌, arith}
use Rattle.rules.specs.Sum.{sum}
use Rattle.rules.proofs.Sums.{sum_upto}
use Rattle.tables.specs.Tables.{cost_in}
use Rattle.placements.proofs.Paying.{to_pay, unplaced_pays, unplaced-most, sum_more, unplaced_row, unplaced_rows}
use Rattle.placements.proofs.Relation.equal_costs.Goals as goal

pub loop-u-init : goal.loop-u-init
unfolding sum
loop-u-init c = refl

pub overflow_add-paid : goal.overflow_add-paid
overflow_add-paid c =
    let costs = c.args.tables.now.costs.now in
    let most = unplaced-most costs.pairs c.args.self.now.rows costs.table costs.outlets c.loop-u.u costs.few in
    record { fits = omega (arith, c.row-paid.ensures.1, most, costs.few) }

pub returns-then-most-paid : goal.returns-then-most-paid
unfolding to_pay
returns-then-most-paid c =
    let costs = c.args.tables.now.costs.now in
    let rows = c.args.self.now.rows in
    let pays = unplaced_pays costs.outlets (cost_in costs.pairs) rows in
    let own = rw c.placed_with.ensures at c.row-paid.ensures.0 in
    let row = unplaced_row costs.outlets (cost_in costs.pairs) costs.few rows c.loop-u.u c.above.result c.requires c.above.type_inv c.above.ensures in
    let all = unplaced_rows costs.outlets (cost_in costs.pairs) rows in
    record {
      within = λ l. absurd (omega arith);
      beyond = λ l. omega (arith, own, row, sum_more pays c.loop-u.u, all, sum_upto pays (c.loop-u.u + 1) costs.outlets (omega arith));
    }

pub loop-u-preserved : goal.loop-u-preserved
unfolding to_pay
loop-u-preserved c =
    let costs = c.args.tables.now.costs.now in
    let rows = c.args.self.now.rows in
    let own = rw c.placed_with.ensures at c.row-paid.ensures.0 in
    let row = unplaced_row costs.outlets (cost_in costs.pairs) costs.few rows c.loop-u.u c.above.result c.requires c.above.type_inv c.above.ensures in
    omega (arith, own, row, sum_more (unplaced_pays costs.outlets (cost_in costs.pairs) rows) c.loop-u.u)

pub returns : goal.returns
returns c =
    let costs = c.args.tables.now.costs.now in
    let rows = c.args.self.now.rows in
    let done : c.loop-u.u ≡ costs.outlets = omega arith in
    let whole = c.loop-u.invariant ∙ ap (sum (unplaced_pays costs.outlets (cost_in costs.pairs) rows)) done
    ∙ unplaced_rows costs.outlets (cost_in costs.pairs) rows in
    record { within = λ l. whole; beyond = λ l. omega (arith, whole) }
