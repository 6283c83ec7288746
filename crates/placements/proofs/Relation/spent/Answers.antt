-- Each turn an outlet more pays for its row, and all pay what was spent.
use Rattle.std.proofs.Common.{◌≡◌, ◌*◌, get_or, ap, refl, ◌∙◌, arith}
use Rattle.rules.specs.Sum.{sum}
use Rattle.tables.specs.Tables.{cost_in}
use Rattle.placements.proofs.Paying.{to_pay, placed_pays, sum_more, rows-most, spent_rows}
use Rattle.placements.proofs.Relation.spent.Goals as goal

pub loop-u-init : goal.loop-u-init
unfolding sum
loop-u-init c = refl

pub overflow_add-paid : goal.overflow_add-paid
overflow_add-paid c =
    let costs = c.args.costs.now in
    record { fits = omega (arith, c.row-paid.ensures.1, rows-most costs.pairs costs.table (λ x. get_or c.args.self.now.rows (2 * x) 0) c.loop-u.u (omega (arith, costs.few))) }

pub loop-u-preserved : goal.loop-u-preserved
unfolding to_pay
loop-u-preserved c =
    omega (arith, rw c.right_of.ensures at c.row-paid.ensures.0, sum_more (placed_pays c.args.self.now.rows c.args.costs.now.pairs) c.loop-u.u)

pub returns : goal.returns
returns c =
    let costs = c.args.costs.now in
    let done : c.loop-u.u ≡ costs.outlets = omega arith in
    let all = c.loop-u.invariant ∙ ap (sum (placed_pays c.args.self.now.rows costs.pairs)) done in
    record {
      all = all ∙ spent_rows costs.outlets (cost_in costs.pairs) costs.few c.args.self.now.rows c.requires.1;
      most = omega (arith, all, rows-most costs.pairs costs.table (λ x. get_or c.args.self.now.rows (2 * x) 0) costs.outlets costs.few);
    }
