-- The lowest of those new on the left pays, and the others are left.
use Rattle.std.proofs.Common.{◌≡◌, ◌+◌, ◌∙◌, ap, arith}
use Rattle.tables.specs.Tables.{cost_in}
use Rattle.placements.specs.Rows.{Brings}
use Rattle.placements.proofs.Masks.{taken}
use Rattle.placements.proofs.Paying.{to_pay, new_pays, paid_on, paid-all, to_pay_most, row-most, price_rows}
use Rattle.placements.proofs.Relation.price_of.Goals as goal

pub loop-u-init : goal.loop-u-init
loop-u-init c =
    let all : c.into_iter-u-iterator.result.rest ≡ c.new_beside-left.result =
    ap (λ s. s.rest) c.into_iter-u-iterator.ensures.into_iter_gives ∙ c.of-u-items.ensures ∙ c.from.ensures in
    (tt, tt, omega arith, omega (arith, ap (to_pay (new_pays c.args.self.now.rows c.args.costs.now.pairs c.new_beside-right.result)) all))

pub right_of-requires : goal.right_of-requires
right_of-requires c = omega (arith, (taken c.loop-u.invariant.2 c.in-Some.ensures.steps).outlet, c.requires.1.first)

pub row-cost-requires : goal.row-cost-requires
row-cost-requires c = (taken c.loop-u.invariant.2 c.in-Some.ensures.steps).outlet

-- what is paid then, and what is left to pay
pays : (c : goal.After-row-cost)
    → let g = new_pays c.args.self.now.rows c.args.costs.now.pairs c.new_beside-right.result in
    c.loop-u.cost + c.row-cost.result + to_pay g c.next.new.self.rest ≡ to_pay g c.new_beside-left.result
unfolding to_pay
pays c = paid_on _ _ _ _ (taken c.loop-u.invariant.2 c.in-Some.ensures.steps) (rw c.right_of.ensures at c.row-cost.ensures.0) c.loop-u.invariant.3

pub overflow_add-cost : goal.overflow_add-cost
overflow_add-cost c =
    let g = new_pays c.args.self.now.rows c.args.costs.now.pairs c.new_beside-right.result in
    let most = to_pay_most g 64512 c.new_beside-left.result (λ u. row-most c.args.costs.now.pairs c.args.costs.now.table u _) in
    record { fits = omega (arith, pays c, most) }

pub loop-u-preserved : goal.loop-u-preserved
loop-u-preserved c = (tt, tt, (taken c.loop-u.invariant.2 c.in-Some.ensures.steps).left, pays c)

pub returns : goal.returns
returns c =
    let pays = new_pays c.args.self.now.rows c.args.costs.now.pairs c.new_beside-right.result in
    let all = paid-all pays c.loop-u.u-iterator.rest _ _ c.in-None.ensures.steps.0 c.loop-u.invariant.3 in
    let most = to_pay_most pays 64512 c.new_beside-left.result (λ u. row-most c.args.costs.now.pairs c.args.costs.now.table u _) in
    let brings : Brings c.args.self.now.rows c.args.a c.args.b c.new_beside-left.result c.new_beside-right.result = record {
      pair = c.requires.1;
      left_fits = c.new_beside-left.type_inv;
      right_fits = c.new_beside-right.type_inv;
      lefts = c.new_beside-left.ensures;
      rights = c.new_beside-right.ensures;
    } in (
      brings,
      record {
        priced = λ n small w ha hb. all ∙ price_rows n (cost_in c.args.costs.now.pairs) small brings c.requires.0 w ha hb;
        most = omega (arith, all, most);
      },
    )
