-- What was paid and what those still to come have to pay make the price.
use Rattle.std.proofs.Common.{◌≡◌, ◌+◌, ◌<◌, ◌^◌}
use Rattle.placements.proofs.Paying.{to_pay, new_pays}
use Rattle.placements.proofs.Relation.price_of.Given as goal

abbrev pub invariant-loop-u : goal.invariant-loop-u
invariant-loop-u l =
    let pays = new_pays l.self.rows l.costs.pairs l.right in
    (goal.iterator-loop-u).can_next l.u-iterator
    × (goal.iterator-loop-u).is_finite l.u-iterator
    × (l.u-iterator.rest < 2 ^ 32)
    × (l.cost + to_pay pays l.u-iterator.rest ≡ to_pay pays l.left)
