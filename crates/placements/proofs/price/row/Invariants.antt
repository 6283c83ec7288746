-- What was paid and what those still to come have to pay make the row's costs.
use Rattle.std.proofs.Common.{◌≡◌, ◌+◌, ◌<◌, ◌^◌}
use Rattle.tables.specs.Tables.{cost_in}
use Rattle.placements.proofs.Paying.{to_pay}
use Rattle.placements.proofs.price.row.Given as goal

abbrev pub invariant-loop-v : goal.invariant-loop-v
invariant-loop-v l =
    (goal.iterator-loop-v).can_next l.v-iterator
    × (goal.iterator-loop-v).is_finite l.v-iterator
    × (l.v-iterator.rest < 2 ^ 32)
    × (l.paid + to_pay (cost_in l.costs.pairs l.u) l.v-iterator.rest ≡ to_pay (cost_in l.costs.pairs l.u) l.which)
