-- The outlets passed have paid for their rows.
use Rattle.std.proofs.Common.{◌≡◌}
use Rattle.rules.specs.Sum.{sum}
use Rattle.placements.proofs.Paying.{placed_pays}
use Rattle.placements.proofs.Relation.spent.Given as goal

abbrev pub invariant-loop-u : goal.invariant-loop-u
invariant-loop-u l = l.paid ≡ sum (placed_pays l.self.rows l.costs.pairs) l.u
