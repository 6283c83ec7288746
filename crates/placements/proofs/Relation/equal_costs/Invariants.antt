-- The outlets passed have paid for those above them that are unplaced with them.
use Rattle.std.proofs.Common.{◌≡◌}
use Rattle.rules.specs.Sum.{sum}
use Rattle.tables.specs.Tables.{cost_in}
use Rattle.placements.proofs.Paying.{unplaced_pays}
use Rattle.placements.proofs.Relation.equal_costs.Given as goal

abbrev pub invariant-loop-u : goal.invariant-loop-u
invariant-loop-u l = l.paid ≡ sum (unplaced_pays l.tables.costs.now.outlets (cost_in l.tables.costs.now.pairs) l.self.rows) l.u
