-- The mask has those of the outlets passed whose two values differ.
use Rattle.std.proofs.Common.{◌<◌, ◌≤◌}
use Rattle.tables.specs.Tables.{cost_in, Passed, differ}
use Rattle.tables.proofs.CostTable.differing.Given as goal

abbrev pub invariant-loop-v : goal.invariant-loop-v
invariant-loop-v l = (l.u < l.v) × (l.v ≤ l.self.outlets) × Passed l.mask l.v (differ (cost_in l.self.pairs) l.u)
