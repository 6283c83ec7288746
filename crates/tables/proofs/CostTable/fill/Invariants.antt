-- Outlet by outlet the table holds the costs of those passed.
use Rattle.std.proofs.Common.{◌≡◌, ℕ, ◌<◌, length}
use Rattle.rules.specs.Rail.{cost}
use Rattle.tables.specs.Tables.{cost_in}
use Rattle.tables.proofs.CostTable.fill.Given as goal

abbrev pub invariant-loop-u : goal.invariant-loop-u
invariant-loop-u l = ((v w : ℕ) → v < l.u → w < l.u → cost_in l.self.pairs v w ≡ cost l.outlets v w) × (l.self.outlets ≡ length l.outlets)
