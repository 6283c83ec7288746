-- Outlet by outlet the rows hold the masks of those passed.
use Rattle.tables.specs.Tables.{cost_in}
use Rattle.tables.proofs.OutletMasks.{Below}
use Rattle.tables.proofs.CostTable.masks.Given as goal

abbrev pub invariant-loop-u : goal.invariant-loop-u
invariant-loop-u l = Below l.self.outlets l.u (cost_in l.self.pairs) l.rows
