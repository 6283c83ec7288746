-- The number that is read is the table's entry.
use Rattle.std.proofs.Common.{rules}
use Rattle.tables.specs.Tables.{cost_in}
use Rattle.tables.proofs.CostTable.cost.Goals as goal

pub returns : goal.returns
unfolding cost_in
returns c = search rules
