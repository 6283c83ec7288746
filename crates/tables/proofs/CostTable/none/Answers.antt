-- The table begins with zeros.
use Rattle.std.proofs.Common.{arith}
use Rattle.tables.proofs.Entries.{fresh}
use Rattle.tables.proofs.CostTable.none.Goals as goal

pub invariant_of-result : goal.invariant_of-result
invariant_of-result c = record { few = omega arith; table = fresh }
