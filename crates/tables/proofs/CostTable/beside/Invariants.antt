-- Turn by turn the costs of u stand beside one outlet more, both ways.
use Rattle.std.proofs.Common.{◌≡◌}
use Rattle.tables.specs.Tables.{Beside}
use Rattle.tables.proofs.CostTable.beside.Given as goal

abbrev pub invariant-loop-v : goal.invariant-loop-v
invariant-loop-v l = Beside l.outlets l.fn.self.pairs l.u l.v l.self.pairs × (l.self.outlets ≡ l.fn.self.outlets)
