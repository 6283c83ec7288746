-- `open` has handed over nothing of any outlet passed.
use Rattle.placements.proofs.Choosing.{PassedFrom}
use Rattle.placements.proofs.Relation.chosen.Given as goal

abbrev pub invariant-loop-a : goal.invariant-loop-a
invariant-loop-a l = PassedFrom l.tables.masks.now l.self.rows l.from l.a
