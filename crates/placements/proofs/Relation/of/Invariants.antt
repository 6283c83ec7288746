-- The first i entries of both halves are as in the rows.
use Rattle.std.proofs.Common.{◌≡◌, length}
use Rattle.placements.proofs.Copying.{CopiedTo}
use Rattle.placements.proofs.Relation.of.Given as goal

abbrev pub invariant-loop-i : goal.invariant-loop-i
invariant-loop-i l = (length l.copy ≡ 64) × CopiedTo l.rows l.i l.copy
