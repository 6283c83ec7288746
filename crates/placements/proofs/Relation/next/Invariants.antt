-- No outlet passed is free to stand next.
use Rattle.std.proofs.Common.{◌≡◌, ◌<◌, ℕ, false}
use Rattle.placements.proofs.Standing.{free}
use Rattle.placements.proofs.Relation.next.Given as goal

abbrev pub invariant-loop-o : goal.invariant-loop-o
invariant-loop-o l = (i : ℕ) → i < l.o → free l.n l.self.rows l.standing i ≡ false
