-- The front of the room and what is still to be made are the order, and behind the n outlets the room is as before.
use Rattle.std.proofs.Common.{◌≡◌, drop, length}
use Rattle.placements.proofs.Standing.{Making}
use Rattle.placements.proofs.Relation.order.Given as goal

abbrev pub invariant-loop-i : goal.invariant-loop-i
invariant-loop-i l = (length l.room ≡ length l.fn.room) × (drop l.n l.room ≡ drop l.n l.fn.room) × Making l.n l.self.rows l.i l.room l.standing
