-- Whatever becomes of the rows by growing what is left to grow becomes of them by growing all. The lowest one goes first.
use Rattle.std.proofs.Common.{◌≡◌, ◌<◌, ◌^◌, List, ℕ, length}
use Rattle.placements.specs.Rows.{Grown}
use Rattle.placements.specs.Sides.{side_number}
use Rattle.placements.proofs.Relation.grow.Given as goal

abbrev pub invariant-loop-u : goal.invariant-loop-u
invariant-loop-u l =
    (goal.iterator-loop-u).can_next l.u-iterator
    × (goal.iterator-loop-u).is_finite l.u-iterator
    × (l.u-iterator.rest < 2 ^ 32)
    × (length l.self.rows ≡ 64)
    × ((final : List ℕ) → Grown l.self.rows l.u-iterator.rest l.more (side_number l.side) final → Grown l.fn.self.rows l.which l.more (side_number l.side) final)
