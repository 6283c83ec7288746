-- Pair by pair the rows hold the base of those passed.
use Rattle.std.proofs.Common.{◌+◌, ◌*◌}
use Rattle.placements.specs.Rows.{BaseTo}
use Rattle.placements.proofs.Relation.base.Given as goal

abbrev pub invariant-loop-u : goal.invariant-loop-u
invariant-loop-u l = BaseTo l.outlets (32 * l.u) l.rows

abbrev pub invariant-loop-v : goal.invariant-loop-v
invariant-loop-v l = BaseTo l.outlets (32 * l.u + l.v) l.rows
