-- For each bin at most 64 crossings.
use Rattle.std.proofs.Common.{◌*◌, ◌≤◌}
use Rattle.all_orders.proofs.every.cross.Given as goal

abbrev pub invariant-loop-x : goal.invariant-loop-x
invariant-loop-x l = l.crossings ≤ 64 * l.x
