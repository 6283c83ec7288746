-- What was added and what a's hoses still to come will add make cross.
use Rattle.std.proofs.Common.{◌≡◌, ◌+◌, ◌<◌, ◌^◌}
use Rattle.rules.specs.Crossing.{profile, cross}
use Rattle.hoses.proofs.Adding.{to_come}
use Rattle.hoses.proofs.pair.Given as goal

abbrev pub invariant-loop-bin : goal.invariant-loop-bin
invariant-loop-bin l =
    (goal.iterator-loop-bin).can_next l.bin-iterator
    × (goal.iterator-loop-bin).is_finite l.bin-iterator
    × (l.bin-iterator.rest < 2 ^ 64)
    × (l.crossings + to_come l.bin-iterator.rest l.b ≡ cross (profile l.a) (profile l.b))
