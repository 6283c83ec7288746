-- The outlets passed, gathered in one set, and the outlets to come have a stray hose exactly if the rail has.
use Rattle.std.proofs.Common.{◌≡◌, ◌<◌, ◌^◌, ◌||◌, drop}
use Rattle.rules.specs.Numbers.{stray_hose, stray_hoses}
use Rattle.jobs.proofs.stray_hoses.Given as goal

abbrev pub invariant-loop-set : goal.invariant-loop-set
invariant-loop-set l = (l.all < 2 ^ 64) × ((stray_hose l.bins l.all || stray_hoses l.bins (drop l.set-index l.outlets)) ≡ stray_hoses l.bins l.outlets)
