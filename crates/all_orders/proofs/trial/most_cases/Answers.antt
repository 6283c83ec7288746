-- The sum of the two is the next number of the row, and at most twice the larger.
use Rattle.std.proofs.Common.{◌≡◌, ℕ, ◌+◌, pow-suc, arith}
use native.Mathlib.Numerals.{add-three, add-four, add_five}
use Rattle.rules.specs.Walk.{F}
use Rattle.all_orders.proofs.trial.most_cases.Goals as goal

adds_up : (n : ℕ) → F (n + 5) ≡ F (n + 3) + F (n + 4)
unfolding F
adds_up n = rw (add_five, add-four, add-three) (omega arith)

pub loop-init : goal.loop-init
unfolding F
loop-init c = grind arith

pub loop-preserved : goal.loop-preserved
loop-preserved c = grind (arith, adds_up c.loop.counter, pow-suc 2 (c.loop.counter + 2))
