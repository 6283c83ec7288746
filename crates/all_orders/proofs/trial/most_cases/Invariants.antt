-- After i turns the two numbers are F(i + 3) and F(i + 4), which at most doubles at each turn.
use Rattle.std.proofs.Common.{◌≡◌, ◌+◌, ◌≤◌, ◌^◌}
use Rattle.rules.specs.Walk.{F}
use Rattle.all_orders.proofs.trial.most_cases.Given as goal

abbrev pub invariant-loop : goal.invariant-loop
invariant-loop l = (l.this ≡ F (l.counter + 3)) × (l.next ≡ F (l.counter + 4)) × (1 ≤ l.this) × (l.this ≤ l.next) × (l.next ≤ 2 ^ (l.counter + 2))
