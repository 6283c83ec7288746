-- No entry before the place is bad, and no earlier entry so far is the one at the place; so none is found yet.
use Rattle.std.proofs.Common.{◌≡◌, ℕ, ◌<◌, false, get_or, None}
use Rattle.orders.specs.Entries.{bad}
use Rattle.orders.proofs.first_bad.Given as goal

abbrev pub invariant-loop-earlier : goal.invariant-loop-earlier
invariant-loop-earlier l = (l.bad ≡ None) × ((q : ℕ) → q < l.earlier → get_or l.order q 0 ≡ l.outlet → ⊥)

abbrev pub invariant-places : goal.invariant-places
invariant-places l = (l.bad ≡ None) × ((q : ℕ) → q < l.place → bad l.outlets l.order q ≡ false)
