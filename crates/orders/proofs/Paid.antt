-- A walk along an order from left to right: what an outlet pays, by the first of those that follow it, and the crossings, by the first outlet.
use mathlib.Core.Path.{◌≡◌, ◌∙◌, ap, ap₂}
use mathlib.Core.List.{List, ◌∷◌}
use Prim.Native.Nat.{ℕ, ◌+◌, ◌≤◌, ◌<◌}
use native.Mathlib.Numerals.{add-one}
use native.Mathlib.Omega.{arith}
use lib.ListN.{length, get_or, drop, length-drop, drop_of_length-le}
use lib.Seq.{drop-cons}
use Rattle.rules.specs.Crossing.{Cost, profile, cross, right_of, crossings}
use Rattle.rules.specs.Rail.{outlet, cost}
use Rattle.rules.proofs.Largest.{rail_at_most}

drop-next : (l : List ℕ) (at : ℕ) → at < length l → drop at l ≡ get_or l at 0 ∷ drop (at + 1) l
drop-next l at h = rw (add-one, drop-cons l at 0 h)

module _ (c : Cost) (order : List ℕ) (at : ℕ) where
  pub paid_step : (a : ℕ) → at < length order → right_of c a (drop at order) ≡ c a (get_or order at 0) + right_of c a (drop (at + 1) order)
  unfolding right_of
  paid_step a h = ap (right_of c a) (drop-next order at h)

  pub paid-none : (a : ℕ) → length order ≤ at → right_of c a (drop at order) ≡ 0
  unfolding right_of
  paid-none a h = ap (right_of c a) (drop_of_length-le order h)

  pub crossings_step : at < length order
      → crossings c (drop at order) ≡ right_of c (get_or order at 0) (drop (at + 1) order) + crossings c (drop (at + 1) order)
  unfolding crossings
  crossings_step h = ap (crossings c) (drop-next order at h)

  pub crossings-none : length order ≤ at → crossings c (drop at order) ≡ 0
  unfolding crossings
  crossings-none h = ap (crossings c) (drop_of_length-le order h)

-- what the sets of two outlets say of the cost that one stands left of the other
pub cost_of_rail : (outlets : List ℕ) (a b l r paid : ℕ) → l ≡ get_or outlets a 0 → r ≡ get_or outlets b 0
    → paid ≡ cross (profile l) (profile r) → paid ≡ cost outlets a b
unfolding cost outlet
cost_of_rail outlets a b l r paid el er e = e ∙ ap₂ (λ (m n : ℕ). cross (profile m) (profile n)) el er

-- what is still to be paid on a full rail, from any place on
pub crossings-most : (outlets order : List ℕ) (at : ℕ) → length order ≤ 32 → crossings (cost outlets) (drop at order) ≤ 999936
crossings-most outlets order at h = rail_at_most outlets (drop at order) (omega (arith, length-drop at order))
