-- The levels never run out: where unplaced pairs cost something, each trial has less to spend than its case, so that above the remaining budget the
-- number of levels does not matter.
use mathlib.Core.Logic.{◌⊎◌, inl, inr}
use mathlib.Core.Path.{◌≡◌, ap, ap₂}
use Prim.Native.Nat.{ℕ, zero, suc, ◌-◌, ◌≤◌, ◌<◌}
use native.Mathlib.Omega.{arith}
use native.Mathlib.Decide.{dec_le}
use Rattle.rules.specs.Crossing.{Relation, Cost}
use Rattle.rules.specs.Placement.{place, price}
use Rattle.rules.specs.Walk.{counted, or_else, reach, trial, both_ways, branched, opened}
use Rattle.laws.proofs.Terms.{Paid}
use Rattle.laws.proofs.Placing.{paid_placed, UnplacedPair, turned, price_some}
use Rattle.laws.proofs.Choice.{Opens, reach_opens, reach_not, Takes, pair_of, Settles, choice}

-- What agrees on every smaller rest agrees on a trial,
module _ (n : ℕ) (c : Cost) (R : Relation) (paid : Paid n c R) (rest : ℕ) (opens opens' : Opens)
    (same : (x y rest' : ℕ) → rest' < rest → opens (place R x y) rest' ≡ opens' (place R x y) rest') where
  same_trial : (x y : ℕ) → UnplacedPair n R x y → trial n c opens R rest x y ≡ trial n c opens' R rest x y
  unfolding trial
  same_trial x y p = go (price n c R (place R x y)) (price_some p c paid) (dec_le (price n c R (place R x y)) rest)
    where
      go : (cost : ℕ) → 1 ≤ cost → Dec (cost ≤ rest) → reach n c opens (place R x y) cost rest ≡ reach n c opens' (place R x y) cost rest
      go cost one (yes h) =
          rw (reach_opens n c opens (place R x y) cost rest h, reach_opens n c opens' (place R x y) cost rest h)
          (same x y (rest - cost) (omega arith))
      go cost one (no h) =
          let over : rest < cost = omega arith in
          rw (reach_not n c opens (place R x y) cost rest over, reach_not n c opens' (place R x y) cost rest over)

  -- and on a case.
  same_branch : Takes n c R ⊎ Settles n c R → branched n c opens R rest ≡ branched n c opens' R rest
  unfolding both_ways
  same_branch (inl t) =
      rw (t.goes opens rest, t.goes opens' rest)
      (ap₂ or_else (same_trial t.x t.y (pair_of n c t)) (same_trial t.y t.x (turned (pair_of n c t))))
  same_branch (inr s) = rw (s.goes opens rest, s.goes opens' rest)

pub levels_free : (n : ℕ) (c : Cost) (m m' : ℕ) (R : Relation) (rest : ℕ) → Paid n c R → rest < m → rest < m'
    → opened n c m R rest ≡ opened n c m' R rest
unfolding opened
levels_free n c zero m' R rest paid h h' = absurd (omega arith)
levels_free n c (suc m) zero R rest paid h h' = absurd (omega arith)
levels_free n c (suc m) (suc m') R rest paid h h' =
    ap counted
    (same_branch n c R paid rest (opened n c m) (opened n c m')
    (λ x y rest' l. levels_free n c m m' (place R x y) rest' (paid_placed n c R x y paid) (omega arith) (omega arith))
    (choice n c R))
