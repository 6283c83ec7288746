-- A leaf of the walk: a case with nothing left to spend and a pair that is unplaced. Since unplaced pairs cost something, it opens no other case and
-- finds nothing.
use mathlib.Core.Bool.{◌&&◌}
use mathlib.Core.Logic.{◌⊎◌, inl, inr}
use mathlib.Core.Path.{◌≡◌, refl, ◌∙◌, ap, ap₂}
use Prim.Native.Nat.{ℕ, zero, suc, ◌≤◌, ◌<◌}
use native.Mathlib.Omega.{arith}
use native.Mathlib.Decide.{dec_lt}
use borrow.Author.Tests.{lt-ltb}
use lib.Dec.{ltb}
use Rattle.rules.specs.Sum.{only_if}
use Rattle.rules.specs.Crossing.{Relation, Cost}
use Rattle.rules.specs.Placement.{place, price}
use Rattle.rules.specs.Walk.{nothing, unopened, counted, or_else, unplaced, equal_costs, trial, both_ways, branched, opened}
use Rattle.rules.proofs.Sums.{only_if_so, pair_sum_term}
use Rattle.laws.proofs.Terms.{Paid}
use Rattle.laws.proofs.Tests.{and_both}
use Rattle.laws.proofs.Placing.{UnplacedPair, turned, cost_some, price_some}
use Rattle.laws.proofs.Choice.{Opens, or_else_other, reach_not, settled_not, Takes, pair_of, Settles, choice}

module _ (n : ℕ) (c : Cost) (R : Relation) (paid : Paid n c R) where
  -- An unplaced pair makes the equal costs something,
  equal_some : (u v : ℕ) → UnplacedPair n R u v → 1 ≤ equal_costs n c R
  unfolding equal_costs
  equal_some u v p = elim (dec_lt u v) [ yes l ↦ counts u v p l | no l ↦ counts v u (turned p) (omega (arith, p.apart)) ]
    where
      counts : (x y : ℕ) → UnplacedPair n R x y → x < y → 1 ≤ equal_costs n c R
      counts x y q l =
          omega (
            arith,
            cost_some q c paid,
            only_if_so (c x y) (and_both (ltb x y) _ (lt-ltb x y l) q.free),
            pair_sum_term (λ u v. only_if (ltb u v && unplaced R u v) (c u v)) n x y q.x_below q.y_below,
          )

  -- and no trial opens a case.
  trial_not : (opens : Opens) (x y : ℕ) → UnplacedPair n R x y → trial n c opens R 0 x y ≡ unopened
  unfolding trial
  trial_not opens x y p = reach_not n c opens (place R x y) (price n c R (place R x y)) 0 (price_some p c paid)

  branch_not : (u v : ℕ) → UnplacedPair n R u v → (opens : Opens) → Takes n c R ⊎ Settles n c R → branched n c opens R 0 ≡ unopened
  unfolding both_ways
  branch_not u v p opens (inl t) =
      t.goes opens 0
      ∙ ap₂ or_else (trial_not opens t.x t.y (pair_of n c t)) (trial_not opens t.y t.x (turned (pair_of n c t)))
      ∙ or_else_other unopened unopened refl
  branch_not u v p opens (inr s) = s.goes opens 0 ∙ settled_not n c R 0 (equal_some u v p)

  pub leaf : (u v : ℕ) → UnplacedPair n R u v → (levels : ℕ) → 0 < levels → opened n c levels R 0 ≡ record { cases = 1; end = nothing }
  unfolding opened
  leaf u v p zero h = absurd (omega arith)
  leaf u v p (suc levels) h = ap counted (branch_not u v p (opened n c levels) (choice n c R))
