-- F, the bound: where unplaced pairs cost something, a case with the rest r opens at most F(r + 3) - 1 cases, itself counted, answered or not and
-- whatever the levels; the walk at most F(k + 3) - 1. That is 1, 2, 4, 7, 12 for k = 0 to 4, and 3,524,577 for k = 30.
use mathlib.Core.Logic.{◌⊎◌, inl, inr}
use mathlib.Core.Path.{◌≡◌, refl, ap}
use Prim.Native.Nat.{ℕ, zero, suc, ◌+◌, ◌-◌, ◌≤◌}
use native.Mathlib.Omega.{arith}
use native.Mathlib.Decide.{dec_le, le_ind}
use native.Mathlib.Nat.{le_refl}
use native.Mathlib.Numerals.{add-one, add-two, add-three}
use Rattle.rules.specs.Crossing.{Relation, Cost}
use Rattle.rules.specs.Placement.{place, spent, price}
use Rattle.rules.specs.Walk.{End, found, nothing, Outcome, or_else, equal_costs, settled, reach, trial, both_ways, branched, opened, walk, F}
use Rattle.laws.proofs.Terms.{Paid}
use Rattle.laws.proofs.Placing.{paid_placed, UnplacedPair, turned, cost_some, price_own}
use Rattle.laws.proofs.Choice.{Opens, or_else_first, or_else_other, reach_opens, reach_not, settled-found}
use Rattle.laws.proofs.Choice.{settled_not, Takes, pair_of, Settles, choice}

-- Fibonacci's numbers do not fall,
grows_one : (n : ℕ) → F n ≤ F (suc n)
unfolding F
grows_one zero = omega arith
grows_one (suc n) = omega arith

pub grows : (n m : ℕ) → n ≤ m → F n ≤ F m
grows n m h = le_ind (λ (k : ℕ). F n ≤ F k) (le_refl (F n)) (λ k l ih. omega (arith, grows_one k)) m h

-- and each is the sum of the two before it.
adds_up : (n : ℕ) → F (n + 3) ≡ F (n + 2) + F (n + 1)
unfolding F
adds_up n = rw (add-three, add-two, add-one)

-- Of both ways the cases are at most those of the one and of the other.
both_cases : (first other : Outcome) → (or_else first other).cases ≤ first.cases + other.cases
both_cases first other = go first.end refl
  where
    go : (e : End) → first.end ≡ e → (or_else first other).cases ≤ first.cases + other.cases
    go (found l) e = rw (or_else_first first other l e) (omega arith)
    go nothing e = rw (or_else_other first other e) (omega arith)

module _ (n : ℕ) (c : Cost) where
  -- A case that is reached at a cost of p or more, 2 at the most, has p less to spend; one that is not opened counts nothing.
  reach_bound : (opens : Opens) (R : Relation) (cost rest p q : ℕ) → p ≤ cost → p ≤ 2 → q + p ≡ rest + 3
      → (cost ≤ rest → suc (opens R (rest - cost)).cases ≤ F (rest - cost + 3)) → suc (reach n c opens R cost rest).cases ≤ F q
  unfolding F
  reach_bound opens R cost rest p q hp small e next = go (dec_le cost rest)
    where
      go : Dec (cost ≤ rest) → suc (reach n c opens R cost rest).cases ≤ F q
      go (yes h) = rw (reach_opens n c opens R cost rest h) (omega (arith, next h, grows (rest - cost + 3) q (omega arith)))
      go (no h) = rw (reach_not n c opens R cost rest (omega arith)) (omega (arith, grows 1 q (omega arith)))

  settled_cases : (R : Relation) (rest : ℕ) → (settled n c R rest).cases ≡ 0
  settled_cases R rest =
      elim (dec_le (equal_costs n c R) rest)
      [ yes h ↦ rw (settled-found n c R rest h) | no h ↦ rw (settled_not n c R rest (omega arith)) ]

  module _ (opens : Opens) (next : (R : Relation) (rest : ℕ) → Paid n c R → suc (opens R rest).cases ≤ F (rest + 3))
      (R : Relation) (rest : ℕ) (paid : Paid n c R) where
    trial_bound : (x y p q : ℕ) → UnplacedPair n R x y → p ≤ c x y → p ≤ 2 → q + p ≡ rest + 3
        → suc (trial n c opens R rest x y).cases ≤ F q
    unfolding trial
    trial_bound x y p q free hp small e =
        reach_bound opens (place R x y) (price n c R (place R x y)) rest p q (omega (arith, price_own free c)) small e
        (λ h. next (place R x y) (rest - price n c R (place R x y)) (paid_placed n c R x y paid))

    -- Of the pair that is taken one way costs at least 1 and the other at least 2.
    branch_bound : Takes n c R ⊎ Settles n c R → suc (suc (branched n c opens R rest).cases) ≤ F (rest + 3)
    unfolding both_ways F
    branch_bound (inl t) =
        let one : 1 ≤ c t.x t.y = cost_some (pair_of n c t) c paid in
        let two : 2 ≤ c t.y t.x = omega (arith, t.cheaper) in
        rw (t.goes opens rest)
        (omega (
          arith,
          adds_up rest,
          both_cases (trial n c opens R rest t.x t.y) (trial n c opens R rest t.y t.x),
          trial_bound t.x t.y 1 (rest + 2) (pair_of n c t) one (omega arith) (omega arith),
          trial_bound t.y t.x 2 (rest + 1) (turned (pair_of n c t)) two (omega arith) (omega arith),
        ))
    branch_bound (inr s) = rw (s.goes opens rest) (omega (arith, settled_cases R rest, grows 3 (rest + 3) (omega arith)))

pub bound : (n : ℕ) (c : Cost) (levels : ℕ) (R : Relation) (rest : ℕ) → Paid n c R → suc (opened n c levels R rest).cases ≤ F (rest + 3)
unfolding opened F
bound n c zero R rest paid = omega (arith, grows 1 (rest + 3) (omega arith))
bound n c (suc levels) R rest paid =
    branch_bound n c (opened n c levels) (λ R' rest' paid'. bound n c levels R' rest' paid') R rest paid (choice n c R)

pub walk_bound : (n : ℕ) (c : Cost) (root : Relation) (k : ℕ) → Paid n c root → suc (walk n c root k).cases ≤ F (k + 3)
unfolding walk
walk_bound n c root k paid =
    reach_bound n c (opened n c (suc k)) root (spent n c root) k 0 (k + 3) (omega arith) (omega arith) (omega arith)
    (λ h. bound n c (suc k) root (k - spent n c root) paid)

-- Two neighbours at a time, F(n) and F(n + 1), are quickly computed,
neighbours : ℕ → ℕ × ℕ
neighbours zero = (0, 1)
neighbours (suc n) = let p = neighbours n in (p.1, p.1 + p.0)

are_f : (n : ℕ) → (F n ≡ (neighbours n).0) × (F (suc n) ≡ (neighbours n).1)
unfolding F neighbours
are_f zero = (refl, refl)
are_f (suc n) = let p = are_f n in (p.1, omega (arith, p.0, p.1))

value : (n : ℕ) → F n - 1 ≡ (neighbours n).0 - 1
value n = ap (λ (f : ℕ). f - 1) (are_f n).0

-- and give the values of the document.
pub values : (F (0 + 3) - 1 ≡ 1) × (F (1 + 3) - 1 ≡ 2) × (F (2 + 3) - 1 ≡ 4) × (F (3 + 3) - 1 ≡ 7) × (F (4 + 3) - 1 ≡ 12)
    × (F (30 + 3) - 1 ≡ 3524577)
unfolding neighbours
values = (value 3, value 4, value 5, value 6, value 7, value 33)
