-- D, soundness: what a case finds is an order of the outlets, extends R, and has at most the crossings that R has spent and the rest. What the walk
-- finds has at most k. With completeness: the walk finds an order exactly if some order that extends its root has no more crossings than k.
use mathlib.Core.Bool.{true}
use mathlib.Core.List.{List}
use mathlib.Core.Logic.{◌⊎◌, inl, inr}
use mathlib.Core.Path.{◌≡◌, refl, ◌∙◌, subst}
use Prim.Native.Nat.{ℕ, zero, suc, ◌+◌, ◌-◌, ◌≤◌, ◌<◌}
use native.Mathlib.Omega.{arith}
use native.Mathlib.Decide.{dec_le}
use Rattle.rules.specs.Crossing.{Relation, Cost, IsOrder, crossings}
use Rattle.rules.specs.Placement.{place, spent, price}
use Rattle.rules.specs.Walk.{End, found, nothing, Outcome, or_else, unplaced, made, equal_costs}
use Rattle.rules.specs.Walk.{settled, reach, trial, both_ways, branched, opened, walk}
use Rattle.laws.proofs.Terms.{Strict, Extends}
use Rattle.laws.proofs.Placing.{keeps, spent_placed, UnplacedPair, turned, strict_placed}
use Rattle.laws.proofs.Made.{made_order, made_extends}
use Rattle.laws.proofs.Pairs.{crossings_split, unplaced_equal}
use Rattle.laws.proofs.Choice.{Opens, or_else_first, or_else_other, reach_opens, reach_not, settled-found}
use Rattle.laws.proofs.Choice.{settled_not, Takes, pair_of, Settles, choice}

-- an order of the outlets that extends R and has no more crossings than R has spent and the rest
pub record Within (n : ℕ) (c : Cost) (R : Relation) (rest : ℕ) (l : List ℕ) : Type 0 where
  pub is_order : IsOrder n l
  pub extends : Extends n R l
  pub enough : crossings c l ≤ spent n c R + rest

-- an end that finds nothing finds no order
not_found : {A : Type 0} (l : List ℕ) → nothing ≡ found l → A
not_found l e = let z : ◌≡◌ {A = ℕ} 0 1 = cc in absurd (omega arith)

-- what both ways found, one of them did
found_by : (first other : Outcome) (l : List ℕ) → (or_else first other).end ≡ found l → (first.end ≡ found l) ⊎ (other.end ≡ found l)
found_by first other l e = go first.end refl
  where
    go : (w : End) → first.end ≡ w → (first.end ≡ found l) ⊎ (other.end ≡ found l)
    go (found m) f = inl (f ∙ (rw (or_else_first first other m f) at e))
    go nothing f = inr (rw (or_else_other first other f) at e)

-- The order made where all unplaced pairs cost the same either way pays what R has spent, and those equal costs.
pub made_crossings : (n : ℕ) (c : Cost) (R : Relation) → Strict R → ((u v : ℕ) → u < n → v < n → unplaced R u v ≡ true → c u v ≡ c v u)
    → crossings c (made n R) ≡ spent n c R + equal_costs n c R
made_crossings n c R is_strict equal =
    omega (
      arith,
      crossings_split n c (made n R) (made_order n R is_strict) R (made_extends n R is_strict),
      unplaced_equal n c (made n R) (made_order n R is_strict) R equal,
    )

module _ (n : ℕ) (c : Cost) where
  reach_sound : (opens : Opens) (R : Relation) (cost rest : ℕ) (l : List ℕ) → (reach n c opens R cost rest).end ≡ found l
      → (cost ≤ rest) × ((opens R (rest - cost)).end ≡ found l)
  reach_sound opens R cost rest l e = go (dec_le cost rest)
    where
      go : Dec (cost ≤ rest) → (cost ≤ rest) × ((opens R (rest - cost)).end ≡ found l)
      go (yes h) = (h, rw (reach_opens n c opens R cost rest h) at e)
      go (no h) = not_found l (rw (reach_not n c opens R cost rest (omega arith)) at e)

  -- A case that settles finds the order made of R.
  settled_sound : (R : Relation) (rest : ℕ) (l : List ℕ) → Strict R → Settles n c R → (settled n c R rest).end ≡ found l → Within n c R rest l
  settled_sound R rest l is_strict s e = go (dec_le (equal_costs n c R) rest)
    where
      go : Dec (equal_costs n c R ≤ rest) → Within n c R rest l
      go (yes h) =
          let end : found (made n R) ≡ found l = rw (settled-found n c R rest h) at e in
          let same : made n R ≡ l = cc in
          subst (λ (m : List ℕ). Within n c R rest m) same
          (record {
            is_order = made_order n R is_strict;
            extends = made_extends n R is_strict;
            enough = omega (arith, made_crossings n c R is_strict s.equal);
          })
      go (no h) = not_found l (rw (settled_not n c R rest (omega arith)) at e)

  -- A trial finds what the next case finds: it extends the placement, and so R, and what the placement cost is back in the rest.
  module _ (opens : Opens) (next : (R : Relation) (rest : ℕ) (l : List ℕ) → Strict R → (opens R rest).end ≡ found l → Within n c R rest l)
      (R : Relation) (rest : ℕ) (is_strict : Strict R) (l : List ℕ) where
    trial_sound : (x y : ℕ) → UnplacedPair n R x y → (trial n c opens R rest x y).end ≡ found l → Within n c R rest l
    unfolding trial
    trial_sound x y p e =
        let r = reach_sound opens (place R x y) (price n c R (place R x y)) rest l e in
        let w = next (place R x y) (rest - price n c R (place R x y)) l (strict_placed p is_strict) r.1 in
        record {
          is_order = w.is_order;
          extends = record { stood = λ u v hu hv h. w.extends.stood u v hu hv (keeps R x y u v h) };
          enough = omega (arith, w.enough, r.0, spent_placed n c R x y);
        }

    branch_sound : Takes n c R ⊎ Settles n c R → (branched n c opens R rest).end ≡ found l → Within n c R rest l
    unfolding both_ways
    branch_sound (inl t) e =
        elim (found_by (trial n c opens R rest t.x t.y) (trial n c opens R rest t.y t.x) l (rw (t.goes opens rest) at e)) [
          | inl f ↦ trial_sound t.x t.y (pair_of n c t) f
          | inr f ↦ trial_sound t.y t.x (turned (pair_of n c t)) f
        ]
    branch_sound (inr s) e = settled_sound R rest l is_strict s (rw (s.goes opens rest) at e)

pub sound : (n : ℕ) (c : Cost) (levels : ℕ) (R : Relation) (rest : ℕ) (l : List ℕ) → Strict R → (opened n c levels R rest).end ≡ found l
    → Within n c R rest l
unfolding opened
sound n c zero R rest l is_strict e = not_found l e
sound n c (suc levels) R rest l is_strict e =
    branch_sound n c (opened n c levels) (λ R' rest' m strict' f. sound n c levels R' rest' m strict' f) R rest is_strict l (choice n c R) e

-- What the walk finds is an order of the outlets, extends the root and has at most k crossings.
pub walk_sound : (n : ℕ) (c : Cost) (root : Relation) (k : ℕ) (l : List ℕ) → Strict root → (walk n c root k).end ≡ found l
    → IsOrder n l × Extends n root l × (crossings c l ≤ k)
unfolding walk
walk_sound n c root k l is_strict e =
    let r = reach_sound n c (opened n c (suc k)) root (spent n c root) k l e in
    let w = sound n c (suc k) root (k - spent n c root) l is_strict r.1 in
    (w.is_order, w.extends, omega (arith, w.enough, r.0))
