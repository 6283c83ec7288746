-- C, completeness: where an order extends R and its crossings are at most what R has spent and the rest, the case of R and that rest finds an order,
-- with levels above the rest. So does the walk, where an order that extends its root has no more crossings than k.
use mathlib.Core.Bool.{true}
use mathlib.Core.List.{List}
use mathlib.Core.Logic.{◌⊎◌, inl, inr}
use mathlib.Core.Path.{◌≡◌, refl}
use Prim.Native.Nat.{ℕ, zero, suc, ◌+◌, ◌-◌, ◌≤◌, ◌<◌}
use native.Mathlib.Omega.{arith}
use Rattle.rules.specs.Crossing.{Relation, Cost, IsOrder, crossings, stands}
use Rattle.rules.specs.Placement.{place, spent, price}
use Rattle.rules.specs.Walk.{End, found, nothing, Outcome, or_else, made, equal_costs, trial, both_ways, branched, opened, walk}
use Rattle.laws.proofs.Terms.{Strict, Extends, Paid}
use Rattle.laws.proofs.Placing.{least_among, spent_placed, paid_placed, UnplacedPair, turned, strict_placed, price_some}
use Rattle.laws.proofs.Stands.{stands_strict, exactly_one}
use Rattle.laws.proofs.Pairs.{unplaced_costs, crossings_split, unplaced_equal}
use Rattle.laws.proofs.Choice.{Opens, or_else_first, or_else_other, reach_opens, settled-found, Takes, pair_of, Settles, choice}

abbrev Finds : Outcome → Type 0
Finds o = (m : List ℕ) × (o.end ≡ found m)

-- If one of two ways finds an order, both together do.
either_finds : (first other : Outcome) → Finds first ⊎ Finds other → Finds (or_else first other)
either_finds first other f = go f first.end refl
  where
    go : Finds first ⊎ Finds other → (e : End) → first.end ≡ e → Finds (or_else first other)
    go f (found l) e = rw (or_else_first first other l e) (l, refl)
    go (inl f) nothing e = rw (or_else_first first other f.0 f.1) (f.0, refl)
    go (inr f) nothing e = rw (or_else_other first other e) f

module _ (n : ℕ) (c : Cost) (l : List ℕ) (order : IsOrder n l) where
  -- the order l is still within a case's reach
  record InReach (R : Relation) (rest : ℕ) : Type 0 where
    is_strict : Strict R
    paid : Paid n c R
    extends : Extends n R l
    enough : crossings c l ≤ spent n c R + rest

  module _ (R : Relation) (rest : ℕ) (r : InReach R rest) where
    -- Placing a pair as it stands in l keeps l within reach, and leaves something less of the rest.
    record Kept (x y : ℕ) : Type 0 where
      within : price n c R (place R x y) ≤ rest
      some : 1 ≤ price n c R (place R x y)
      in_reach : InReach (place R x y) (rest - price n c R (place R x y))

    kept : (x y : ℕ) → UnplacedPair n R x y → stands l x y ≡ true → Kept x y
    kept x y p stood =
        let onward = (stands_strict n l order).transitive in
        let ext : Extends n (place R x y) l =
        record { stood = least_among R x y (λ w. w < n) p.x_below p.y_below (stands l) onward r.extends.stood stood } in
        let split : crossings c l ≡ spent n c (place R x y) + unplaced_costs n c (place R x y) l = crossings_split n c l order (place R x y) ext in
        let more : spent n c (place R x y) ≡ spent n c R + price n c R (place R x y) = spent_placed n c R x y in
        let enough : crossings c l ≤ spent n c R + rest = r.enough in
        record {
          within = omega arith;
          some = price_some p c r.paid;
          in_reach =
              record {
                is_strict = strict_placed p r.is_strict;
                paid = paid_placed n c R x y r.paid;
                extends = ext;
                enough = omega arith;
              };
        }

    -- Where the cases of a smaller rest find an order that is within their reach, so does a trial of a pair as it stands in l,
    module _ (opens : Opens) (next : (R' : Relation) (rest' : ℕ) → InReach R' rest' → rest' < rest → Finds (opens R' rest')) where
      trial_finds : (x y : ℕ) → Kept x y → Finds (trial n c opens R rest x y)
      unfolding trial
      trial_finds x y p =
          let less : rest - price n c R (place R x y) < rest = omega (arith, p.within, p.some) in
          rw (reach_opens n c opens (place R x y) (price n c R (place R x y)) rest p.within)
          (next (place R x y) (rest - price n c R (place R x y)) p.in_reach less)

      -- and the case, which tries both ways, or settles.
      branch_finds : Takes n c R ⊎ Settles n c R → Finds (branched n c opens R rest)
      unfolding both_ways
      branch_finds (inl t) =
          rw (t.goes opens rest)
          (either_finds (trial n c opens R rest t.x t.y) (trial n c opens R rest t.y t.x)
          (elim (exactly_one n l order t.x t.y t.x_below t.y_below t.apart) [
            | inl p ↦ inl (trial_finds t.x t.y (kept t.x t.y (pair_of n c t) p.0))
            | inr p ↦ inr (trial_finds t.y t.x (kept t.y t.x (turned (pair_of n c t)) p.1))
          ]))
      branch_finds (inr s) =
          let within : equal_costs n c R ≤ rest =
          omega (arith, r.enough, crossings_split n c l order R r.extends, unplaced_equal n c l order R s.equal) in
          rw (s.goes opens rest, settled-found n c R rest within) (made n R, refl)

  from_reach : (levels : ℕ) (R : Relation) (rest : ℕ) → InReach R rest → rest < levels → Finds (opened n c levels R rest)
  unfolding opened
  from_reach zero R rest r h = absurd (omega arith)
  from_reach (suc levels) R rest r h =
      branch_finds R rest r (opened n c levels) (λ R' rest' r' h'. from_reach levels R' rest' r' (omega arith)) (choice n c R)

-- A case that some order is within reach of finds one.
pub complete : (n : ℕ) (c : Cost) (levels : ℕ) (R : Relation) (rest : ℕ) (l : List ℕ) → Strict R → Paid n c R → IsOrder n l → Extends n R l
    → crossings c l ≤ spent n c R + rest → rest < levels → (m : List ℕ) × ((opened n c levels R rest).end ≡ found m)
complete n c levels R rest l is_strict paid order extends enough h =
    from_reach n c l order levels R rest (record { is_strict = is_strict; paid = paid; extends = extends; enough = enough }) h

-- The root's rest is k less what the root has spent.
pub walk_complete : (n : ℕ) (c : Cost) (root : Relation) (k : ℕ) (l : List ℕ) → Strict root → Paid n c root → IsOrder n l → Extends n root l
    → crossings c l ≤ k → (m : List ℕ) × ((walk n c root k).end ≡ found m)
unfolding walk
walk_complete n c root k l is_strict paid order extends within =
    let split : crossings c l ≡ spent n c root + unplaced_costs n c root l = crossings_split n c l order root extends in
    rw (reach_opens n c (opened n c (suc k)) root (spent n c root) k (omega arith))
    (complete n c (suc k) root (k - spent n c root) l is_strict paid order extends (omega arith) (omega arith))
