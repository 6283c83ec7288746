-- Crossings as a sum over pairs: an order's crossings are what its relation 'stands left of' costs. For an order that extends R they are what R has
-- spent, and what the pairs that R leaves unplaced cost as they stand; where each of these costs the same either way, that is `equal_costs`.
use mathlib.Core.Bool.{Bool, true, false, not, ◌&&◌, ◌||◌, and-true, and-false}
use mathlib.Core.List.{List, [], ◌∷◌}
use mathlib.Core.Logic.{◌⊎◌, inl, inr}
use mathlib.Core.Path.{◌≡◌, refl, sym, ◌∙◌, ap, subst}
use Prim.Native.Nat.{ℕ, zero, suc, ◌+◌, ◌*◌, ◌≤◌, ◌<◌}
use native.Mathlib.Omega.{arith}
use native.Mathlib.Decide.{ℕ_discrete, dec_lt}
use borrow.Author.Tests.{eqb-true, lt-ltb, le-ltb, not-true}
use lib.Dec.{eqb, ltb}
use Rattle.rules.specs.Sum.{sum, pair_sum, only_if}
use Rattle.rules.specs.Crossing.{Relation, Cost, IsOrder, times, right_of, crossings, stands}
use Rattle.rules.specs.Placement.{spent, price}
use Rattle.rules.specs.Walk.{unplaced, equal_costs}
use Rattle.rules.proofs.Sums.{and_left, and_right, only_if_so, only_if_not, only_if_one_of, sum_cong}
use Rattle.rules.proofs.Sums.{sum-none, sum_only_if, sum_at, pair_sum_cong, pair_sum_add, pair_sum_both}
use Rattle.laws.proofs.Terms.{Extends}
use Rattle.laws.proofs.Tests.{OneOf, either, never_both, not_passed, same_test, and_both, not_so}
use Rattle.laws.proofs.Lists.{times_here, NoRepeat, no_repeat_tail, Each, each_head, each_tail, right_of-times}
use Rattle.laws.proofs.Orders.{order_below, once_at_most}
use Rattle.laws.proofs.Stands.{stands-times, stands_strict, exactly_one, other_not}
use Rattle.laws.proofs.Placing.{spent_more, unplaced_if, unplaced_not, unplaced_back}

-- A row's pairs are those of its first outlet,
first_only : Cost → ℕ → List ℕ → ℕ → ℕ → ℕ
first_only c a l u v = only_if (eqb a u) (only_if (ltb 0 (times v l)) (c u v))

-- and those of the others, where the first is not among them;
stands_split : (c : Cost) (a : ℕ) (l : List ℕ) → times a l ≡ 0 → (u v : ℕ)
    → only_if (stands (a ∷ l) u v) (c u v) ≡ first_only c a l u v + only_if (stands l u v) (c u v)
unfolding stands only_if first_only
stands_split c a l new u v = go (eqb a u) refl (ltb 0 (times v l)) (stands l u v) refl
  where
    go : (s : Bool) → eqb a u ≡ s → (t r : Bool) → stands l u v ≡ r → only_if ((s && t) || r) (c u v) ≡ only_if s (only_if t (c u v)) + only_if r (c u v)
    go true e t true f = absurd (omega (arith, stands-times l u v f, ap (λ (w : ℕ). times w l) (eqb-true a u e)))
    go true e true false f = omega arith
    go true e false false f = omega arith
    go false e t true f = omega arith
    go false e t false f = omega arith

-- the first pays for standing left of all the others;
first_pays : (n : ℕ) (c : Cost) (a : ℕ) (l : List ℕ) → a < n → NoRepeat l → Each (λ o. o < n) l → pair_sum (first_only c a l) n ≡ right_of c a l
unfolding pair_sum first_only
first_pays n c a l h once below =
    sum_cong _ _ n (λ u k. sum_only_if (eqb a u) (λ v. only_if (ltb 0 (times v l)) (c u v)) n)
    ∙ sum_at (λ u. sum (λ v. only_if (ltb 0 (times v l)) (c u v)) n) n a h
    ∙ sum_cong _ _ n (λ v k. counts (times v l) (c a v) (once v))
    ∙ sym (right_of-times n c a l below)
  where
    counts : (t x : ℕ) → t ≤ 1 → only_if (ltb 0 t) x ≡ t * x
    counts zero x k = omega (arith, only_if_not x (le-ltb 0 0 (omega arith)))
    counts (suc zero) x k = omega (arith, only_if_so x (lt-ltb 0 1 (omega arith)))
    counts (suc (suc t)) x k = absurd (omega arith)

-- so that a row's crossings are the sum over its pairs as they stand.
row_sum : (n : ℕ) (c : Cost) (l : List ℕ) → NoRepeat l → Each (λ o. o < n) l → crossings c l ≡ pair_sum (λ u v. only_if (stands l u v) (c u v)) n
unfolding crossings stands pair_sum only_if
row_sum n c [] once below = sym (sum-none (λ u. sum (λ v. 0) n) n (λ u h. sum-none (λ v. 0) n (λ v k. refl)))
row_sum n c (a ∷ l) once below =
    let new : times a l ≡ 0 = omega (arith, once a, times_here a a l refl) in
    let others : ℕ → ℕ → ℕ = λ u v. only_if (stands l u v) (c u v) in
    omega (
      arith,
      row_sum n c l (no_repeat_tail a l once) (each_tail a l below),
      first_pays n c a l (each_head a l below) (no_repeat_tail a l once) (each_tail a l below),
      pair_sum_add (first_only c a l) others n,
      pair_sum_cong (λ u v. only_if (stands (a ∷ l) u v) (c u v)) (λ u v. first_only c a l u v + others u v) n
          (λ u v hu hv. stands_split c a l new u v),
    )

smaller_or_not : (u v : ℕ) → (u ≡ v → ⊥) → OneOf (ltb u v) (ltb v u)
smaller_or_not u v apart =
    elim (dec_lt u v)
    [ yes h ↦ inl (lt-ltb u v h, le-ltb v u (omega arith)) | no h ↦ inr (le-ltb u v (omega arith), lt-ltb v u (omega arith)) ]

-- what the pairs that R leaves unplaced cost as they stand in l
unfoldable pub unplaced_costs : ℕ → Cost → Relation → List ℕ → ℕ
unplaced_costs n c R l = pair_sum (λ u v. only_if (unplaced R u v && stands l u v) (c u v)) n

module _ (n : ℕ) (c : Cost) (l : List ℕ) (order : IsOrder n l) where
  -- An order's crossings are the cost of all pairs as they stand in it.
  pub crossings_spent : crossings c l ≡ spent n c (stands l)
  unfolding spent
  crossings_spent = row_sum n c l (once_at_most n l order) (order_below n l order)

  -- (a pair that costs the same either way, as it stands and as it is numbered)
  as_numbered : (u v : ℕ) → u < n → v < n → c u v ≡ c v u → Dec (u ≡ v)
      → only_if (stands l u v) (c u v) + only_if (stands l v u) (c v u) ≡ only_if (ltb u v) (c u v) + only_if (ltb v u) (c v u)
  as_numbered u v hu hv e (no apart) =
      omega (
        arith,
        only_if_one_of (stands l u v) (stands l v u) (c u v) (c v u) e (exactly_one n l order u v hu hv apart),
        only_if_one_of (ltb u v) (ltb v u) (c u v) (c v u) e (smaller_or_not u v apart),
      )
  as_numbered u v hu hv e (yes same) =
      omega (
        arith,
        only_if_not (c u v) (alone u v same),
        only_if_not (c v u) (alone v u (sym same)),
        only_if_not (c u v) (le-ltb u v (omega arith)),
        only_if_not (c v u) (le-ltb v u (omega arith)),
      )
    where
      alone : (x y : ℕ) → x ≡ y → stands l x y ≡ false
      alone x y p =
          not_passed (stands l x y)
          (λ q. (stands_strict n l order).irreflexive x (subst (λ (w : ℕ). stands l x w ≡ true) (sym p) q))

  module _ (R : Relation) where
    -- For an order that extends R: what R has spent, and what the unplaced pairs cost as they stand.
    pub crossings_split : Extends n R l → crossings c l ≡ spent n c R + unplaced_costs n c R l
    unfolding price unplaced_costs
    crossings_split ext =
        let more : price n c R (stands l) ≡ unplaced_costs n c R l =
        pair_sum_cong _ _ n (λ u v hu hv. ap (λ (t : Bool). only_if t (c u v)) (same_test _ _ (leaves u v hu hv) (left u v))) in
        omega (arith, crossings_spent, spent_more n c R (stands l) ext.stood)
      where
        leaves : (u v : ℕ) → u < n → v < n → (stands l u v && not (R u v)) ≡ true → (unplaced R u v && stands l u v) ≡ true
        leaves u v hu hv e =
            let stood : stands l u v ≡ true = and_left (stands l u v) _ e in
            let back : R v u ≡ false = not_passed (R v u) (λ p. never_both (ext.stood v u hv hu p) (other_not n l order u v stood)) in
            and_both (unplaced R u v) _ (unplaced_if R u v (not-true (R u v) (and_right (stands l u v) _ e)) back) stood

        left : (u v : ℕ) → (unplaced R u v && stands l u v) ≡ true → (stands l u v && not (R u v)) ≡ true
        left u v e =
            and_both (stands l u v) _ (and_right (unplaced R u v) _ e) (not_so (R u v) (unplaced_not R u v (and_left (unplaced R u v) _ e)))

    -- Where each unplaced pair costs the same either way, it does not matter how they stand.
    pub unplaced_equal : ((u v : ℕ) → u < n → v < n → unplaced R u v ≡ true → c u v ≡ c v u) → unplaced_costs n c R l ≡ equal_costs n c R
    unfolding unplaced_costs equal_costs
    unplaced_equal equal = pair_sum_both _ _ n (λ u v hu hv. go u v hu hv (either (unplaced R u v)))
      where
        go : (u v : ℕ) → u < n → v < n → (unplaced R u v ≡ true) ⊎ (unplaced R u v ≡ false)
            → only_if (unplaced R u v && stands l u v) (c u v) + only_if (unplaced R v u && stands l v u) (c v u)
            ≡ only_if (ltb u v && unplaced R u v) (c u v) + only_if (ltb v u && unplaced R v u) (c v u)
        go u v hu hv (inl p) =
            let q : unplaced R v u ≡ true = unplaced_back R u v p in
            rw (p, q) (simp and-true (as_numbered u v hu hv (equal u v hu hv p) (ℕ_discrete u v)))
        go u v hu hv (inr p) =
            let q : unplaced R v u ≡ false = not_passed (unplaced R v u) (λ e. never_both (unplaced_back R v u e) p) in
            rw (p, q) (simp and-false)
