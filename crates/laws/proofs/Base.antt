-- The base is strict and safe as it stands, and each pair that it leaves unplaced costs at least 1 either way. Only the last asks that a place has
-- at most one hose, which today's rails have.
use mathlib.Core.Path.{◌≡◌, refl, sym, ◌∙◌}
use mathlib.Core.Bool.{true, false, not, ◌&&◌}
use mathlib.Core.List.{List}
use mathlib.Core.Logic.{◌⊎◌, inl, inr, ⊎_elim}
use Prim.Native.Nat.{ℕ, ◌≤◌, ◌<◌}
use native.Mathlib.Omega.{arith}
use native.Mathlib.Nat.{eq-zero-or-pos}
use native.Mathlib.Decide.{dec_lt}
use borrow.Author.Tests.{ltb-true, ltb-false, lt-ltb, le-ltb, eqb-true, eq-eqb, not-true}
use lib.Dec.{ltb, eqb}
use lib.ListN.{length}
use Rattle.rules.specs.Crossing.{Profile, IsOrder, bit, profile, places, hoses, cross}
use Rattle.rules.specs.Placement.{has_hoses, same_bins, bare_last, free_one_way, alike, base}
use Rattle.rules.specs.Rail.{outlet, cost, root}
use Rattle.rules.proofs.Sums.{and_left, and_right, Last, last_of}
use Rattle.laws.proofs.Terms.{Strict, Paid}
use Rattle.laws.proofs.Tests.{never_both, and_both, or_cases, or_second}
use Rattle.laws.proofs.Cross.{Equal, same_bins_equal, equal_same_bins, hoses_equal, cross_equal}
use Rattle.laws.proofs.Cross.{Crossed, crossed, crossed_some, apart, apart_none, same_bins_both}
use Rattle.laws.proofs.Moving.{Movable, bare_first, bare_second, free, equal}
use Rattle.laws.proofs.Safe.{Safe, Extension, safe}
use Rattle.laws.proofs.Placing.{unplaced_not, unplaced_back}

-- The base's test of a single outlet, as a fact, and back

with : (p : Profile) → has_hoses p ≡ true → 0 < hoses p
unfolding has_hoses
with p e = ltb-true 0 (hoses p) e

without : (p : Profile) → not (has_hoses p) ≡ true → hoses p ≡ 0
unfolding has_hoses
without p e = omega (arith, ltb-false 0 (hoses p) (not-true (has_hoses p) e))

has : (p : Profile) → 0 < hoses p → has_hoses p ≡ true
unfolding has_hoses
has p h = lt-ltb 0 (hoses p) h

has_no_hoses : (p : Profile) → hoses p ≡ 0 → not (has_hoses p) ≡ true
unfolding has_hoses
has_no_hoses p e = rw (le-ltb 0 (hoses p) (omega arith))

-- The base's three rules, as facts

rule_one : (p q : Profile) → bare_last p q ≡ true → (0 < hoses p) × (hoses q ≡ 0)
unfolding bare_last
rule_one p q e = (with p (and_left (has_hoses p) _ e), without q (and_right (has_hoses p) _ e))

rule_two : (p q : Profile) → free_one_way p q ≡ true → (0 < hoses p) × (0 < hoses q) × (cross p q ≡ 0) × (0 < cross q p)
unfolding free_one_way
rule_two p q e =
    let both = and_left (has_hoses p && has_hoses q) _ e in
    let way = and_right (has_hoses p && has_hoses q) _ e in (
      with p (and_left (has_hoses p) _ both),
      with q (and_right (has_hoses p) _ both),
      eqb-true (cross p q) 0 (and_left (eqb (cross p q) 0) _ way),
      ltb-true 0 (cross q p) (and_right (eqb (cross p q) 0) _ way),
    )

rule_three : (p q : Profile) → alike p q ≡ true → Equal p q ⊎ ((hoses p ≡ 0) × (hoses q ≡ 0))
unfolding alike
rule_three p q e =
    ⊎_elim
    (λ k. inl (same_bins_equal p q k))
    (λ k. inr (without p (and_left (not (has_hoses p)) _ k), without q (and_right (not (has_hoses p)) _ k)))
    (or_cases (same_bins p q) _ e)

-- why the base has a pair: by rule 1, rule 2, or one half of rule 3
data Based (o : ℕ → Profile) (a b : ℕ) : Type 0 where
  bare : 0 < hoses (o a) → hoses (o b) ≡ 0 → Based o a b
  one_way : 0 < hoses (o a) → 0 < hoses (o b) → cross (o a) (o b) ≡ 0 → 0 < cross (o b) (o a) → Based o a b
  same : a < b → Equal (o a) (o b) → Based o a b
  neither : a < b → hoses (o a) ≡ 0 → hoses (o b) ≡ 0 → Based o a b

module _ (o : ℕ → Profile) where
  why : (a b : ℕ) → base o a b ≡ true → Based o a b
  unfolding base
  why a b e = ⊎_elim one (λ k. ⊎_elim two three (or_cases (free_one_way (o a) (o b)) _ k)) (or_cases (bare_last (o a) (o b)) _ e)
    where
      one : bare_last (o a) (o b) ≡ true → Based o a b
      one k = let r = rule_one (o a) (o b) k in bare r.0 r.1

      two : free_one_way (o a) (o b) ≡ true → Based o a b
      two k = let r = rule_two (o a) (o b) k in one_way r.0 r.1 r.2 r.3

      three : (ltb a b && alike (o a) (o b)) ≡ true → Based o a b
      three k =
          let l = ltb-true a b (and_left (ltb a b) _ k) in
          ⊎_elim (λ q. same l q) (λ q. neither l q.0 q.1) (rule_three (o a) (o b) (and_right (ltb a b) _ k))

  third : (a b : ℕ) → a < b → alike (o a) (o b) ≡ true → base o a b ≡ true
  unfolding base
  third a b l e =
      or_second (bare_last (o a) (o b)) _ (or_second (free_one_way (o a) (o b)) _ (and_both (ltb a b) _ (lt-ltb a b l) e))

  so : (a b : ℕ) → Based o a b → base o a b ≡ true
  unfolding base bare_last free_one_way alike
  so a b (bare h e) = rw (has (o a) h, has_no_hoses (o b) e)
  so a b (one_way h k e d) = rw (has (o a) h, has (o b) k, eq-eqb (cross (o a) (o b)) 0 e, lt-ltb 0 (cross (o b) (o a)) d)
  so a b (same l e) = third a b l (rw (equal_same_bins (o a) (o b) e))
  so a b (neither l e d) = third a b l (or_second (same_bins (o a) (o b)) _ (rw (has_no_hoses (o a) e, has_no_hoses (o b) d)))

  -- a's last place is at most b's first, and b's last at most c's first; and what a hose of b lies right of, a hose of c does
  one_way_twice : (a b c : ℕ) → 0 < hoses (o a) → 0 < hoses (o b) → 0 < hoses (o c)
      → cross (o a) (o b) ≡ 0 → 0 < cross (o b) (o a) → cross (o b) (o c) ≡ 0 → Based o a c
  unfolding hoses
  one_way_twice a b c ha hb hc e d f =
      let t : Last (o b) places = last_of (o b) places hb in
      let w : Crossed (o b) (o a) = crossed (o b) (o a) d in
      let z : Last (o c) places = last_of (o c) places hc in
      one_way ha hc
      (apart_none (o a) (o c)
      (λ x y lx ly hx hy. omega (arith, apart (o a) (o b) e x t.at lx hx t.some, apart (o b) (o c) f t.at y t.below t.some hy)))
      (crossed_some (o c) (o a)
      (record {
        right = z.at;
        left = w.left;
        on_row = z.below;
        order = omega (arith, w.order, apart (o b) (o c) f w.right z.at w.on_row w.hose_right z.some);
        hose_right = z.some;
        hose_left = w.hose_left;
      }))

  -- an equal outlet in b's place
  same_second : (a b c : ℕ) → Equal (o b) (o c) → (cross (o a) (o b) ≡ cross (o a) (o c)) × (cross (o b) (o a) ≡ cross (o c) (o a))
  same_second a b c e = (cross_equal (o a) (o a) (o b) (o c) (λ x l. refl) e, cross_equal (o b) (o c) (o a) (o a) e (λ x l. refl))

  -- The base is closed under transitivity as it stands.
  through : (a b c : ℕ) → Based o a b → Based o b c → Based o a c
  through a b c (bare h e) (bare k f) = absurd (omega arith)
  through a b c (bare h e) (one_way k m f g) = absurd (omega arith)
  through a b c (bare h e) (same l f) = bare h (omega (arith, hoses_equal (o b) (o c) f))
  through a b c (bare h e) (neither l f g) = bare h g
  through a b c (one_way h k e d) (bare m f) = bare h f
  through a b c (one_way h k e d) (one_way m n f g) = one_way_twice a b c h k n e d f
  through a b c (one_way h k e d) (same l f) =
      let r = same_second a b c f in one_way h (omega (arith, hoses_equal (o b) (o c) f)) (omega (arith, r.0)) (omega (arith, r.1))
  through a b c (one_way h k e d) (neither l f g) = absurd (omega arith)
  through a b c (same l e) (bare h f) = bare (omega (arith, hoses_equal (o a) (o b) e)) f
  through a b c (same l e) (one_way h k f g) =
      let r = same_second c a b e in one_way (omega (arith, hoses_equal (o a) (o b) e)) k (omega (arith, r.1)) (omega (arith, r.0))
  through a b c (same l e) (same m f) = same (omega arith) (λ x k. e x k ∙ f x k)
  through a b c (same l e) (neither m f g) = neither (omega arith) (omega (arith, hoses_equal (o a) (o b) e)) g
  through a b c (neither l e d) (bare h f) = absurd (omega arith)
  through a b c (neither l e d) (one_way h k f g) = absurd (omega arith)
  through a b c (neither l e d) (same m f) = neither (omega arith) e (omega (arith, hoses_equal (o b) (o c) f))
  through a b c (neither l e d) (neither m f g) = neither (omega arith) e g

  not_itself : (a : ℕ) → Based o a a → ⊥
  not_itself a (bare h e) = omega arith
  not_itself a (one_way h k e d) = omega arith
  not_itself a (same l e) = omega arith
  not_itself a (neither l e d) = omega arith

  moved : (a b : ℕ) → Based o a b → Movable (o a) (o b)
  moved a b (bare h e) = bare_second e
  moved a b (one_way h k e d) = free e
  moved a b (same l e) = equal e
  moved a b (neither l e d) = bare_first e

  -- The base is a strict order,
  pub base_strict : Strict (base o)
  base_strict =
      record {
        transitive = λ a b c e f. so a c (through a b c (why a b e) (why b c f));
        irreflexive = λ a e. not_itself a (why a a e);
      }

  -- safe,
  pub base_safe : Safe o (base o)
  base_safe = record { strict = base_strict; movable = λ a b e. moved a b (why a b e) }

  -- of two outlets that cross nothing one way, the base has one left of the other
  free_based : ((a x : ℕ) → o a x ≤ 1) → (u v : ℕ) → (u ≡ v → ⊥) → cross (o u) (o v) ≡ 0 → Based o u v ⊎ Based o v u
  free_based one u v ne e = by_hoses (eq-zero-or-pos (hoses (o u))) (eq-zero-or-pos (hoses (o v))) (eq-zero-or-pos (cross (o v) (o u)))
    where
      by_number : (u < v → Based o u v) → (v < u → Based o v u) → Based o u v ⊎ Based o v u
      by_number f g = elim (dec_lt u v) [ yes l ↦ inl (f l) | no l ↦ inr (g (omega arith)) ]

      by_hoses : (hoses (o u) ≡ 0) ⊎ (0 < hoses (o u)) → (hoses (o v) ≡ 0) ⊎ (0 < hoses (o v))
          → (cross (o v) (o u) ≡ 0) ⊎ (0 < cross (o v) (o u)) → Based o u v ⊎ Based o v u
      by_hoses (inl p) (inl q) d = by_number (λ l. neither l p q) (λ l. neither l q p)
      by_hoses (inl p) (inr q) d = inr (bare q p)
      by_hoses (inr p) (inl q) d = inl (bare p q)
      by_hoses (inr p) (inr q) (inr d) = inl (one_way p q e d)
      by_hoses (inr p) (inr q) (inl d) =
          let eq : Equal (o u) (o v) = same_bins_equal (o u) (o v) (same_bins_both (o u) (o v) (one u) (one v) p q e d) in
          by_number (λ l. same l eq) (λ l. same l (λ x k. sym (eq x k)))

  -- and what it leaves unplaced costs at least 1, either way: the pair and its test are the same with u and v changed round.
  pub base_costs : ((a x : ℕ) → o a x ≤ 1) → (u v : ℕ) → (u ≡ v → ⊥) → base o u v ≡ false → base o v u ≡ false → 1 ≤ cross (o u) (o v)
  base_costs one u v ne e d =
      elim (eq-zero-or-pos (cross (o u) (o v))) [
        | inl none ↦ absurd (⊎_elim (λ w. never_both (so u v w) e) (λ w. never_both (so v u w) d) (free_based one u v ne none))
        | inr some ↦ some
      ]

-- Today's rails: a bin and an outlet have one hose between them or none.
pub one_hose : (rail : List ℕ) (a x : ℕ) → outlet rail a x ≤ 1
unfolding outlet profile bit
one_hose rail a x = omega arith

pub root_strict : (rail : List ℕ) → Strict (root rail)
unfolding root
root_strict rail = base_strict (outlet rail)

pub root_safe : (rail : List ℕ) → Safe (outlet rail) (root rail)
unfolding root
root_safe rail = base_safe (outlet rail)

-- for every order of the outlets there is one that extends the root and has no more crossings
pub root_extension : (rail : List ℕ) (n : ℕ) (l : List ℕ) → IsOrder n l → Extension n (cost rail) (root rail) l
unfolding cost
root_extension rail n l order = safe (outlet rail) (root rail) (root_safe rail) n l order

pub root_costs : (rail : List ℕ) (u v : ℕ) → (u ≡ v → ⊥) → root rail u v ≡ false → root rail v u ≡ false → 1 ≤ cost rail u v
unfolding root cost
root_costs rail u v ne e d = base_costs (outlet rail) (one_hose rail) u v ne e d

-- so every pair of a rail's outlets that its root leaves unplaced is paid for
pub root_paid : (rail : List ℕ) → Paid (length rail) (cost rail) (root rail)
root_paid rail =
    record {
      at_least_one =
          λ u v hu hv apart free.
          root_costs rail u v apart (unplaced_not (root rail) u v free) (unplaced_not (root rail) v u (unplaced_back (root rail) u v free));
    }
