-- The base by the two sets of a pair: what the tests of equal sets, of an empty set and of the two costs say of the root's relation.
use mathlib.Core.Path.{◌≡◌, refl, sym, ◌∙◌, ap, ap₂}
use mathlib.Core.Bool.{Bool, true, false, not, ◌&&◌, ◌||◌, and-true, and-false, and-not_self, or-false}
use mathlib.Core.List.{List}
use mathlib.Core.Logic.{◌⊎◌, inl, inr}
use Prim.Native.Nat.{ℕ, ◌^◌, ◌<◌}
use native.Mathlib.Omega.{arith}
use native.Mathlib.Nat.{eq-zero-or-pos}
use native.Mathlib.Decide.{ℕ_discrete}
use borrow.Author.Tests.{eq-eqb, ne_eqb, lt-ltb, le-ltb}
use lib.Dec.{eqb, ltb}
use lib.ListN.{length, get_or}
use Rattle.rules.specs.Sum.{sum}
use Rattle.rules.specs.Crossing.{profile, places, hoses, cross}
use Rattle.rules.specs.Placement.{has_hoses, same_bins, bare_last, free_one_way, alike, base}
use Rattle.rules.specs.Rail.{outlet, cost, root}
use Rattle.rules.proofs.Sums.{sum-none, sum_term}
use Rattle.tables.specs.Tables.{cost_in, CostsOf}
use Rattle.laws.proofs.Tests.{not_passed}
use Rattle.laws.proofs.Cross.{same_bins_equal, equal_same_bins}
use Rattle.hoses.proofs.Bits.{bit-none, bits_none, bits_ext}

-- ---- one set, and two

some : (m : ℕ) → m < 2 ^ 64 → (m ≡ 0 → ⊥) → has_hoses (profile m) ≡ true
unfolding has_hoses hoses places profile
some m h n = lt-ltb 0 (sum (profile m) 64) (go (eq-zero-or-pos (sum (profile m) 64)))
  where
    go : (sum (profile m) 64 ≡ 0) ⊎ (0 < sum (profile m) 64) → 0 < sum (profile m) 64
    go (inl e) = absurd (n (bits_none 64 m h (λ x l. omega (arith, sum_term (profile m) 64 x l))))
    go (inr l) = l

none : has_hoses (profile 0) ≡ false
unfolding has_hoses hoses places profile
none = le-ltb 0 (sum (profile 0) 64) (omega (arith, sum-none (profile 0) 64 (λ x l. bit-none x)))

same : (m : ℕ) → same_bins (profile m) (profile m) ≡ true
same m = equal_same_bins (profile m) (profile m) (λ x l. refl)

different : (x y : ℕ) → x < 2 ^ 64 → y < 2 ^ 64 → (x ≡ y → ⊥) → same_bins (profile x) (profile y) ≡ false
unfolding places profile
different x y hx hy n =
    not_passed (same_bins (profile x) (profile y)) (λ e. n (bits_ext 64 x y hx hy (same_bins_equal (profile x) (profile y) e)))

-- nothing is 0 and above 0
neither : (k : ℕ) → (eqb k 0 && ltb 0 k) ≡ false
neither k =
    elim (ℕ_discrete k 0) [
      | yes e ↦ rw (eq-eqb k 0 e, le-ltb 0 k (omega arith))
      | no n ↦ rw (ne_eqb k 0 n)
    ]

-- what is not 0 is above 0
above : (k : ℕ) → not (eqb k 0) ≡ ltb 0 k
above k =
    elim (ℕ_discrete k 0) [
      | yes e ↦ rw (eq-eqb k 0 e, le-ltb 0 k (omega arith))
      | no n ↦ rw (ne_eqb k 0 n, lt-ltb 0 k (omega arith))
    ]

-- ---- the base of two outlets, by their sets and by whether the first has the smaller number

unfoldable by_sets : ℕ → ℕ → Bool → Bool
by_sets x y smaller = bare_last (profile x) (profile y) || (free_one_way (profile x) (profile y) || (smaller && alike (profile x) (profile y)))

root_by_sets : (rail : List ℕ) (a b : ℕ) → root rail a b ≡ by_sets (get_or rail a 0) (get_or rail b 0) (ltb a b)
unfolding root base outlet by_sets
root_by_sets rail a b = refl

-- equal sets: the smaller number left
sets_same : (x : ℕ) (smaller : Bool) → by_sets x x smaller ≡ smaller
unfolding by_sets bare_last free_one_way alike
sets_same x smaller =
    let h : Bool = has_hoses (profile x) in
    rw (and-not_self h, neither (cross (profile x) (profile x)), and-false (h && h), same x, and-true smaller)

-- an outlet with hoses left of one without,
sets_bare : (y : ℕ) (smaller : Bool) → y < 2 ^ 64 → (y ≡ 0 → ⊥) → by_sets 0 y smaller ≡ false
unfolding by_sets bare_last free_one_way alike
sets_bare y smaller h n = rw (none, some y h n, different 0 y (omega arith) h (λ e. n (sym e)), and-false smaller)

sets_last : (x : ℕ) (smaller : Bool) → x < 2 ^ 64 → (x ≡ 0 → ⊥) → by_sets x 0 smaller ≡ true
unfolding by_sets bare_last free_one_way alike
sets_last x smaller h n = rw (none, some x h n)

-- and where both have hoses, by the two cross values
sets_both : (x y : ℕ) (smaller : Bool) → x < 2 ^ 64 → y < 2 ^ 64 → (x ≡ 0 → ⊥) → (y ≡ 0 → ⊥) → (x ≡ y → ⊥)
    → by_sets x y smaller ≡ (eqb (cross (profile x) (profile y)) 0 && ltb 0 (cross (profile y) (profile x)))
unfolding by_sets bare_last free_one_way alike
sets_both x y smaller hx hy nx ny n =
    let free : Bool = eqb (cross (profile x) (profile y)) 0 && ltb 0 (cross (profile y) (profile x)) in
    rw (some x hx nx, some y hy ny, different x y hx hy n, and-false smaller, or-false free)

-- so of two outlets of a rail
module _ (rail : List ℕ) (a b : ℕ) (ha : get_or rail a 0 < 2 ^ 64) (hb : get_or rail b 0 < 2 ^ 64) where
  pub root_same : get_or rail a 0 ≡ get_or rail b 0 → root rail a b ≡ ltb a b
  root_same e =
      root_by_sets rail a b ∙ ap (λ (y : ℕ). by_sets (get_or rail a 0) y (ltb a b)) (sym e) ∙ sets_same (get_or rail a 0) (ltb a b)

  pub root-bare : (get_or rail a 0 ≡ get_or rail b 0 → ⊥) → get_or rail a 0 ≡ 0 → root rail a b ≡ false
  root-bare n e =
      root_by_sets rail a b ∙ ap (λ (x : ℕ). by_sets x (get_or rail b 0) (ltb a b)) e
      ∙ sets_bare (get_or rail b 0) (ltb a b) hb (λ z. n (e ∙ sym z))

  pub root_last : (get_or rail a 0 ≡ 0 → ⊥) → get_or rail b 0 ≡ 0 → root rail a b ≡ true
  root_last n e =
      root_by_sets rail a b ∙ ap (λ (y : ℕ). by_sets (get_or rail a 0) y (ltb a b)) e ∙ sets_last (get_or rail a 0) (ltb a b) ha n

  -- where the sets do not decide, the costs do
  module _ (costs : List ℕ) (table : CostsOf rail costs) (la : a < length rail) (lb : b < length rail)
      (n : get_or rail a 0 ≡ get_or rail b 0 → ⊥) (na : get_or rail a 0 ≡ 0 → ⊥) (nb : get_or rail b 0 ≡ 0 → ⊥) where
    by_costs : root rail a b ≡ (eqb (cost_in costs a b) 0 && ltb 0 (cost_in costs b a))
    unfolding cost outlet
    by_costs =
        root_by_sets rail a b ∙ sets_both (get_or rail a 0) (get_or rail b 0) (ltb a b) ha hb na nb n
        ∙ ap₂ (λ (p q : ℕ). eqb p 0 && ltb 0 q) (sym (table.pairs a b la lb)) (sym (table.pairs b a lb la))

    pub root_dear : (cost_in costs a b ≡ 0 → ⊥) → root rail a b ≡ false
    root_dear d = by_costs ∙ rw (ne_eqb (cost_in costs a b) 0 d)

    pub root_free : cost_in costs a b ≡ 0 → root rail a b ≡ not (eqb (cost_in costs b a) 0)
    root_free e = by_costs ∙ rw (eq-eqb (cost_in costs a b) 0 e, above (cost_in costs b a))
