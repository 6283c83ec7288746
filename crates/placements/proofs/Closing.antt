-- What a placement brings with it, told by those who are new: in a relation that is closed under transitivity whoever stands left of b already
-- stands left of all that stand right of b, and whoever stands right of a already stands right of all that stand left of a.
use mathlib.Core.Bool.{Bool, true, false, not, ◌&&◌, ◌||◌}
use mathlib.Core.Logic.{◌⊎◌, inl, inr}
use mathlib.Core.Path.{◌≡◌, refl, sym, ◌∙◌, ap, subst}
use Prim.Native.Nat.{ℕ}
use lib.Dec.{eqb}
use Rattle.rules.specs.Crossing.{Relation}
use Rattle.rules.specs.Placement.{place}
use Rattle.rules.proofs.Sums.{and_left, and_right}
use Rattle.laws.proofs.Terms.{Strict}
use Rattle.laws.proofs.Tests.{either, or_cases, or_first, or_second, and_both, not_so, eq_or_cases, same_test}

-- a and whoever stands left of it, but for those that stand left of b already
abbrev pub new_left : Relation → ℕ → ℕ → ℕ → Bool
new_left R a b u = (eqb u a || R u a) && not (R u b)

-- b and whoever stands right of it, but for those that stand right of a already
abbrev pub new_right : Relation → ℕ → ℕ → ℕ → Bool
new_right R a b v = (eqb v b || R b v) && not (R a v)

module _ (R : Relation) (a b : ℕ) (s : Strict R) where
  -- what was placed already, and the new ones on the left before the new ones on the right
  pub closed : (u v : ℕ) → place R a b u v ≡ (R u v || (new_left R a b u && new_right R a b v))
  unfolding place
  closed u v = same_test _ _ onto back
    where
      -- whoever stands left of b already stands left of v already,
      before_b : R u b ≡ true → (v ≡ b) ⊎ (R b v ≡ true) → R u v ≡ true
      before_b p (inl q) = subst (λ (w : ℕ). R u w ≡ true) (sym q) p
      before_b p (inr q) = s.transitive u b v p q

      -- and so does u where v stands right of a already
      behind_a : (u ≡ a) ⊎ (R u a ≡ true) → R a v ≡ true → R u v ≡ true
      behind_a (inl p) q = subst (λ (w : ℕ). R w v ≡ true) (sym p) q
      behind_a (inr p) q = s.transitive u a v p q

      new : (eqb u a || R u a) ≡ true → (eqb v b || R b v) ≡ true → (R u b ≡ true) ⊎ (R u b ≡ false) → (R a v ≡ true) ⊎ (R a v ≡ false)
          → (R u v || (new_left R a b u && new_right R a b v)) ≡ true
      new p q (inl o) d = or_first (R u v) _ (before_b o (eq_or_cases v b (R b v) q))
      new p q (inr o) (inl d) = or_first (R u v) _ (behind_a (eq_or_cases u a (R u a) p) d)
      new p q (inr o) (inr d) =
          or_second (R u v) _
          (and_both _ _ (and_both (eqb u a || R u a) _ p (not_so (R u b) o)) (and_both (eqb v b || R b v) _ q (not_so (R a v) d)))

      onto : (R u v || ((eqb u a || R u a) && (eqb v b || R b v))) ≡ true → (R u v || (new_left R a b u && new_right R a b v)) ≡ true
      onto e =
          elim (or_cases (R u v) _ e) [
            | inl p ↦ or_first (R u v) _ p
            | inr q ↦ new (and_left (eqb u a || R u a) _ q) (and_right (eqb u a || R u a) _ q) (either (R u b)) (either (R a v))
          ]

      back : (R u v || (new_left R a b u && new_right R a b v)) ≡ true → (R u v || ((eqb u a || R u a) && (eqb v b || R b v))) ≡ true
      back e =
          elim (or_cases (R u v) _ e) [
            | inl p ↦ or_first (R u v) _ p
            | inr q ↦
                or_second (R u v) _
                (and_both _ _
                (and_left (eqb u a || R u a) _ (and_left (new_left R a b u) _ q))
                (and_left (eqb v b || R b v) _ (and_right (new_left R a b u) _ q)))
          ]

  -- so the pairs that are new are those, but for what was placed already
  pub closed_new : (u v : ℕ) → (place R a b u v && not (R u v)) ≡ (new_left R a b u && (new_right R a b v && not (R u v)))
  closed_new u v = ap (λ (t : Bool). t && not (R u v)) (closed u v) ∙ only (R u v) (new_left R a b u) (new_right R a b v)
    where
      only : (o p q : Bool) → ((o || (p && q)) && not o) ≡ (p && (q && not o))
      only true true true = refl
      only true true false = refl
      only true false q = refl
      only false true true = refl
      only false true false = refl
      only false false q = refl
