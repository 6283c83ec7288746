-- What a placement brings with it: `place R a b` is the least transitive relation above R and (a, b), it is strict where R is and does not have b
-- left of a, and what has been spent grows by its price.
use mathlib.Core.Bool.{true, false, not, ◌&&◌, ◌||◌}
use mathlib.Core.Logic.{◌⊎◌, inl, inr}
use mathlib.Core.Path.{◌≡◌, refl, sym, ◌∙◌, subst}
use Prim.Native.Nat.{ℕ, ◌+◌, ◌<◌, ◌≤◌}
use native.Mathlib.Omega.{arith}
use borrow.Author.Tests.{not-true}
use lib.Dec.{eqb}
use Rattle.rules.specs.Sum.{only_if}
use Rattle.rules.specs.Crossing.{Relation, Cost}
use Rattle.rules.specs.Placement.{place, spent, price}
use Rattle.rules.specs.Walk.{unplaced}
use Rattle.rules.proofs.Sums.{and_left, and_right, pair_sum_cong, pair_sum_add, pair_sum_term}
use Rattle.laws.proofs.Terms.{Strict, Paid}
use Rattle.laws.proofs.Tests.{or_cases, or_first, or_second, and_both, never_both, not_passed}
use Rattle.laws.proofs.Tests.{not_so, eq_or_cases, eq_or, only_if_so, only_if_wider}

-- u is a, or R has it left of a
abbrev UpTo : Relation → ℕ → ℕ → Type 0
UpTo R u a = (u ≡ a) ⊎ (R u a ≡ true)

-- v is b, or R has it right of b
abbrev From : Relation → ℕ → ℕ → Type 0
From R b v = (v ≡ b) ⊎ (R b v ≡ true)

-- a placed pair is one of R's, or goes from a or left of it to b or right of it
abbrev OldOrNew : Relation → ℕ → ℕ → ℕ → ℕ → Type 0
OldOrNew R a b u v = (R u v ≡ true) ⊎ (UpTo R u a × From R b v)

module _ (R : Relation) (a b : ℕ) where
  placed_cases : (u v : ℕ) → place R a b u v ≡ true → OldOrNew R a b u v
  unfolding place
  placed_cases u v e =
      elim (or_cases (R u v) _ e) [
        | inl p ↦ inl p
        | inr q ↦
            inr
            (eq_or_cases u a (R u a) (and_left (eqb u a || R u a) _ q), eq_or_cases v b (R b v) (and_right (eqb u a || R u a) _ q))
      ]

  placed_if : (u v : ℕ) → UpTo R u a → From R b v → place R a b u v ≡ true
  unfolding place
  placed_if u v p q = or_second (R u v) _ (and_both _ _ (eq_or u a (R u a) p) (eq_or v b (R b v) q))

  -- It has all that R has,
  pub keeps : (u v : ℕ) → R u v ≡ true → place R a b u v ≡ true
  unfolding place
  keeps u v e = or_first (R u v) _ e

  -- and a left of b;
  pub placed : place R a b a b ≡ true
  placed = placed_if a b (inl refl) (inl refl)

  -- what follows by transitivity is in it;
  pub transitive : ((x y z : ℕ) → R x y ≡ true → R y z ≡ true → R x z ≡ true)
      → (x y z : ℕ) → place R a b x y ≡ true → place R a b y z ≡ true → place R a b x z ≡ true
  transitive t x y z e f = go (placed_cases x y e) (placed_cases y z f)
    where
      before : R x y ≡ true → UpTo R y a → UpTo R x a
      before p (inl q) = inr (subst (λ (w : ℕ). R x w ≡ true) q p)
      before p (inr q) = inr (t x y a p q)

      after : From R b y → R y z ≡ true → From R b z
      after (inl q) p = inr (subst (λ (w : ℕ). R w z ≡ true) q p)
      after (inr q) p = inr (t b y z q p)

      go : OldOrNew R a b x y → OldOrNew R a b y z → place R a b x z ≡ true
      go (inl p) (inl q) = keeps x z (t x y z p q)
      go (inl p) (inr q) = placed_if x z (before p q.0) q.1
      go (inr p) (inl q) = placed_if x z p.0 (after p.1 q)
      go (inr p) (inr q) = placed_if x z p.0 q.1

  -- and whatever transitive relation has R and a left of b has it: among the outlets of any set that a and b belong to,
  pub least_among : (Among : ℕ → Type 0) → Among a → Among b → (S : Relation) → ((x y z : ℕ) → S x y ≡ true → S y z ≡ true → S x z ≡ true)
      → ((u v : ℕ) → Among u → Among v → R u v ≡ true → S u v ≡ true) → S a b ≡ true
      → (u v : ℕ) → Among u → Among v → place R a b u v ≡ true → S u v ≡ true
  least_among Among ha hb S t sub ab u v hu hv e = go (placed_cases u v e)
    where
      from_left : UpTo R u a → S u b ≡ true
      from_left (inl p) = subst (λ (w : ℕ). S w b ≡ true) (sym p) ab
      from_left (inr p) = t u a b (sub u a hu ha p) ab

      to_right : S u b ≡ true → From R b v → S u v ≡ true
      to_right p (inl q) = subst (λ (w : ℕ). S u w ≡ true) (sym q) p
      to_right p (inr q) = t u b v p (sub b v hb hv q)

      go : OldOrNew R a b u v → S u v ≡ true
      go (inl p) = sub u v hu hv p
      go (inr p) = to_right (from_left p.0) p.1

  -- and so among all.
  pub least : (S : Relation) → ((x y z : ℕ) → S x y ≡ true → S y z ≡ true → S x z ≡ true)
      → ((u v : ℕ) → R u v ≡ true → S u v ≡ true) → S a b ≡ true → (u v : ℕ) → place R a b u v ≡ true → S u v ≡ true
  least S t sub ab u v e = least_among (λ w. Unit {0}) tt tt S t (λ x y hx hy. sub x y) ab u v tt tt e

  -- It is strict where R is, unless b is a or stands left of it.
  pub strict : Strict R → (a ≡ b → ⊥) → R b a ≡ false → Strict (place R a b)
  strict s apart free =
      record { transitive = transitive s.transitive; irreflexive = λ x e. go x (placed_cases x x e) }
    where
      turn : (x : ℕ) → UpTo R x a → From R b x → ⊥
      turn x (inl p) (inl q) = apart (sym p ∙ q)
      turn x (inl p) (inr q) = never_both (subst (λ (w : ℕ). R b w ≡ true) p q) free
      turn x (inr p) (inl q) = never_both (subst (λ (w : ℕ). R w a ≡ true) q p) free
      turn x (inr p) (inr q) = never_both (s.transitive b x a q p) free

      go : (x : ℕ) → OldOrNew R a b x x → ⊥
      go x (inl p) = s.irreflexive x p
      go x (inr p) = turn x p.0 p.1

-- What is unplaced is so either way, and R has it neither way;
pub unplaced_back : (R : Relation) (u v : ℕ) → unplaced R u v ≡ true → unplaced R v u ≡ true
unfolding unplaced
unplaced_back R u v e = and_both (not (R v u)) _ (and_right (not (R u v)) _ e) (and_left (not (R u v)) _ e)

pub unplaced_not : (R : Relation) (u v : ℕ) → unplaced R u v ≡ true → R u v ≡ false
unfolding unplaced
unplaced_not R u v e = not-true (R u v) (and_left (not (R u v)) _ e)

pub unplaced_if : (R : Relation) (u v : ℕ) → R u v ≡ false → R v u ≡ false → unplaced R u v ≡ true
unfolding unplaced
unplaced_if R u v e f = and_both (not (R u v)) _ (not_so (R u v) e) (not_so (R v u) f)

-- what a placement leaves unplaced was so before.
pub unplaced_before : (R : Relation) (a b u v : ℕ) → unplaced (place R a b) u v ≡ true → unplaced R u v ≡ true
unplaced_before R a b u v e = unplaced_if R u v (neither u v e) (neither v u (unplaced_back (place R a b) u v e))
  where
    neither : (x y : ℕ) → unplaced (place R a b) x y ≡ true → R x y ≡ false
    neither x y f = not_passed (R x y) (λ p. never_both (keeps R a b x y p) (unplaced_not (place R a b) x y f))

-- So where unplaced pairs cost something, they do after a placement.
pub paid_placed : (n : ℕ) (c : Cost) (R : Relation) (a b : ℕ) → Paid n c R → Paid n c (place R a b)
paid_placed n c R a b paid =
    record { at_least_one = λ u v hu hv d e. paid.at_least_one u v hu hv d (unplaced_before R a b u v e) }

-- What has been spent grows by the price of what is placed more,
pub spent_more : (n : ℕ) (c : Cost) (R S : Relation) → ((u v : ℕ) → u < n → v < n → R u v ≡ true → S u v ≡ true)
    → spent n c S ≡ spent n c R + price n c R S
unfolding spent price
spent_more n c R S sub =
    pair_sum_cong _ _ n (λ u v hu hv. only_if_wider (R u v) (S u v) (c u v) (sub u v hu hv))
    ∙ pair_sum_add (λ u v. only_if (R u v) (c u v)) (λ u v. only_if (S u v && not (R u v)) (c u v)) n

-- by a placement as by any more;
pub spent_placed : (n : ℕ) (c : Cost) (R : Relation) (a b : ℕ) → spent n c (place R a b) ≡ spent n c R + price n c R (place R a b)
spent_placed n c R a b = spent_more n c R (place R a b) (λ u v hu hv e. keeps R a b u v e)

-- and a placement's price is at least what the pair itself costs.
pub price_pair : (n : ℕ) (c : Cost) (R : Relation) (a b : ℕ) → a < n → b < n → R a b ≡ false → c a b ≤ price n c R (place R a b)
unfolding price
price_pair n c R a b ha hb free =
    omega (
      arith,
      only_if_so (c a b) (and_both (place R a b a b) _ (placed R a b) (not_so (R a b) free)),
      pair_sum_term (λ u v. only_if (place R a b u v && not (R u v)) (c u v)) n a b ha hb,
    )

-- Two outlets that R leaves unplaced: either may be placed left of the other.
pub record UnplacedPair (n : ℕ) (R : Relation) (x y : ℕ) : Type 0 where
  pub x_below : x < n
  pub y_below : y < n
  pub apart : x ≡ y → ⊥
  pub free : unplaced R x y ≡ true

module _ {n : ℕ} {R : Relation} {x y : ℕ} (p : UnplacedPair n R x y) where
  pub turned : UnplacedPair n R y x
  turned = record { x_below = p.y_below; y_below = p.x_below; apart = λ e. p.apart (sym e); free = unplaced_back R x y p.free }

  -- Placed, they leave a strict relation strict,
  pub strict_placed : Strict R → Strict (place R x y)
  strict_placed s = strict R x y s p.apart (unplaced_not R y x (unplaced_back R x y p.free))

  -- and cost what the pair itself does or more, which is something where unplaced pairs cost something.
  pub cost_some : (c : Cost) → Paid n c R → 1 ≤ c x y
  cost_some c paid = paid.at_least_one x y p.x_below p.y_below p.apart p.free

  pub price_own : (c : Cost) → c x y ≤ price n c R (place R x y)
  price_own c = price_pair n c R x y p.x_below p.y_below (unplaced_not R x y p.free)

  pub price_some : (c : Cost) → Paid n c R → 1 ≤ price n c R (place R x y)
  price_some c paid = omega (arith, price_own c, cost_some c paid)
