-- Which outlet stands left of which in a row: for a row put together from parts, and where none stands twice. In an order it is a strict relation,
-- and total: of two outlets exactly one stands left of the other.
use mathlib.Core.Bool.{true, false, ◌&&◌, false≢true}
use mathlib.Core.List.{List, [], ◌∷◌, ◌++◌}
use mathlib.Core.Logic.{◌⊎◌, inl, inr, ⊎_elim}
use mathlib.Core.Path.{◌≡◌, sym, ◌∙◌}
use Prim.Native.Nat.{ℕ, ◌<◌}
use native.Mathlib.Omega.{arith}
use native.Mathlib.Nat.{eq-zero-or-pos}
use borrow.Author.Tests.{eqb-true, eq-eqb, ltb-true, lt-ltb}
use lib.Dec.{eqb, ltb}
use Rattle.rules.specs.Crossing.{IsOrder, times, stands}
use Rattle.rules.proofs.Sums.{and_left, and_right}
use Rattle.laws.proofs.Terms.{Strict}
use Rattle.laws.proofs.Tests.{OneOf, or_cases, or_first, or_second, and_both, not_passed}
use Rattle.laws.proofs.Lists.{times_none, times_here, times_tail, times-cases, times-append, NoRepeat, no_repeat_tail}
use Rattle.laws.proofs.Orders.{once_at_most}

-- In an empty row nothing stands; the first of a row stands left of all the others, and those as they stand among themselves.
pub stands-none : (u v : ℕ) → stands [] u v ≡ true → ⊥
unfolding stands
stands-none u v e = false≢true e

pub stands_head : (a : ℕ) (l : List ℕ) (u v : ℕ) → a ≡ u → 0 < times v l → stands (a ∷ l) u v ≡ true
unfolding stands
stands_head a l u v e h = or_first (eqb a u && ltb 0 (times v l)) _ (and_both _ _ (eq-eqb a u e) (lt-ltb 0 (times v l) h))

pub stands_tail : (a : ℕ) (l : List ℕ) (u v : ℕ) → stands l u v ≡ true → stands (a ∷ l) u v ≡ true
unfolding stands
stands_tail a l u v e = or_second (eqb a u && ltb 0 (times v l)) _ e

-- (u is the first, and v one of the others; or both are others)
pub data StandsCons (a : ℕ) (l : List ℕ) (u v : ℕ) : Type 0 where
  head : a ≡ u → 0 < times v l → StandsCons a l u v
  tail : stands l u v ≡ true → StandsCons a l u v

pub stands-cases : (a : ℕ) (l : List ℕ) (u v : ℕ) → stands (a ∷ l) u v ≡ true → StandsCons a l u v
unfolding stands
stands-cases a l u v e =
    elim (or_cases (eqb a u && ltb 0 (times v l)) _ e) [
      | inl p ↦ head (eqb-true a u (and_left (eqb a u) _ p)) (ltb-true 0 (times v l) (and_right (eqb a u) _ p))
      | inr q ↦ tail q
    ]

-- Both stand in the row.
pub stands-times : (l : List ℕ) (u v : ℕ) → stands l u v ≡ true → (0 < times u l) × (0 < times v l)
stands-times [] u v e = absurd (stands-none u v e)
stands-times (a ∷ l) u v e = go (stands-cases a l u v e) (stands-times l u v)
  where
    go : StandsCons a l u v → (stands l u v ≡ true → (0 < times u l) × (0 < times v l)) → (0 < times u (a ∷ l)) × (0 < times v (a ∷ l))
    go (head e h) rest = omega (arith, times_here u a l e, times_tail v a l)
    go (tail s) rest = omega (arith, rest s, times_tail u a l, times_tail v a l)

-- In a row of two parts a pair stands in the first, in the second, or across,
pub data StandsIn (l m : List ℕ) (u v : ℕ) : Type 0 where
  first : stands l u v ≡ true → StandsIn l m u v
  across : 0 < times u l → 0 < times v m → StandsIn l m u v
  second : stands m u v ≡ true → StandsIn l m u v

pub stands_parts : (l m : List ℕ) (u v : ℕ) → stands (l ++ m) u v ≡ true → StandsIn l m u v
stands_parts [] m u v e = second e
stands_parts (a ∷ l) m u v e = go (stands-cases a (l ++ m) u v e) (stands_parts l m u v)
  where
    go : StandsCons a (l ++ m) u v → (stands (l ++ m) u v ≡ true → StandsIn l m u v) → StandsIn (a ∷ l) m u v
    go (head e h) rest =
        elim (eq-zero-or-pos (times v l)) [
          | inl none ↦ across (omega (arith, times_here u a l e)) (omega (arith, times-append v l m))
          | inr some ↦ first (stands_head a l u v e some)
        ]
    go (tail s) rest =
        elim (rest s) [
          | first k ↦ first (stands_tail a l u v k)
          | across i j ↦ across (omega (arith, times_tail u a l)) j
          | second k ↦ second k
        ]

-- and the other way round.
pub stands_whole : (l m : List ℕ) (u v : ℕ) → StandsIn l m u v → stands (l ++ m) u v ≡ true
stands_whole [] m u v (first e) = absurd (stands-none u v e)
stands_whole [] m u v (across i j) = times_none u i
stands_whole [] m u v (second e) = e
stands_whole (a ∷ l) m u v (first e) = go (stands-cases a l u v e) (λ s. stands_whole l m u v (first s))
  where
    go : StandsCons a l u v → (stands l u v ≡ true → stands (l ++ m) u v ≡ true) → stands (a ∷ (l ++ m)) u v ≡ true
    go (head e h) rest = stands_head a (l ++ m) u v e (omega (arith, times-append v l m))
    go (tail s) rest = stands_tail a (l ++ m) u v (rest s)
stands_whole (a ∷ l) m u v (across i j) =
    ⊎_elim
    (λ e. stands_head a (l ++ m) u v e (omega (arith, times-append v l m)))
    (λ h. stands_tail a (l ++ m) u v (stands_whole l m u v (across h j)))
    (times-cases u a l i)
stands_whole (a ∷ l) m u v (second e) = stands_tail a (l ++ m) u v (stands_whole l m u v (second e))

-- Of two that stand in a row one stands left of the other,
abbrev pub OneFirst : List ℕ → ℕ → ℕ → Type 0
OneFirst l u v = (stands l u v ≡ true) ⊎ (stands l v u ≡ true)

pub stands_total : (l : List ℕ) (u v : ℕ) → (u ≡ v → ⊥) → 0 < times u l → 0 < times v l → OneFirst l u v
stands_total [] u v apart hu hv = times_none u hu
stands_total (a ∷ l) u v apart hu hv = go (times-cases u a l hu) (times-cases v a l hv) (stands_total l u v apart)
  where
    go : (a ≡ u) ⊎ (0 < times u l) → (a ≡ v) ⊎ (0 < times v l) → (0 < times u l → 0 < times v l → OneFirst l u v) → OneFirst (a ∷ l) u v
    go (inl e) (inl d) rest = absurd (apart (sym e ∙ d))
    go (inl e) (inr h) rest = inl (stands_head a l u v e h)
    go (inr h) (inl d) rest = inr (stands_head a l v u d h)
    go (inr h) (inr k) rest = ⊎_elim (λ s. inl (stands_tail a l u v s)) (λ s. inr (stands_tail a l v u s)) (rest h k)

-- and, where none stands twice, none left of itself, and left of left is left.
not_twice : (a : ℕ) (l : List ℕ) → NoRepeat (a ∷ l) → (u : ℕ) → a ≡ u → 0 < times u l → ⊥
not_twice a l once u e h = omega (arith, once u, times_here u a l e)

not_itself : (l : List ℕ) → NoRepeat l → (u : ℕ) → stands l u u ≡ true → ⊥
not_itself [] once u e = stands-none u u e
not_itself (a ∷ l) once u e =
    elim (stands-cases a l u u e) [ head p h ↦ not_twice a l once u p h | tail s ↦ not_itself l (no_repeat_tail a l once) u s ]

onward : (l : List ℕ) → NoRepeat l → (u v w : ℕ) → stands l u v ≡ true → stands l v w ≡ true → stands l u w ≡ true
onward [] once u v w e d = absurd (stands-none u v e)
onward (a ∷ l) once u v w e d = go (stands-cases a l u v e) (stands-cases a l v w d) (onward l (no_repeat_tail a l once) u v w)
  where
    go : StandsCons a l u v → StandsCons a l v w → (stands l u v ≡ true → stands l v w ≡ true → stands l u w ≡ true) → stands (a ∷ l) u w ≡ true
    go (head p h) (head q k) rest = stands_head a l u w p k
    go (head p h) (tail s) rest = stands_head a l u w p (stands-times l v w s).1
    go (tail s) (head q k) rest = absurd (not_twice a l once v q (stands-times l u v s).1)
    go (tail s) (tail z) rest = stands_tail a l u w (rest s z)

module _ (n : ℕ) (l : List ℕ) (order : IsOrder n l) where
  -- What an order says of two outlets is a strict relation,
  pub stands_strict : Strict (stands l)
  stands_strict = record { transitive = onward l (once_at_most n l order); irreflexive = not_itself l (once_at_most n l order) }

  pub other_not : (u v : ℕ) → stands l u v ≡ true → stands l v u ≡ false
  other_not u v e = not_passed (stands l v u) (λ d. stands_strict.irreflexive u (stands_strict.transitive u v u e d))

  -- and total: of two outlets exactly one stands left of the other.
  pub exactly_one : (u v : ℕ) → u < n → v < n → (u ≡ v → ⊥) → OneOf (stands l u v) (stands l v u)
  exactly_one u v hu hv apart =
      elim (stands_total l u v apart (omega (arith, order.once u hu)) (omega (arith, order.once v hv)))
      [ inl p ↦ inl (p, other_not u v p) | inr p ↦ inr (other_not v u p, p) ]
