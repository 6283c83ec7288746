-- The law of moving past a block (E). Let outlets a and b be movable, and let any outlets X stand between them: then moving a leftwards past all of X
-- adds no crossing, or moving b rightwards past all of X adds none.
use mathlib.Core.Path.{◌≡◌, refl, sym, ap}
use mathlib.Core.Bool.{Bool, true, false}
use mathlib.Core.List.{List}
use mathlib.Core.Logic.{◌⊎◌, inl, inr, ⊎_elim}
use Prim.Native.Nat.{ℕ, ◌*◌, ◌≤◌, ◌<◌}
use native.Mathlib.Omega.{arith}
use native.Mathlib.Nat.{le_of_eq, mul-le-mul_left}
use native.Mathlib.Decide.{dec_le}
use borrow.Author.Tests.{ltb-true, ltb-false}
use lib.Dec.{ltb}
use Rattle.rules.specs.Sum.{sum, only_if}
use Rattle.rules.specs.Crossing.{Profile, Cost, places, hoses, cross, right_of}
use Rattle.rules.proofs.Sums.{sum_mono, sum-none, sum_scale, sum_upto, sum_rest}
use Rattle.laws.proofs.Lists.{left_of, right_of_mono, right_of_scale}
use Rattle.laws.proofs.Moving.{Movable, bare_first, bare_second, free, equal, Past}
use Rattle.laws.proofs.Cross.{Equal, Parted, parted, cross_equal, cross_bare_first, cross_bare_second}

-- an outlet without hoses crosses nothing: so there are two cases
free_or_equal : (p q : Profile) → Movable p q → (cross p q ≡ 0) ⊎ Equal p q
free_or_equal p q (bare_first e) = inl (cross_bare_first p q e)
free_or_equal p q (bare_second e) = inl (cross_bare_second p q e)
free_or_equal p q (free e) = inl e
free_or_equal p q (equal e) = inr e

-- movable outlets pay no more this way than the other
pub cheaper : (p q : Profile) → Movable p q → cross p q ≤ cross q p
cheaper p q m = ⊎_elim (λ e. omega arith) (λ e. le_of_eq (cross_equal p q q p e (λ x l. sym (e x l)))) (free_or_equal p q m)

-- what it costs that one outlet stands left of another: their cross value
abbrev pub cost_of : (ℕ → Profile) → Cost
cost_of outlet a b = cross (outlet a) (outlet b)

-- the hoses of r right of place t (those left of it are `sum r t`)
right_hoses : ℕ → Profile → ℕ
right_hoses t r = sum (λ x. only_if (ltb t x) (r x)) places

counted≤ : (b : Bool) (y k m : ℕ) → (b ≡ true → k ≤ m) → k * only_if b y ≤ y * m
unfolding only_if
counted≤ true y k m h = omega (arith, mul-le-mul_left y (h refl))
counted≤ false y k m h = omega arith

≤counted : (b : Bool) (y k m : ℕ) → (b ≡ true → m ≤ k) → (b ≡ false → m ≡ 0) → y * m ≤ k * only_if b y
unfolding only_if
≤counted true y k m h none = omega (arith, mul-le-mul_left y (h refl))
≤counted false y k m h none = omega (arith, ap (λ (z : ℕ). y * z) (none refl))

-- an outlet with no hose right of t crosses, as the left one, at most r's hoses left of t, and, as the right one, at least those right of t
module _ (p : Profile) (t : ℕ) (none : (x : ℕ) → t < x → x < places → p x ≡ 0) (r : Profile) where
  first≤ : cross p r ≤ hoses p * sum r t
  unfolding cross hoses
  first≤ = omega (arith, sum_mono (λ x. p x * sum r x) (λ x. sum r t * p x) places each, sum_scale (sum r t) p places)
    where
      each : (x : ℕ) → x < places → p x * sum r x ≤ sum r t * p x
      each x l =
          elim (dec_le x t) [
            | yes h ↦ omega (arith, mul-le-mul_left (p x) (sum_upto r x t h))
            | no h ↦ omega (arith, ap (λ (k : ℕ). k * sum r x) (none x (omega arith) l))
          ]

  ≤first : hoses p * right_hoses t r ≤ cross r p
  unfolding cross hoses right_hoses
  ≤first =
      let counted : ℕ → ℕ = λ x. only_if (ltb t x) (r x) in
      omega (arith, sum_mono (λ x. hoses p * counted x) (λ x. r x * sum p x) places each, sum_scale (hoses p) counted places)
    where
      each : (x : ℕ) → x < places → hoses p * only_if (ltb t x) (r x) ≤ r x * sum p x
      each x l =
          counted≤ (ltb t x) (r x) (hoses p) (sum p x)
          (λ e. le_of_eq (sum_rest p x places (omega arith) (λ y m n. none y (omega (arith, ltb-true t x e)) n)))

-- an outlet with no hose left of t crosses, as the right one, at most r's hoses right of t, and, as the left one, at least those left of t
module _ (q : Profile) (t : ℕ) (none : (y : ℕ) → y < t → q y ≡ 0) (r : Profile) where
  second≤ : cross r q ≤ hoses q * right_hoses t r
  unfolding cross hoses right_hoses
  second≤ =
      let counted : ℕ → ℕ = λ x. only_if (ltb t x) (r x) in
      omega (arith, sum_mono (λ x. r x * sum q x) (λ x. hoses q * counted x) places each, sum_scale (hoses q) counted places)
    where
      each : (x : ℕ) → x < places → r x * sum q x ≤ hoses q * only_if (ltb t x) (r x)
      each x l =
          ≤counted (ltb t x) (r x) (hoses q) (sum q x)
          (λ e. sum_upto q x places (omega arith))
          (λ e. sum-none q x (λ y m. none y (omega (arith, ltb-false t x e))))

  ≤second : hoses q * sum r t ≤ cross q r
  unfolding cross hoses
  ≤second = omega (arith, sum_mono (λ x. sum r t * q x) (λ x. q x * sum r x) places each, sum_scale (sum r t) q places)
    where
      each : (x : ℕ) → x < places → sum r t * q x ≤ q x * sum r x
      each x l =
          elim (dec_le t x) [
            | yes h ↦ omega (arith, mul-le-mul_left (q x) (sum_upto r t x h))
            | no h ↦ omega (arith, ap (λ (k : ℕ). sum r t * k) (none x (omega arith)))
          ]

-- from outlets to a block: each of X costs z at most h times what it has of `few` under c, and at least h times what it has of `many` under d;
-- where X has in all no more of the former than of the latter, it costs no more under c
between : (c d few many : Cost) (z h : ℕ) → ((v : ℕ) → c z v ≤ h * few 0 v) → ((v : ℕ) → h * many 0 v ≤ d z v)
    → (X : List ℕ) → right_of few 0 X ≤ right_of many 0 X → right_of c z X ≤ right_of d z X
between c d few many z h most least X less =
    omega (
      arith,
      right_of_mono c (λ u v. h * few u v) z 0 most X,
      right_of_scale h few 0 X,
      mul-le-mul_left h less,
      right_of_scale h many 0 X,
      right_of_mono (λ u v. h * many u v) d 0 z least X,
    )

-- a place t parts the two: the hoses of X on its two sides decide
past_parted : (outlet : ℕ → Profile) (a b : ℕ) → Parted (outlet a) (outlet b) → (X : List ℕ) → Past (cost_of outlet) a b X
unfolding left_of
past_parted outlet a b s X =
    let t = s.place in
    let c = cost_of outlet in
    let turned : Cost = λ u v. c v u in
    let lefts : Cost = λ u v. sum (outlet v) t in
    let rights : Cost = λ u v. right_hoses t (outlet v) in
    let ha = hoses (outlet a) in
    let hb = hoses (outlet b) in
    let a_pays : (v : ℕ) → c a v ≤ ha * lefts 0 v = λ v. first≤ (outlet a) t s.none_right (outlet v) in
    let a_paid : (v : ℕ) → ha * rights 0 v ≤ c v a = λ v. ≤first (outlet a) t s.none_right (outlet v) in
    let b_paid : (v : ℕ) → c v b ≤ hb * rights 0 v = λ v. second≤ (outlet b) t s.none_left_of (outlet v) in
    let b_pays : (v : ℕ) → hb * lefts 0 v ≤ c b v = λ v. ≤second (outlet b) t s.none_left_of (outlet v) in
    elim (dec_le (right_of lefts 0 X) (right_of rights 0 X)) [
      | yes h ↦ inl (omega (arith, between c turned lefts rights a ha a_pays a_paid X h))
      | no h ↦ inr (omega (arith, between turned c rights lefts b hb b_paid b_pays X (omega arith)))
    ]

-- equal outlets: what the one way adds, the other takes away
past_equal : (outlet : ℕ → Profile) (a b : ℕ) → Equal (outlet a) (outlet b) → (X : List ℕ) → Past (cost_of outlet) a b X
unfolding left_of
past_equal outlet a b e X =
    let c = cost_of outlet in
    let turned : Cost = λ u v. c v u in
    elim (dec_le (right_of c a X) (left_of c a X)) [
      | yes h ↦ inl h
      | no h ↦ inr (omega (arith, right_of_mono c c a b as_first X, right_of_mono turned turned b a as_second X))
    ]
  where
    as_first : (v : ℕ) → cross (outlet a) (outlet v) ≤ cross (outlet b) (outlet v)
    as_first v = le_of_eq (cross_equal (outlet a) (outlet b) (outlet v) (outlet v) e (λ x l. refl))

    as_second : (v : ℕ) → cross (outlet v) (outlet b) ≤ cross (outlet v) (outlet a)
    as_second v = le_of_eq (cross_equal (outlet v) (outlet v) (outlet b) (outlet a) (λ x l. refl) (λ x l. sym (e x l)))

pub past : (outlet : ℕ → Profile) (a b : ℕ) → Movable (outlet a) (outlet b) → (X : List ℕ) → Past (cost_of outlet) a b X
past outlet a b m X =
    ⊎_elim
    (λ e. past_parted outlet a b (parted (outlet a) (outlet b) e) X)
    (λ e. past_equal outlet a b e X)
    (free_or_equal (outlet a) (outlet b) m)
