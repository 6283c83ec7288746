-- The laws of cross values: what cross(a, b) = 0 says of the places of two outlets' hoses, what it says that both values are 0, and what the two
-- values add up to. No law looks inside a profile; one, `same_bins_both`, asks that a place has at most one hose.
use mathlib.Core.Path.{◌≡◌, ap, ap₂}
use mathlib.Core.Bool.{true}
use mathlib.Core.Logic.{◌⊎◌, inl, inr}
use Prim.Native.Nat.{ℕ, zero, suc, ◌+◌, ◌*◌, ◌≤◌, ◌<◌}
use native.Mathlib.Omega.{arith}
use native.Mathlib.Nat.{mul-pos, eq-zero-or-pos}
use native.Mathlib.Decide.{dec_le}
use borrow.Author.Tests.{eqb-true, eq-eqb}
use lib.Dec.{eqb}
use Rattle.rules.specs.Sum.{sum}
use Rattle.rules.specs.Crossing.{Profile, places, hoses, cross}
use Rattle.rules.specs.Placement.{same_bins}
use Rattle.rules.proofs.Sums.{sum_cong, sum_term, Last, last_of, every_at, every-all}

-- Equal at every place: the same bins today, as many hoses in every chute tomorrow.
abbrev pub Equal : Profile → Profile → Type 0
Equal p q = (x : ℕ) → x < places → p x ≡ q x

pub same_bins_equal : (p q : Profile) → same_bins p q ≡ true → Equal p q
unfolding same_bins
same_bins_equal p q e x l = eqb-true (p x) (q x) (every_at (λ y. eqb (p y) (q y)) places e x l)

pub equal_same_bins : (p q : Profile) → Equal p q → same_bins p q ≡ true
unfolding same_bins
equal_same_bins p q e = every-all (λ y. eqb (p y) (q y)) places (λ x l. eq-eqb (p x) (q x) (e x l))

-- hoses and cross look at nothing but the places
pub hoses_equal : (p q : Profile) → Equal p q → hoses p ≡ hoses q
unfolding hoses
hoses_equal p q e = sum_cong p q places e

pub cross_equal : (p p' q q' : Profile) → Equal p p' → Equal q q' → cross p q ≡ cross p' q'
unfolding cross
cross_equal p p' q q' e d =
    sum_cong _ _ places (λ x l. ap₂ ◌*◌ (e x l) (sum_cong q q' x (λ y m. d y (omega arith))))

-- cross(a, b) > 0: some hose of a comes from a place right of some hose of b's,
pub record Crossed (p q : Profile) : Type 0 where
  pub right : ℕ
  pub left : ℕ
  pub on_row : right < places
  pub order : left < right
  pub hose_right : 0 < p right
  pub hose_left : 0 < q left

both_some : (m k : ℕ) → 0 < m * k → (0 < m) × (0 < k)
both_some zero k h = absurd (omega arith)
both_some (suc m) zero h = absurd (omega arith)
both_some (suc m) (suc k) h = omega arith

pub crossed : (p q : Profile) → 0 < cross p q → Crossed p q
unfolding cross
crossed p q h =
    let t : Last (λ x. p x * sum q x) places = last_of (λ x. p x * sum q x) places h in
    let both = both_some (p t.at) (sum q t.at) t.some in
    let s : Last q t.at = last_of q t.at both.1 in
    record { right = t.at; left = s.at; on_row = t.below; order = s.below; hose_right = both.0; hose_left = s.some }

-- and the other way round;
pub crossed_some : (p q : Profile) → Crossed p q → 0 < cross p q
unfolding cross
crossed_some p q w =
    let left : 0 < sum q w.right = omega (arith, w.hose_left, sum_term q w.right w.left w.order) in
    omega (arith, mul-pos w.hose_right left, sum_term (λ x. p x * sum q x) places w.right w.on_row)

-- cross(a, b) = 0: every place of a is at most every place of b,
pub apart : (p q : Profile) → cross p q ≡ 0 → (x y : ℕ) → x < places → 0 < p x → 0 < q y → x ≤ y
apart p q e x y l hx hy = elim (dec_le x y) [ yes h ↦ h | no h ↦ absurd (omega (arith, crossed_some p q (back (omega arith)))) ]
  where
    back : y < x → Crossed p q
    back m = record { right = x; left = y; on_row = l; order = m; hose_right = hx; hose_left = hy }

-- and the other way round;
pub apart_none : (p q : Profile) → ((x y : ℕ) → x < places → y < places → 0 < p x → 0 < q y → x ≤ y) → cross p q ≡ 0
apart_none p q h = elim (eq-zero-or-pos (cross p q)) [ inl none ↦ none | inr some ↦ absurd (never (crossed p q some)) ]
  where
    never : Crossed p q → ⊥
    never w = omega (arith, h w.right w.left w.on_row (omega (arith, w.order, w.on_row)) w.hose_right w.hose_left, w.order)

-- so an outlet without hoses crosses nothing, on either side.
pub cross_bare_first : (p q : Profile) → hoses p ≡ 0 → cross p q ≡ 0
unfolding hoses
cross_bare_first p q e = apart_none p q (λ x y l m hx hy. absurd (omega (arith, sum_term p places x l)))

pub cross_bare_second : (p q : Profile) → hoses q ≡ 0 → cross p q ≡ 0
unfolding hoses
cross_bare_second p q e = apart_none p q (λ x y l m hx hy. absurd (omega (arith, sum_term q places y m)))

-- cross(a, b) = 0 once more: there is a place that parts the two, with no hose of a right of it and no hose of b left of it
pub record Parted (p q : Profile) : Type 0 where
  pub place : ℕ
  pub on_row : place < places
  pub none_right : (x : ℕ) → place < x → x < places → p x ≡ 0
  pub none_left_of : (y : ℕ) → y < place → q y ≡ 0

pub parted : (p q : Profile) → cross p q ≡ 0 → Parted p q
unfolding hoses places
parted p q e = go (eq-zero-or-pos (hoses p))
  where
    go : (hoses p ≡ 0) ⊎ (0 < hoses p) → Parted p q
    go (inl none) =
        record {
          place = 0;
          on_row = omega arith;
          none_right = λ x l m. omega (arith, sum_term p places x m);
          none_left_of = λ y l. absurd (omega arith);
        }
    go (inr some) =
        let t : Last p places = last_of p places some in
        record {
          place = t.at;
          on_row = t.below;
          none_right = t.none_after;
          none_left_of = λ y l. let never : 0 < q y → ⊥ = λ hy. omega (arith, apart p q e t.at y t.below t.some hy) in omega arith;
        }

-- where both values are 0 and the second has hoses, it has one at each place of the first
also_there : (p q : Profile) → cross p q ≡ 0 → cross q p ≡ 0 → 0 < hoses q → (x : ℕ) → x < places → 0 < p x → 0 < q x
unfolding hoses
also_there p q e d hq x l hx =
    let t : Last q places = last_of q places hq in
    let same : x ≡ t.at = omega (arith, apart p q e x t.at l hx t.some, apart q p d t.at x t.below t.some hx) in
    omega (arith, t.some, ap q same)

-- Both values 0 of two outlets with hoses means the same bins, where a place has at most one hose.
pub same_bins_both : (p q : Profile) → ((x : ℕ) → p x ≤ 1) → ((x : ℕ) → q x ≤ 1)
    → 0 < hoses p → 0 < hoses q → cross p q ≡ 0 → cross q p ≡ 0 → same_bins p q ≡ true
same_bins_both p q p1 q1 hp hq e d = equal_same_bins p q (λ x l. at x l (eq-zero-or-pos (p x)) (eq-zero-or-pos (q x)))
  where
    at : (x : ℕ) → x < places → (p x ≡ 0) ⊎ (0 < p x) → (q x ≡ 0) ⊎ (0 < q x) → p x ≡ q x
    at x l (inl a) (inl b) = omega arith
    at x l (inl a) (inr b) = absurd (omega (arith, also_there q p d e hp x l b))
    at x l (inr a) (inl b) = absurd (omega (arith, also_there p q e d hq x l a))
    at x l (inr a) (inr b) = omega (arith, p1 x, q1 x)

-- What the two values of a pair add up to: hoses against hoses, less those of one place
shared_to : (p q : Profile) (n : ℕ) → sum (λ x. p x * sum q x) n + sum (λ x. q x * sum p x) n + sum (λ x. p x * q x) n ≡ sum p n * sum q n
unfolding sum
shared_to p q zero = omega arith
shared_to p q (suc n) = omega (arith, shared_to p q n)

pub cross_sum : (p q : Profile) → cross p q + cross q p + sum (λ x. p x * q x) places ≡ hoses p * hoses q
unfolding cross hoses
cross_sum p q = shared_to p q places
