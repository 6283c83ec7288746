-- Laws of the tools of `Sum.antt`: a value that counts only where a test passes, sums, sums over pairs, the least number that passes a test, tests
-- over the numbers below n.
use mathlib.Core.Path.{◌≡◌, refl, sym, ◌∙◌, ap, ap₂, subst}
use mathlib.Core.Bool.{Bool, true, false, not, ◌&&◌, false≢true}
use mathlib.Core.Logic.{◌⊎◌, inl, inr}
use Prim.Native.Nat.{ℕ, zero, suc, ◌+◌, ◌*◌, ◌≤◌, ◌<◌}
use native.Mathlib.Omega.{arith}
use native.Mathlib.Nat.{le_refl, eq-zero-or-pos}
use native.Mathlib.Decide.{ℕ_discrete, dec_lt, le_ind}
use borrow.Author.Tests.{eq-eqb, ne_eqb, lt-ltb, le-ltb}
use lib.Dec.{eqb, ltb}
use Rattle.rules.specs.Sum.{sum, pair_sum, every, least, only_if}

-- both halves of a conjunction
pub and_left : (a b : Bool) → (a && b) ≡ true → a ≡ true
and_left true b e = refl
and_left false b e = e

pub and_right : (a b : Bool) → (a && b) ≡ true → b ≡ true
and_right true b e = e
and_right false b e = absurd (false≢true e)

-- A value that counts only where a test passes

pub only_if_so : {t : Bool} (x : ℕ) → t ≡ true → only_if t x ≡ x
unfolding only_if
only_if_so x e = rw e

pub only_if_not : {t : Bool} (x : ℕ) → t ≡ false → only_if t x ≡ 0
unfolding only_if
only_if_not x e = rw e

pub only_if_most : (t : Bool) (x : ℕ) → only_if t x ≤ x
unfolding only_if
only_if_most true x = omega arith
only_if_most false x = omega arith

pub only_if_one : (t : Bool) (x : ℕ) → only_if t 1 * x ≡ only_if t x
unfolding only_if
only_if_one true x = omega arith
only_if_one false x = omega arith

-- under two tests, whichever is asked first
pub only_if_and : (s t : Bool) (x : ℕ) → only_if (s && t) x ≡ only_if s (only_if t x)
unfolding only_if
only_if_and true t x = refl
only_if_and false t x = refl

pub only_if_under : (s t : Bool) (x : ℕ) → only_if (s && t) x ≡ only_if t (only_if s x)
unfolding only_if
only_if_under true t x = refl
only_if_under false true x = refl
only_if_under false false x = refl

-- exactly one of two tests passes: of two values that are equal, exactly one is counted
abbrev pub OneOf : Bool → Bool → Type 0
OneOf s t = ((s ≡ true) × (t ≡ false)) ⊎ ((s ≡ false) × (t ≡ true))

pub only_if_one_of : (s t : Bool) (x y : ℕ) → x ≡ y → OneOf s t → only_if s x + only_if t y ≡ x
only_if_one_of s t x y e (inl p) = omega (arith, only_if_so x p.0, only_if_not y p.1)
only_if_one_of s t x y e (inr p) = omega (arith, only_if_not x p.0, only_if_so y p.1)

-- what counts in a wider test is what counts in a narrower one, and what the wider one has besides
pub only_if_wider : (s t : Bool) (x : ℕ) → (s ≡ true → t ≡ true) → only_if t x ≡ only_if s x + only_if (t && not s) x
unfolding only_if
only_if_wider true true x h = omega arith
only_if_wider true false x h = absurd (false≢true (h refl))
only_if_wider false true x h = omega arith
only_if_wider false false x h = omega arith

-- Sums

pub sum_mono : (f g : ℕ → ℕ) (n : ℕ) → ((x : ℕ) → x < n → f x ≤ g x) → sum f n ≤ sum g n
unfolding sum
sum_mono f g zero h = le_refl 0
sum_mono f g (suc n) h = omega (arith, h n (le_refl (suc n)), sum_mono f g n (λ x l. h x (omega arith)))

pub sum_cong : (f g : ℕ → ℕ) (n : ℕ) → ((x : ℕ) → x < n → f x ≡ g x) → sum f n ≡ sum g n
unfolding sum
sum_cong f g zero h = refl
sum_cong f g (suc n) h = omega (arith, h n (le_refl (suc n)), sum_cong f g n (λ x l. h x (omega arith)))

pub sum_add : (f g : ℕ → ℕ) (n : ℕ) → sum (λ x. f x + g x) n ≡ sum f n + sum g n
unfolding sum
sum_add f g zero = refl
sum_add f g (suc n) = omega (arith, sum_add f g n)

-- with more terms, with more that are nothing, and with nothing else
pub sum_upto : (f : ℕ → ℕ) (m n : ℕ) → m ≤ n → sum f m ≤ sum f n
unfolding sum
sum_upto f m n h = le_ind (λ (k : ℕ). sum f m ≤ sum f k) (le_refl (sum f m)) (λ k l ih. omega arith) n h

pub sum_rest : (f : ℕ → ℕ) (m n : ℕ) → m ≤ n → ((x : ℕ) → m ≤ x → x < n → f x ≡ 0) → sum f n ≡ sum f m
unfolding sum
sum_rest f m n h none =
    le_ind (λ (k : ℕ). ((x : ℕ) → m ≤ x → x < k → f x ≡ 0) → sum f k ≡ sum f m)
    (λ none. refl)
    (λ k l ih none. omega (arith, none k l (le_refl (suc k)), ih (λ x a b. none x a (omega arith))))
    n h none

pub sum-none : (f : ℕ → ℕ) (n : ℕ) → ((x : ℕ) → x < n → f x ≡ 0) → sum f n ≡ 0
unfolding sum
sum-none f n h = sum_rest f 0 n (omega arith) (λ x l. h x)

-- one for each
pub sum_ones : (f : ℕ → ℕ) (n : ℕ) → ((x : ℕ) → x < n → f x ≡ 1) → sum f n ≡ n
unfolding sum
sum_ones f zero h = refl
sum_ones f (suc n) h = omega (arith, h n (le_refl (suc n)), sum_ones f n (λ x l. h x (omega arith)))

pub sum_scale : (k : ℕ) (f : ℕ → ℕ) (n : ℕ) → sum (λ x. k * f x) n ≡ k * sum f n
unfolding sum
sum_scale k f zero = omega arith
sum_scale k f (suc n) = omega (arith, sum_scale k f n)

-- one term is at most the sum
pub sum_term : (f : ℕ → ℕ) (n x : ℕ) → x < n → f x ≤ sum f n
unfolding sum
sum_term f n x h = omega (arith, sum_upto f (suc x) n h)

-- a sum that is not 0 has a last term that is not 0
pub record Last (f : ℕ → ℕ) (n : ℕ) : Type 0 where
  pub at : ℕ
  pub below : at < n
  pub some : 0 < f at
  pub none_after : (x : ℕ) → at < x → x < n → f x ≡ 0

pub last_of : (f : ℕ → ℕ) (n : ℕ) → 0 < sum f n → Last f n
unfolding sum
last_of f zero h = absurd (omega arith)
last_of f (suc n) h = go (eq-zero-or-pos (f n)) (last_of f n)
  where
    go : (f n ≡ 0) ⊎ (0 < f n) → (0 < sum f n → Last f n) → Last f (suc n)
    go (inr here) earlier = record { at = n; below = le_refl (suc n); some = here; none_after = λ x l m. absurd (omega arith) }
    go (inl e) earlier =
        let r : Last f n = earlier (omega arith) in
        record {
          at = r.at;
          below = omega arith;
          some = r.some;
          none_after = λ x l m. elim (ℕ_discrete x n) [ yes q ↦ ap f q ∙ e | no q ↦ r.none_after x l (omega arith) ];
        }

-- a test of the whole sum
pub sum_only_if : (t : Bool) (f : ℕ → ℕ) (n : ℕ) → sum (λ x. only_if t (f x)) n ≡ only_if t (sum f n)
unfolding only_if
sum_only_if true f n = refl
sum_only_if false f n = sum-none (λ x. 0) n (λ x h. refl)

-- of the terms none is picked out, or one, or those below m
pub sum_past : (f : ℕ → ℕ) (n a : ℕ) → n ≤ a → sum (λ u. only_if (eqb a u) (f u)) n ≡ 0
sum_past f n a h = sum-none _ n (λ u l. only_if_not (f u) (ne_eqb a u (omega arith)))

pub sum_at : (f : ℕ → ℕ) (n a : ℕ) → a < n → sum (λ u. only_if (eqb a u) (f u)) n ≡ f a
unfolding sum
sum_at f n a h =
    sum_rest (λ u. only_if (eqb a u) (f u)) (suc a) n h (λ u l b. only_if_not (f u) (ne_eqb a u (omega arith)))
    ∙ omega (arith, sum_past f a a (le_refl a), only_if_so (f a) (eq-eqb a a refl))

pub sum_below : (f : ℕ → ℕ) (n m : ℕ) → m ≤ n → sum (λ x. only_if (ltb x m) (f x)) n ≡ sum f m
sum_below f n m h =
    sum_rest (λ x. only_if (ltb x m) (f x)) m n h (λ x l b. only_if_not (f x) (le-ltb x m l))
    ∙ sum_cong _ f m (λ x l. only_if_so (f x) (lt-ltb x m l))

-- rows or columns first
pub sum-swap : (f : ℕ → ℕ → ℕ) (n m : ℕ) → sum (λ u. sum (λ v. f u v) m) n ≡ sum (λ v. sum (λ u. f u v) n) m
unfolding sum
sum-swap f zero m = sym (sum-none (λ v. 0) m (λ v h. refl))
sum-swap f (suc n) m = omega (arith, sum-swap f n m, sum_add (λ v. sum (λ u. f u v) n) (λ v. f n v) m)

-- Sums over pairs

pub pair_sum_cong : (f g : ℕ → ℕ → ℕ) (n : ℕ) → ((u v : ℕ) → u < n → v < n → f u v ≡ g u v) → pair_sum f n ≡ pair_sum g n
unfolding pair_sum
pair_sum_cong f g n h = sum_cong _ _ n (λ u hu. sum_cong (f u) (g u) n (λ v hv. h u v hu hv))

pub pair_sum_mono : (f g : ℕ → ℕ → ℕ) (n : ℕ) → ((u v : ℕ) → u < n → v < n → f u v ≤ g u v) → pair_sum f n ≤ pair_sum g n
unfolding pair_sum
pair_sum_mono f g n h = sum_mono _ _ n (λ u hu. sum_mono (f u) (g u) n (λ v hv. h u v hu hv))

pub pair_sum_add : (f g : ℕ → ℕ → ℕ) (n : ℕ) → pair_sum (λ u v. f u v + g u v) n ≡ pair_sum f n + pair_sum g n
unfolding pair_sum
pair_sum_add f g n =
    sum_cong _ _ n (λ u h. sum_add (f u) (g u) n)
    ∙ sum_add (λ u. sum (f u) n) (λ u. sum (g u) n) n

pub pair_sum_term : (f : ℕ → ℕ → ℕ) (n u v : ℕ) → u < n → v < n → f u v ≤ pair_sum f n
unfolding pair_sum
pair_sum_term f n u v hu hv = omega (arith, sum_term (f u) n v hv, sum_term (λ w. sum (λ z. f w z) n) n u hu)

-- turned round
pub pair_sum_mirror : (f : ℕ → ℕ → ℕ) (n : ℕ) → pair_sum f n ≡ pair_sum (λ u v. f v u) n
unfolding pair_sum
pair_sum_mirror f n = sum-swap f n n

-- where f and g agree on each pair taken both ways together, their sums agree
pub pair_sum_both : (f g : ℕ → ℕ → ℕ) (n : ℕ) → ((u v : ℕ) → u < n → v < n → f u v + f v u ≡ g u v + g v u) → pair_sum f n ≡ pair_sum g n
pair_sum_both f g n h =
    omega (
      arith,
      pair_sum_mirror f n,
      pair_sum_mirror g n,
      pair_sum_add f (λ u v. f v u) n,
      pair_sum_add g (λ u v. g v u) n,
      pair_sum_cong (λ u v. f u v + f v u) (λ u v. g u v + g v u) n h,
    )

-- The least number that passes a test

-- by what the test says of 0
pub least_stop : (t : ℕ → Bool) (n : ℕ) → t 0 ≡ true → least t (suc n) ≡ 0
unfolding least
least_stop t n e = rw (e, least)

pub least_go : (t : ℕ → Bool) (n : ℕ) → t 0 ≡ false → least t (suc n) ≡ suc (least (λ i. t (suc i)) n)
unfolding least
least_go t n e = rw (e, least)

-- it is at most n; what stands before it does not pass; below n it passes
pub least-within : (t : ℕ → Bool) (n : ℕ) → least t n ≤ n
unfolding least
least-within t zero = le_refl 0
least-within t (suc n) = go (t 0) refl (least-within (λ i. t (suc i)) n)
  where
    go : (b : Bool) → t 0 ≡ b → least (λ i. t (suc i)) n ≤ n → least t (suc n) ≤ suc n
    go true e h = omega (arith, least_stop t n e)
    go false e h = omega (arith, least_go t n e)

pub least-before : (t : ℕ → Bool) (n i : ℕ) → i < least t n → t i ≡ false
unfolding least
least-before t zero i h = absurd (omega arith)
least-before t (suc n) i h = go (t 0) refl i h (λ j. least-before (λ x. t (suc x)) n j)
  where
    go : (b : Bool) → t 0 ≡ b → (i : ℕ) → i < least t (suc n) → ((j : ℕ) → j < least (λ x. t (suc x)) n → t (suc j) ≡ false) → t i ≡ false
    go true e i h ih = absurd (omega (arith, least_stop t n e))
    go false e zero h ih = e
    go false e (suc j) h ih = ih j (omega (arith, least_go t n e))

pub least_passes : (t : ℕ → Bool) (n : ℕ) → least t n < n → t (least t n) ≡ true
unfolding least
least_passes t zero h = absurd (omega arith)
least_passes t (suc n) h = go (t 0) refl h (least_passes (λ x. t (suc x)) n)
  where
    go : (b : Bool) → t 0 ≡ b → least t (suc n) < suc n → (least (λ x. t (suc x)) n < n → t (suc (least (λ x. t (suc x)) n)) ≡ true) → t (least t (suc n)) ≡ true
    go true e h ih = ap t (least_stop t n e) ∙ e
    go false e h ih = ap t (least_go t n e) ∙ ih (omega (arith, least_go t n e))

-- and no other number is so
pub least_is : (t : ℕ → Bool) (n m : ℕ) → m < n → t m ≡ true → ((i : ℕ) → i < m → t i ≡ false) → least t n ≡ m
least_is t zero m h p b = absurd (omega arith)
least_is t (suc n) zero h p b = least_stop t n p
least_is t (suc n) (suc m) h p b =
    least_go t n (b 0 (omega arith)) ∙ ap suc (least_is (λ x. t (suc x)) n m (omega arith) p (λ i l. b (suc i) (omega arith)))

pub least-none : (t : ℕ → Bool) (n : ℕ) → ((i : ℕ) → i < n → t i ≡ false) → least t n ≡ n
unfolding least
least-none t zero h = refl
least-none t (suc n) h =
    least_go t n (h 0 (omega arith)) ∙ ap suc (least-none (λ x. t (suc x)) n (λ i l. h (suc i) (omega arith)))

-- where one passes, the least is below n
pub least_below : (t : ℕ → Bool) (n i : ℕ) → i < n → t i ≡ true → least t n < n
least_below t n i h p =
    elim (dec_lt (least t n) n) [ yes l ↦ l | no l ↦ absurd (false≢true (sym (least-before t n i (omega arith)) ∙ p)) ]

-- tests that agree below n have one least number
pub least_cong : (s t : ℕ → Bool) (n : ℕ) → ((i : ℕ) → i < n → s i ≡ t i) → least s n ≡ least t n
unfolding least
least_cong s t zero h = refl
least_cong s t (suc n) h =
    ap₂ (λ (b : Bool) (m : ℕ). elim b [ true ↦ 0 | false ↦ suc m ]) (h 0 (omega arith))
    (least_cong (λ i. s (suc i)) (λ i. t (suc i)) n (λ i l. h (suc i) (omega arith)))

-- What holds of the numbers below n

-- and of n, holds below n + 1
pub one_more : (Q : ℕ → Type 0) (n : ℕ) → ((i : ℕ) → i < n → Q i) → Q n → (i : ℕ) → i < suc n → Q i
one_more Q n before last i h = elim (ℕ_discrete n i) [ yes same ↦ subst Q same last | no other ↦ before i (omega arith) ]

-- a test over all of them is the test at each
pub every_at : (t : ℕ → Bool) (n : ℕ) → every t n ≡ true → (i : ℕ) → i < n → t i ≡ true
unfolding every
every_at t zero e i h = absurd (omega arith)
every_at t (suc n) e i h =
    one_more (λ j. t j ≡ true) n (every_at t n (and_left (every t n) (t n) e)) (and_right (every t n) (t n) e) i h

pub every-all : (t : ℕ → Bool) (n : ℕ) → ((i : ℕ) → i < n → t i ≡ true) → every t n ≡ true
unfolding every
every-all t zero h = refl
every-all t (suc n) h = rw (every-all t n (λ i l. h i (omega arith)), h n (le_refl (suc n)))

pub every_cong : (s t : ℕ → Bool) (n : ℕ) → ((i : ℕ) → i < n → s i ≡ t i) → every s n ≡ every t n
unfolding every
every_cong s t zero h = refl
every_cong s t (suc n) h = ap₂ ◌&&◌ (every_cong s t n (λ i l. h i (omega arith))) (h n (omega arith))
