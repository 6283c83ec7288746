-- The test for number 7 says of a row exactly what the rules call an order, and an order of n outlets has n entries.
-- Why: over the outlets below n, the times that each stands in a row add up to at most the row's length.
use mathlib.Core.Path.{◌≡◌, refl, sym, ◌∙◌, ap}
use mathlib.Core.Bool.{Bool, true, false, ◌&&◌}
use mathlib.Core.List.{List, [], ◌∷◌}
use Prim.Native.Nat.{ℕ, zero, suc, ◌+◌, ◌≤◌, ◌<◌}
use native.Mathlib.Decide.{ℕ_discrete, dec_lt}
use native.Mathlib.Omega.{arith}
use native.Mathlib.Nat.{le_refl}
use lib.Dec.{eqb}
use lib.ListN.{length, get_or}
use borrow.Author.Tests.{eq-eqb, ne_eqb, eqb-true, not-false}
use Rattle.rules.specs.Sum.{sum, every, only_if}
use Rattle.rules.specs.Crossing.{times, IsOrder}
use Rattle.rules.specs.Numbers.{not_an_order}
use Rattle.rules.proofs.Sums.{sum-none, sum_add, every_at, every-all, and_left, and_right}

-- the times that an outlet stands in a row, by the row's first entry
pub times_same : (o x : ℕ) (l : List ℕ) → x ≡ o → times o (x ∷ l) ≡ suc (times o l)
unfolding times only_if
times_same o x l e = rw (eq-eqb x o e) (omega arith)

pub times-other : (o x : ℕ) (l : List ℕ) → (x ≡ o → ⊥) → times o (x ∷ l) ≡ times o l
unfolding times only_if
times-other o x l n = rw (ne_eqb x o n) (omega arith)

-- of an entry once at least
pub times_entry : (l : List ℕ) (p : ℕ) → p < length l → 0 < times (get_or l p 0) l
times_entry [] p h = absurd (omega arith)
times_entry (x ∷ l) zero h = omega (arith, times_same x x l refl)
times_entry (x ∷ l) (suc p) h =
    elim (ℕ_discrete x (get_or l p 0)) [
      | yes e ↦ omega (arith, times_same (get_or l p 0) x l e)
      | no n ↦ omega (arith, times-other (get_or l p 0) x l n, times_entry l p (omega arith))
    ]

-- of an outlet that has no place, never: whoever stands in the row has a place
pub times-place : (o : ℕ) (l : List ℕ) → 0 < times o l → (p : ℕ) × (p < length l) × (get_or l p 0 ≡ o)
unfolding times
times-place o [] h = absurd (omega arith)
times-place o (x ∷ l) h =
    elim (ℕ_discrete x o) [
      | yes e ↦ (0, omega arith, e)
      | no n ↦
          let later = times-place o l (omega (arith, times-other o x l n)) in
          (suc later.0, omega arith, later.2)
    ]

-- twice, where it stands at two places
pub times_twice : (l : List ℕ) (q p : ℕ) → q < p → p < length l → get_or l q 0 ≡ get_or l p 0 → 1 < times (get_or l p 0) l
times_twice [] q p h k e = absurd (omega arith)
times_twice (x ∷ l) q zero h k e = absurd (omega arith)
times_twice (x ∷ l) zero (suc p) h k e = omega (arith, times_same (get_or l p 0) x l e, times_entry l p (omega arith))
times_twice (x ∷ l) (suc q) (suc p) h k e =
    let later : 1 < times (get_or l p 0) l = times_twice l q p (omega arith) (omega arith) e in
    elim (ℕ_discrete x (get_or l p 0)) [
      | yes s ↦ omega (arith, times_same (get_or l p 0) x l s)
      | no n ↦ omega (arith, times-other (get_or l p 0) x l n)
    ]

-- ---- added up over the outlets below n

-- an entry counts once, at its own outlet
abbrev at : ℕ → ℕ → ℕ
at x o = only_if (eqb x o) 1

at_none : (x n : ℕ) → n ≤ x → sum (at x) n ≡ 0
unfolding only_if
at_none x n h = sum-none (at x) n (λ o l. ap (λ (t : Bool). only_if t 1) (ne_eqb x o (λ e. omega arith)))

at_one : (x n : ℕ) → x < n → sum (at x) n ≡ 1
unfolding sum only_if
at_one x zero h = absurd (omega arith)
at_one x (suc n) h =
    elim (ℕ_discrete x n) [
      | yes e ↦ omega (arith, at_none x n (omega arith), ap (λ (t : Bool). only_if t 1) (eq-eqb x n e))
      | no m ↦ omega (arith, at_one x n (omega arith), ap (λ (t : Bool). only_if t 1) (ne_eqb x n m))
    ]

sum_entry : (x : ℕ) (l : List ℕ) (n : ℕ) → sum (λ o. times o (x ∷ l)) n ≡ sum (at x) n + sum (λ o. times o l) n
unfolding times
sum_entry x l n = sum_add (at x) (λ o. times o l) n

-- so the row's length is an upper bound, and reached where all entries are below n
pub sum-times : (l : List ℕ) (n : ℕ) → sum (λ o. times o l) n ≤ length l
unfolding times
sum-times [] n = omega (arith, sum-none (λ o. 0) n (λ o h. refl))
sum-times (x ∷ l) n =
    elim (dec_lt x n) [
      | yes h ↦ omega (arith, sum_entry x l n, at_one x n h, sum-times l n)
      | no h ↦ omega (arith, sum_entry x l n, at_none x n (omega arith), sum-times l n)
    ]

pub sum_times_all : (l : List ℕ) (n : ℕ) → ((p : ℕ) → p < length l → get_or l p 0 < n) → sum (λ o. times o l) n ≡ length l
unfolding times
sum_times_all [] n h = sum-none (λ o. 0) n (λ o l. refl)
sum_times_all (x ∷ l) n h =
    omega
    (arith, sum_entry x l n, at_one x n (h 0 (omega arith)), sum_times_all l n (λ p k. h (suc p) (omega arith)))

sum_ones : (f : ℕ → ℕ) (n : ℕ) → ((o : ℕ) → o < n → f o ≡ 1) → sum f n ≡ n
unfolding sum
sum_ones f zero h = refl
sum_ones f (suc n) h = omega (arith, h n (le_refl (suc n)), sum_ones f n (λ o l. h o (omega arith)))

sum-most : (f : ℕ → ℕ) (n : ℕ) → ((o : ℕ) → o < n → f o ≤ 1) → sum f n ≤ n
unfolding sum
sum-most f zero h = le_refl 0
sum-most f (suc n) h = omega (arith, h n (le_refl (suc n)), sum-most f n (λ o l. h o (omega arith)))

-- n summands of at most 1 that make n are 1 each
pub sum_full : (f : ℕ → ℕ) (n : ℕ) → ((o : ℕ) → o < n → f o ≤ 1) → n ≤ sum f n → (o : ℕ) → o < n → f o ≡ 1
unfolding sum
sum_full f zero h e o l = absurd (omega arith)
sum_full f (suc n) h e o l =
    let most : sum f n ≤ n = sum-most f n (λ i k. h i (omega arith)) in
    let last : f n ≤ 1 = h n (le_refl (suc n)) in
    elim (ℕ_discrete o n) [
      | yes s ↦ ap f s ∙ omega arith
      | no m ↦ sum_full f n (λ i k. h i (omega arith)) (omega arith) o (omega arith)
    ]

sum_longer : (f : ℕ → ℕ) (n m : ℕ) → n ≤ m → sum f n ≤ sum f m
unfolding sum
sum_longer f n zero h =
    let none : n ≡ 0 = omega arith in
    omega (arith, ap (sum f) none)
sum_longer f n (suc m) h =
    elim (ℕ_discrete n (suc m)) [
      | yes e ↦ omega (arith, ap (sum f) e)
      | no k ↦ omega (arith, sum_longer f n m (omega arith))
    ]

-- ---- an order

module _ (n : ℕ) (l : List ℕ) (order : IsOrder n l) where
  -- its entries are outlets of the rail
  pub entry_on_rail : (p : ℕ) → p < length l → get_or l p 0 < n
  entry_on_rail p h =
      elim (dec_lt (get_or l p 0) n) [
        | yes on ↦ on
        | no off ↦ absurd (omega (arith, times_entry l p h, order.nothing_else (get_or l p 0) (omega arith)))
      ]

  -- and as many as those are
  pub order-length : length l ≡ n
  order-length = sym (sum_times_all l n entry_on_rail) ∙ sum_ones (λ o. times o l) n order.once

  pub order_by_test : not_an_order n l ≡ false
  unfolding not_an_order
  order_by_test =
      rw (
        eq-eqb (length l) n order-length,
        every-all (λ o. eqb (times o l) 1) n (λ o h. eq-eqb (times o l) 1 (order.once o h)),
      )

module _ (n : ℕ) (l : List ℕ) (passed : not_an_order n l ≡ false) where
  both : (eqb (length l) n && every (λ o. eqb (times o l) 1) n) ≡ true
  unfolding not_an_order
  both = not-false (eqb (length l) n && every (λ o. eqb (times o l) 1) n) passed

  test_once : (o : ℕ) → o < n → times o l ≡ 1
  test_once o h = eqb-true (times o l) 1 (every_at (λ u. eqb (times u l) 1) n (and_right (eqb (length l) n) (every (λ u. eqb (times u l) 1) n) both) o h)

  test_length : length l ≡ n
  test_length = eqb-true (length l) n (and_left (eqb (length l) n) (every (λ o. eqb (times o l) 1) n) both)

  -- n outlets stand once each and fill the row: there is no entry left for another
  pub test_order : IsOrder n l
  unfolding sum
  test_order = record {
    once = test_once;
    nothing_else = λ o h.
        omega (
          arith,
          sum_ones (λ u. times u l) n test_once,
          sum_longer (λ u. times u l) n o h,
          sum-times l (suc o),
          test_length,
        );
  }
