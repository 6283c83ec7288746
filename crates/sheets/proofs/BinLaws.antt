-- The bins of a set, rising: by its lowest one, how many they are, and the set of them again.
use mathlib.Core.Path.{◌≡◌, refl, sym, ◌∙◌, ap}
use mathlib.Core.List.{List, [], ◌∷◌}
use Prim.Native.Nat.{ℕ, zero, suc, ◌+◌, ◌-◌, ◌^◌, ◌≤◌, ◌<◌}
use native.Mathlib.Omega.{arith}
use native.Mathlib.Nat.{le_refl}
use native.Mathlib.Decide.{ℕ_discrete}
use lib.ListN.{length}
use lib.Bits.{bit_and}
use lib.Count.{count_trailing_zeros}
use borrow.Author.Tests.{eq-eqb, ne_eqb}
use Rattle.rules.specs.Sum.{sum}
use Rattle.rules.specs.Crossing.{bit, places, profile, hoses}
use Rattle.rules.specs.Sheet.{bins_from, bins_of}
use Rattle.rules.proofs.Sums.{sum_cong}
use Rattle.rules.proofs.Sheet.{bins_from≤}
use Rattle.hoses.proofs.Bits.{bit-most, bit-none, sum_first, lowest_within, lowest_set, lowest_before, gone_same, gone_other}

-- the first place, by its bit
pub bins_in : (m x n : ℕ) → bit m x ≡ 1 → bins_from m x (suc n) ≡ x ∷ bins_from m (suc x) n
unfolding bins_from
bins_in m x n e = rw (eq-eqb (bit m x) 1 e, bins_from)

pub bins_out : (m x n : ℕ) → bit m x ≡ 0 → bins_from m x (suc n) ≡ bins_from m (suc x) n
unfolding bins_from
bins_out m x n e = rw (ne_eqb (bit m x) 1 (λ o. omega arith), bins_from)

-- in or out
pub by_bit : {A : Type 0} (m x : ℕ) → (bit m x ≡ 1 → A) → (bit m x ≡ 0 → A) → A
by_bit m x is not = elim (ℕ_discrete (bit m x) 0) [ yes e ↦ not e | no n ↦ is (omega (arith, bit-most m x)) ]

-- two sets with the same bits from a place on have the same bins there
pub bins_same : (m w x n : ℕ) → ((y : ℕ) → x ≤ y → bit m y ≡ bit w y) → bins_from m x n ≡ bins_from w x n
unfolding bins_from
bins_same m w x zero h = refl
bins_same m w x (suc n) h =
    let later = bins_same m w (suc x) n (λ y l. h y (omega arith)) in
    by_bit m x
    (λ e. bins_in m x n e ∙ ap (λ (l : List ℕ). x ∷ l) later ∙ sym (bins_in w x n (sym (h x (le_refl x)) ∙ e)))
    (λ e. bins_out m x n e ∙ later ∙ sym (bins_out w x n (sym (h x (le_refl x)) ∙ e)))

pub bins-none : (x n : ℕ) → bins_from 0 x n ≡ []
unfolding bins_from
bins-none x zero = refl
bins-none x (suc n) = bins_out 0 x n (bit-none x) ∙ bins-none (suc x) n

-- of a set whose lowest bin is t, that one comes first, and then the bins of the set without it
first : (m w t x n : ℕ) → x ≤ t → t < x + n → bit m t ≡ 1 → bit w t ≡ 0 → ((y : ℕ) → y < t → bit m y ≡ 0) → ((y : ℕ) → (y ≡ t → ⊥) → bit w y ≡ bit m y) → bins_from m x n ≡ t ∷ bins_from w x n
first m w t x zero lo hi on off low other = absurd (omega arith)
first m w t x (suc n) lo hi on off low other =
    elim (ℕ_discrete x t) [
      | yes same ↦
          bins_in m x n (ap (bit m) same ∙ on)
          ∙ ap (λ (l : List ℕ). x ∷ l) (bins_same m w (suc x) n (λ y l. sym (other y (λ e. omega arith))))
          ∙ ap (λ (l : List ℕ). x ∷ l) (sym (bins_out w x n (ap (bit w) same ∙ off)))
          ∙ ap (λ (y : ℕ). y ∷ bins_from w x (suc n)) same
      | no differ ↦
          let out : bit m x ≡ 0 = low x (omega arith) in
          bins_out m x n out
          ∙ first m w t (suc x) n (omega arith) (omega arith) on off low other
          ∙ ap (λ (l : List ℕ). t ∷ l) (sym (bins_out w x n (other x differ ∙ out)))
    ]

pub lowest_first : (m : ℕ) → 0 < m → m < 2 ^ 64 → bins_of m ≡ count_trailing_zeros 64 m ∷ bins_of (bit_and m (m - 1))
unfolding bins_of places
lowest_first m p h =
    let t = lowest_within 64 m p h in
    first m (bit_and m (m - 1)) (count_trailing_zeros 64 m) 0 64 (omega arith) (omega arith) (lowest_set 64 m t) (gone_same 64 m p h) (λ y l. lowest_before 64 m y l) (λ y n. gone_other 64 m y p h n)

pub no_bins : bins_of 0 ≡ []
unfolding bins_of
no_bins = bins-none 0 places

-- they are as many as the hoses
count : (m x n : ℕ) → length (bins_from m x n) ≡ sum (λ i. bit m (x + i)) n
unfolding sum bins_from
count m x zero = refl
count m x (suc n) =
    let shift : sum (λ i. bit m (suc x + i)) n ≡ sum (λ i. bit m (x + suc i)) n = sum_cong (λ i. bit m (suc x + i)) (λ i. bit m (x + suc i)) n (λ i l. let same : suc x + i ≡ x + suc i = omega arith in ap (bit m) same) in
    let here : bit m (x + 0) ≡ bit m x = let same : x + 0 ≡ x = omega arith in ap (bit m) same in
    by_bit m x
    (λ e. omega (arith, ap length (bins_in m x n e), count m (suc x) n, sum_first (λ i. bit m (x + i)) n))
    (λ e. omega (arith, ap length (bins_out m x n e), count m (suc x) n, sum_first (λ i. bit m (x + i)) n))

pub as_many_bins : (m : ℕ) → length (bins_of m) ≡ hoses (profile m)
unfolding bins_of hoses profile
as_many_bins m =
    count m 0 places
    ∙ sum_cong (λ i. bit m (0 + i)) (profile m) places (λ i l. let same : 0 + i ≡ i = omega arith in ap (bit m) same)

pub at_most64 : (m : ℕ) → hoses (profile m) ≤ 64
unfolding bins_of places
at_most64 m = omega (arith, as_many_bins m, bins_from≤ m 0 64)
