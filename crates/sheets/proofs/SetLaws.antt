-- A set and its bins are one thing: the set of a set's bins is the set, and a row of bins that passes the entries' checks is the bins of its set.
use mathlib.Core.Path.{◌≡◌, refl, sym, ◌∙◌, ap}
use mathlib.Core.Bool.{Bool, true, false, not, ◌||◌}
use mathlib.Core.List.{List, [], ◌∷◌}
use Prim.Native.Nat.{ℕ, zero, suc, ◌+◌, ◌-◌, ◌^◌, ◌≤◌, ◌<◌, max}
use native.Mathlib.Omega.{arith}
use native.Mathlib.Nat.{le_refl}
use native.Mathlib.Decide.{ℕ_discrete, dec_lt}
use lib.Dec.{ltb, eqb}
use lib.Bits.{bit_and, bit_or}
use lib.Count.{count_trailing_zeros}
use borrow.Author.Tests.{lt-ltb, le-ltb, eq-eqb, ltb-true, ltb-false, eqb-true, not-false}
use Rattle.rules.specs.Sum.{every}
use Rattle.rules.specs.Crossing.{bit, places, set_of}
use Rattle.rules.specs.Numbers.{first_of, stray_hose}
use Rattle.rules.specs.Sheet.{bins_from, bins_of}
use Rattle.rules.specs.Read.{entry_checks}
use Rattle.rules.proofs.Sums.{every_at, every-all}
use Rattle.rules.proofs.Checks.{first-none}
use Rattle.rules.proofs.Read.{then-passed}
use Rattle.hoses.proofs.Bits.{bit-none, bit-or, bit_one_same, bit_one_other, or_one, lowest_gone}
use Rattle.sheets.proofs.BinLaws.{bins_in, bins_out, bins_same, bins-none, by_bit, lowest_first, no_bins}
use Rattle.sheets.proofs.EntryLaws.{rising_entry}

-- the set of a set's bins, its lowest bin first
set_again : (fuel m : ℕ) → m < fuel → m < 2 ^ 64 → set_of (bins_of m) ≡ m
unfolding set_of
set_again zero m f h = absurd (omega arith)
set_again (suc fuel) m f h =
    elim (ℕ_discrete m 0) [
      | yes e ↦ ap (λ (n : ℕ). set_of (bins_of n)) e ∙ ap set_of no_bins ∙ sym e
      | no n ↦
          let rest : ℕ = bit_and m (m - 1) in
          let whole : rest + 2 ^ count_trailing_zeros 64 m ≡ m = lowest_gone 64 m (omega arith) h in
          let less : rest < m = omega (arith, whole, lib.Pow.pow_pos (count_trailing_zeros 64 m)) in
          omega (arith, ap set_of (lowest_first m (omega arith) h), whole, set_again fuel rest (omega (arith, less)) (omega (arith, less)))
    ]

pub set_of_bins : (m : ℕ) → m < 2 ^ 64 → set_of (bins_of m) ≡ m
set_of_bins m h = set_again (suc m) m (omega arith) h

-- a further bin is one bit more
bit_with : (m b y : ℕ) → bit m b ≡ 0 → bit (2 ^ b + m) y ≡ max (bit m y) (bit (2 ^ b) y)
bit_with m b y z =
    let sum : 2 ^ b + m ≡ bit_or m (2 ^ b) = omega (arith, or_one m b z) in
    ap (λ (n : ℕ). bit n y) sum ∙ bit-or m (2 ^ b) y

bit_other : (m b y : ℕ) → bit m b ≡ 0 → (y ≡ b → ⊥) → bit (2 ^ b + m) y ≡ bit m y
bit_other m b y z n = omega (arith, bit_with m b y z, bit_one_other b y n)

bit_same : (m b : ℕ) → bit m b ≡ 0 → bit (2 ^ b + m) b ≡ 1
bit_same m b z = omega (arith, bit_with m b b z, bit_one_same b)

-- what is known of a row whose entries pass
record Entries (bins least b : ℕ) (l : List ℕ) : Type 0 where
  stray : b < bins
  rises : least ≤ b
  later : entry_checks bins (suc b) l ≡ 0

passed_entry : (bins least b : ℕ) (l : List ℕ) → entry_checks bins least (b ∷ l) ≡ 0 → Entries bins least b l
unfolding entry_checks
passed_entry bins least b l e =
    let t = then-passed (first_of ((not (ltb b bins), 4) ∷ (ltb b least, 11) ∷ [])) (entry_checks bins (suc b) l) e in
    let four = first-none (not (ltb b bins)) 4 _ (omega arith) t.0 in
    let eleven = first-none (ltb b least) 11 _ (omega arith) four.1 in
    record { stray = ltb-true b bins (not-false (ltb b bins) four.0); rises = ltb-false b least eleven.0; later = t.1 }

-- no bit below the least, and none beyond the bins
pub none_below : (bins least : ℕ) (l : List ℕ) → entry_checks bins least l ≡ 0 → (y : ℕ) → y < least → bit (set_of l) y ≡ 0
unfolding set_of
none_below bins least [] e y h = bit-none y
none_below bins least (b ∷ l) e y h =
    let p = passed_entry bins least b l e in
    bit_other (set_of l) b y (none_below bins (suc b) l p.later b (omega arith)) (λ s. omega (arith, p.rises))
    ∙ none_below bins (suc b) l p.later y (omega (arith, p.rises))

pub none_beyond : (bins least : ℕ) (l : List ℕ) → entry_checks bins least l ≡ 0 → (y : ℕ) → bins ≤ y → bit (set_of l) y ≡ 0
unfolding set_of
none_beyond bins least [] e y h = bit-none y
none_beyond bins least (b ∷ l) e y h =
    let p = passed_entry bins least b l e in
    bit_other (set_of l) b y (none_below bins (suc b) l p.later b (omega arith)) (λ s. omega (arith, p.stray))
    ∙ none_beyond bins (suc b) l p.later y h

-- so its bins are the row again
bins_again : (bins x n : ℕ) (l : List ℕ) → entry_checks bins x l ≡ 0 → bins ≤ x + n → bins_from (set_of l) x n ≡ l
unfolding set_of bins_from
bins_again bins x n [] e h = bins-none x n
bins_again bins x zero (b ∷ l) e h = let p = passed_entry bins x b l e in absurd (omega (arith, p.stray, p.rises))
bins_again bins x (suc n) (b ∷ l) e h =
    let p = passed_entry bins x b l e in
    let z : bit (set_of l) b ≡ 0 = none_below bins (suc b) l p.later b (omega arith) in
    elim (ℕ_discrete b x) [
      | yes same ↦
          bins_in (2 ^ b + set_of l) x n (ap (bit (2 ^ b + set_of l)) (sym same) ∙ bit_same (set_of l) b z)
          ∙ ap (λ (r : List ℕ). x ∷ r) (bins_same (2 ^ b + set_of l) (set_of l) (suc x) n (λ y k. bit_other (set_of l) b y z (λ s. omega arith)))
          ∙ ap (λ (r : List ℕ). x ∷ r) (bins_again bins (suc x) n l (ap (λ (k : ℕ). entry_checks bins (suc k) l) (sym same) ∙ p.later) (omega arith))
          ∙ ap (λ (k : ℕ). k ∷ l) (sym same)
      | no other ↦
          bins_out (2 ^ b + set_of l) x n (bit_other (set_of l) b x z (λ s. other (sym s)) ∙ none_below bins (suc b) l p.later x (omega (arith, p.rises)))
          ∙ bins_again bins (suc x) n (b ∷ l) (rising_entry bins (suc x) b l p.stray (omega (arith, p.rises)) ∙ p.later) (omega arith)
    ]

pub bins_of_set : (bins : ℕ) (l : List ℕ) → bins ≤ 64 → entry_checks bins 0 l ≡ 0 → bins_of (set_of l) ≡ l
unfolding bins_of places
bins_of_set bins l few e = bins_again bins 0 64 l e (omega arith)

-- and no hose of it is stray
pub not_stray : (bins : ℕ) (l : List ℕ) → entry_checks bins 0 l ≡ 0 → stray_hose bins (set_of l) ≡ false
unfolding stray_hose
not_stray bins l e = ap not (every-all (λ x. ltb x bins || eqb (bit (set_of l) x) 0) places (λ x h. at x (dec_lt x bins)))
  where
    at : (x : ℕ) → Dec (x < bins) → (ltb x bins || eqb (bit (set_of l) x) 0) ≡ true
    at x (yes h) = rw (lt-ltb x bins h)
    at x (no h) = rw (le-ltb x bins (omega arith), eq-eqb (bit (set_of l) x) 0 (none_beyond bins 0 l e x (omega arith)))

-- a set without a stray hose passes the entries' checks
within : (bins m x : ℕ) → stray_hose bins m ≡ false → x < 64 → bit m x ≡ 1 → x < bins
unfolding stray_hose places
within bins m x e h one = by (ltb x bins) refl (every_at (λ y. ltb y bins || eqb (bit m y) 0) 64 (not-false (every (λ y. ltb y bins || eqb (bit m y) 0) 64) e) x h)
  where
    by : (b : Bool) → ltb x bins ≡ b → (ltb x bins || eqb (bit m x) 0) ≡ true → x < bins
    by true t o = ltb-true x bins t
    by false t o = absurd (omega (arith, eqb-true (bit m x) 0 (rw t at o)))

bins_pass : (bins m least x n : ℕ) → stray_hose bins m ≡ false → x + n ≤ 64 → least ≤ x → entry_checks bins least (bins_from m x n) ≡ 0
unfolding entry_checks bins_from
bins_pass bins m least x zero e h l = refl
bins_pass bins m least x (suc n) e h l =
    by_bit m x
    (λ one. ap (entry_checks bins least) (bins_in m x n one) ∙ rising_entry bins least x (bins_from m (suc x) n) (within bins m x e (omega arith) one) l ∙ bins_pass bins m (suc x) (suc x) n e (omega arith) (le_refl (suc x)))
    (λ none. ap (entry_checks bins least) (bins_out m x n none) ∙ bins_pass bins m least (suc x) n e (omega arith) (omega arith))

pub entries_pass : (bins m : ℕ) → stray_hose bins m ≡ false → entry_checks bins 0 (bins_of m) ≡ 0
unfolding bins_of places
entries_pass bins m e = bins_pass bins m 0 0 64 e (omega arith) (omega arith)
