-- Rows of bits read as tests: what the machine's masks say of 'is x in the row?', for every x, and what a bit times a number counts.
use mathlib.Core.Bool.{Bool, false, not, ◌&&◌, ◌||◌, or_comm}
use mathlib.Core.Path.{◌≡◌, refl, sym, ◌∙◌, ap}
use Prim.Native.Nat.{ℕ, zero, suc, ◌+◌, ◌-◌, ◌*◌, ◌%◌, ◌^◌, ◌≤◌, ◌<◌, min, max}
use native.Mathlib.Omega.{arith}
use native.Mathlib.Decide.{ℕ_discrete, dec_lt}
use borrow.Author.Tests.{eq-eqb, ne_eqb, eqb-false}
use lib.Bits.{bit_and, bit_or, or_lt, and_le_l}
use lib.Dec.{eqb}
use lib.Pow.{pow-lt}
use Rattle.rules.specs.Sum.{sum, only_if}
use Rattle.rules.specs.Crossing.{bit}
use Rattle.std.proofs.Common.{Some}
use Rattle.hoses.specs.Ones.{LowestFirst}
use Rattle.hoses.proofs.Bits.{bit-most, bit-none, bit-beyond, bits_none, bit-and, bit-or, bit_not, shl_one, bit_one_same, bit_one_other, lowest_same, lowest_within, lowest_set, gone_same, gone_other, sum_lowest}

abbrev pub has : ℕ → ℕ → Bool
has m x = eqb (bit m x) 1

-- two bits under 'or', and a bit under 'and not'
pub either_bit : (p q : ℕ) → p ≤ 1 → q ≤ 1 → eqb (max p q) 1 ≡ (eqb p 1 || eqb q 1)
either_bit zero zero hp hq = refl
either_bit zero (suc zero) hp hq = refl
either_bit zero (suc (suc q)) hp hq = absurd (omega arith)
either_bit (suc zero) zero hp hq = refl
either_bit (suc zero) (suc zero) hp hq = refl
either_bit (suc zero) (suc (suc q)) hp hq = absurd (omega arith)
either_bit (suc (suc p)) q hp hq = absurd (omega arith)

pub both_bits : (p q : ℕ) → p ≤ 1 → q ≤ 1 → eqb (min p q) 1 ≡ (eqb p 1 && eqb q 1)
both_bits zero zero hp hq = refl
both_bits zero (suc zero) hp hq = refl
both_bits zero (suc (suc q)) hp hq = absurd (omega arith)
both_bits (suc zero) zero hp hq = refl
both_bits (suc zero) (suc zero) hp hq = refl
both_bits (suc zero) (suc (suc q)) hp hq = absurd (omega arith)
both_bits (suc (suc p)) q hp hq = absurd (omega arith)

turned_bit : (q r : ℕ) → q + r ≡ 1 → eqb q 1 ≡ not (eqb r 1)
turned_bit zero r e = ap (λ (n : ℕ). not (eqb n 1)) (let o : 1 ≡ r = omega arith in o)
turned_bit (suc zero) r e = ap (λ (n : ℕ). not (eqb n 1)) (let z : 0 ≡ r = omega arith in z)
turned_bit (suc (suc q)) r e = absurd (omega arith)

pub has_beyond : (w m x : ℕ) → m < 2 ^ w → w ≤ x → has m x ≡ false
has_beyond w m x h l = ap (λ (n : ℕ). eqb n 1) (bit-beyond m w x h l)

-- a | b
pub has_or : (a b x : ℕ) → has (bit_or a b) x ≡ (has a x || has b x)
has_or a b x = ap (λ (n : ℕ). eqb n 1) (bit-or a b x) ∙ either_bit (bit a x) (bit b x) (bit-most a x) (bit-most b x)

-- a & b
pub has_and : (a b x : ℕ) → has (bit_and a b) x ≡ (has a x && has b x)
has_and a b x = ap (λ (n : ℕ). eqb n 1) (bit-and a b x) ∙ both_bits (bit a x) (bit b x) (bit-most a x) (bit-most b x)

-- !b, of w bits
pub has_not : (w b x : ℕ) → b < 2 ^ w → x < w → has ((2 ^ w - 1) - b) x ≡ not (has b x)
has_not w b x h l = turned_bit _ (bit b x) (bit_not w b x h l)

-- a & !b
pub has_without : (w a b x : ℕ) → a < 2 ^ w → b < 2 ^ w → has (bit_and a ((2 ^ w - 1) - b)) x ≡ (has a x && not (has b x))
has_without w a b x ha hb = elim (dec_lt x w) [ yes l ↦ inside l | no l ↦ outside (omega arith) ]
  where
    inside : x < w → has (bit_and a ((2 ^ w - 1) - b)) x ≡ (has a x && not (has b x))
    inside l = has_and a ((2 ^ w - 1) - b) x ∙ ap (λ (t : Bool). has a x && t) (has_not w b x hb l)

    outside : w ≤ x → has (bit_and a ((2 ^ w - 1) - b)) x ≡ (has a x && not (has b x))
    outside l =
        has_and a ((2 ^ w - 1) - b) x ∙ ap (λ (t : Bool). t && has ((2 ^ w - 1) - b) x) (has_beyond w a x ha l)
        ∙ sym (ap (λ (t : Bool). t && not (has b x)) (has_beyond w a x ha l))

-- 1 << x
pub has_one : (x y : ℕ) → has (2 ^ x) y ≡ eqb y x
has_one x y =
    elim (ℕ_discrete y x) [
      | yes e ↦ ap (λ (n : ℕ). has (2 ^ x) n) e ∙ eq-eqb (bit (2 ^ x) x) 1 (bit_one_same x) ∙ sym (eq-eqb y x e)
      | no d ↦ ap (λ (n : ℕ). eqb n 1) (bit_one_other x y d) ∙ sym (ne_eqb y x d)
    ]

-- (m | 1 << x) & !other, of w bits
pub has_with_without : (w m x other y : ℕ) → m < 2 ^ w → x < w → other < 2 ^ w
    → has (bit_and (bit_or m ((1 * 2 ^ x) % 2 ^ w)) ((2 ^ w - 1) - other)) y ≡ ((eqb y x || has m y) && not (has other y))
has_with_without w m x other y hm hx ho =
    ap (λ (n : ℕ). has (bit_and (bit_or m n) ((2 ^ w - 1) - other)) y) (shl_one w x hx)
    ∙ has_without w (bit_or m (2 ^ x)) other y (or_lt w m (2 ^ x) hm (pow-lt hx)) ho
    ∙ ap (λ (t : Bool). t && not (has other y))
    (has_or m (2 ^ x) y ∙ or_comm (has m y) (has (2 ^ x) y) ∙ ap (λ (t : Bool). t || has m y) (has_one x y))

-- What a turn along the ones of a mask says, which takes them as those of a number of 64 bits: the lowest outlet that is left goes, and no other.
pub record Taken (rest u later : ℕ) : Type 0 where
  pub outlet : u < 32
  pub left : later < 2 ^ 32
  pub set : bit rest u ≡ 1
  pub unset : bit later u ≡ 0
  pub apart : (x : ℕ) → (x ≡ u → ⊥) → bit later x ≡ bit rest x
  pub shares : (g : ℕ → ℕ) → sum (λ x. bit rest x * g x) 32 ≡ g u + sum (λ x. bit later x * g x) 32

pub taken : {rest u later : ℕ} → rest < 2 ^ 32 → LowestFirst rest (Some u) later → Taken rest u later
taken {rest} within (some, lowest, gone) =
    let t = lowest_within 32 rest some within in
    rw (gone, lowest, lowest_same 64 32 rest some (omega arith) within)
    (record {
      outlet = t;
      left = omega (arith, and_le_l rest (rest - 1));
      set = lowest_set 32 rest t;
      unset = gone_same 32 rest some within;
      apart = λ x n. gone_other 32 rest x some within n;
      shares = λ g. sum_lowest g 32 rest some within;
    })

-- a bit times a number is the number where the bit is set
pub bit_counts : (m x k : ℕ) → bit m x * k ≡ only_if (has m x) k
unfolding only_if
bit_counts m x k = go (bit m x) (bit-most m x)
  where
    go : (p : ℕ) → p ≤ 1 → p * k ≡ only_if (eqb p 1) k
    go zero h = omega arith
    go (suc zero) h = omega arith
    go (suc (suc p)) h = absurd (omega arith)

-- where none of w bits is set, there is none
pub has_none : (w m : ℕ) → m < 2 ^ w → ((x : ℕ) → x < w → has m x ≡ false) → m ≡ 0
has_none w m h none =
    bits_none w m h
    (λ x l.
    let unset : bit m x ≡ 1 → ⊥ = eqb-false (bit m x) 1 (none x l) in
    omega (arith, bit-most m x))

-- and 0 has none
pub has_nothing : (x : ℕ) → has 0 x ≡ false
has_nothing x = ap (λ (n : ℕ). eqb n 1) (bit-none x)
