-- The two cross values of a pair of sets add up to hoses against hoses, less the bins that both have; and an outlet has at most 64 hoses.
use mathlib.Core.Path.{◌≡◌, sym, ◌∙◌, ap}
use Prim.Native.Nat.{ℕ, ◌+◌, ◌*◌, ◌≤◌, min}
use native.Mathlib.Omega.{arith}
use native.Mathlib.Nat.{zero-mul, one-mul, mul-le-mul}
use native.Mathlib.Decide.{ℕ_discrete}
use lib.Bits.{bit_and}
use Rattle.rules.specs.Sum.{sum}
use Rattle.rules.specs.Crossing.{profile, places, hoses, cross}
use Rattle.rules.proofs.Sums.{sum_cong, sum_mono}
use Rattle.laws.proofs.Cross.{cross_sum}
use Rattle.hoses.proofs.Bits.{bit-most, bit-and}

pub hoses_at_most : (m : ℕ) → hoses (profile m) ≤ 64
unfolding hoses places profile sum
hoses_at_most m = sum_mono (profile m) (λ x. 1) 64 (λ x l. bit-most m x)

pub product_at_most : (a b : ℕ) → hoses (profile a) * hoses (profile b) ≤ 64 * 64
product_at_most a b = mul-le-mul (hoses_at_most a) (hoses_at_most b)

-- of two digits the product is the smaller
digits : (p q : ℕ) → p ≤ 1 → q ≤ 1 → p * q ≡ min p q
digits p q hp hq =
    elim (ℕ_discrete p 0) [
      | yes e ↦ omega (arith, ap (λ (n : ℕ). n * q) e, zero-mul q)
      | no n ↦
          let one : p ≡ 1 = omega arith in
          omega (arith, ap (λ (n : ℕ). n * q) one, one-mul q)
    ]

pub two_ways : (a b : ℕ) → cross (profile a) (profile b) + cross (profile b) (profile a) + hoses (profile (bit_and a b)) ≡ hoses (profile a) * hoses (profile b)
unfolding hoses profile
two_ways a b =
    omega (
      arith,
      cross_sum (profile a) (profile b),
      sum_cong (λ x. profile a x * profile b x) (profile (bit_and a b)) places
          (λ x l. digits (profile a x) (profile b x) (bit-most a x) (bit-most b x) ∙ sym (bit-and a b x)),
    )
