-- What the hoses still to come of a set will add to cross, and that the lowest one of them adds the hoses of b further left.
use Rattle.std.proofs.Common.{◌≡◌, ℕ, ◌+◌, ◌*◌, ◌-◌, ◌<◌, ◌^◌, bit_and, ◌∙◌, ap, arith}
use native.Mathlib.Nat.{zero-mul}
use lib.Count.{count_trailing_zeros}
use Rattle.rules.specs.Sum.{sum}
use Rattle.rules.specs.Crossing.{profile, cross, places}
use Rattle.rules.proofs.Sums.{sum-none}
use Rattle.hoses.proofs.Bits.{bit-none, sum_lowest}

pub to_come : ℕ → ℕ → ℕ
to_come rest b = sum (λ x. profile rest x * sum (profile b) x) 64

pub to_come_all : (a b : ℕ) → to_come a b ≡ cross (profile a) (profile b)
unfolding to_come cross places
to_come_all a b = omega arith

pub to_come_none : (b : ℕ) → to_come 0 b ≡ 0
unfolding to_come profile
to_come_none b = sum-none _ 64 (λ x l. ap (λ (n : ℕ). n * sum (profile b) x) (bit-none x) ∙ zero-mul (sum (profile b) x))

pub to_come_step : (rest b : ℕ) → 0 < rest → rest < 2 ^ 64
    → to_come rest b ≡ sum (profile b) (count_trailing_zeros 64 rest) + to_come (bit_and rest (rest - 1)) b
unfolding to_come profile
to_come_step rest b p h = sum_lowest (sum (profile b)) 64 rest p h
