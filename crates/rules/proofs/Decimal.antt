-- Numbers in decimal: one digit below 10, else the last digit behind those of a tenth; and a number below 10 ^ d has at most d of them.
use mathlib.Core.Path.{◌≡◌, ◌∙◌, ap}
use mathlib.Core.List.{[], ◌∷◌, ◌++◌}
use Prim.Native.Nat.{ℕ, zero, suc, ◌/◌, ◌%◌, ◌^◌, ◌≤◌, ◌<◌}
use native.Mathlib.Omega.{arith}
use native.Mathlib.Decide.{dec_lt}
use lib.ListN.{length, length-append}
use borrow.Author.Tests.{lt-ltb, le-ltb}
use Rattle.rules.specs.Line.{Word, digit, digits, decimal}

-- by what the test says of n
digits_one : (most n : ℕ) → n < 10 → digits (suc most) n ≡ digit n ∷ []
unfolding digits
digits_one most n h = rw (lt-ltb n 10 h, digits)

digits_more : (most n : ℕ) → 10 ≤ n → digits (suc most) n ≡ digits most (n / 10) ++ (digit (n % 10) ∷ [])
unfolding digits
digits_more most n h = rw (le-ltb n 10 h, digits)

-- more digits than n needs change nothing
digits_enough : (m k n : ℕ) → n < m → n < k → digits m n ≡ digits k n
digits_enough zero k n h l = absurd (omega arith)
digits_enough (suc m) zero n h l = absurd (omega arith)
digits_enough (suc m) (suc k) n h l =
    elim (dec_lt n 10) [
      | yes one ↦ digits_one m n one ∙ rw (digits_one k n one)
      | no more ↦
          let e : digits m (n / 10) ≡ digits k (n / 10) = digits_enough m k (n / 10) (omega arith) (omega arith) in
          digits_more m n (omega arith) ∙ ap (λ (w : Word). w ++ (digit (n % 10) ∷ [])) e ∙ rw (digits_more k n (omega arith))
    ]

pub decimal_one : (n : ℕ) → n < 10 → decimal n ≡ digit n ∷ []
unfolding decimal
decimal_one n h = digits_one n n h

pub decimal_more : (n : ℕ) → 10 ≤ n → decimal n ≡ decimal (n / 10) ++ (digit (n % 10) ∷ [])
unfolding decimal
decimal_more n h =
    digits_more n n h
    ∙ ap (λ (w : Word). w ++ (digit (n % 10) ∷ [])) (digits_enough n (suc (n / 10)) (n / 10) (omega arith) (omega arith))

pub decimal-length : (d n : ℕ) → n < 10 ^ suc d → length (decimal n) ≤ suc d
decimal-length zero n h = omega (arith, ap length (decimal_one n (omega arith)))
decimal-length (suc d) n h =
    elim (dec_lt n 10) [
      | yes one ↦ omega (arith, ap length (decimal_one n one))
      | no more ↦
          omega (arith, simp length-append at (ap length (decimal_more n (omega arith))), decimal-length d (n / 10) (omega arith))
    ]
