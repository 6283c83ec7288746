-- Four tools of the pages below: a sum and a test over the numbers below n, the least number that passes a test, a value that counts only where a test passes.
use Rattle.std.specs.Prelude.{Bool, true, false, ◌&&◌, ℕ, zero, suc, ◌+◌}

-- f 0 + f 1 + .. + f (n - 1)
unfoldable pub sum : (ℕ → ℕ) → ℕ → ℕ
sum f zero = 0
sum f (suc n) = sum f n + f n

-- the sum of f over the pairs of numbers below n
unfoldable pub pair_sum : (ℕ → ℕ → ℕ) → ℕ → ℕ
pair_sum f n = sum (λ u. sum (λ v. f u v) n) n

-- does every number below n pass the test?
unfoldable pub every : (ℕ → Bool) → ℕ → Bool
every t zero = true
every t (suc n) = every t n && t n

-- the least number below n that passes the test; n where none does
unfoldable pub least : (ℕ → Bool) → ℕ → ℕ
least t zero = 0
least t (suc n) = elim (t 0) [ true ↦ 0 | false ↦ suc (least (λ i. t (suc i)) n) ]

-- x where the test passes, else nothing
unfoldable pub only_if : Bool → ℕ → ℕ
only_if true x = x
only_if false x = 0
