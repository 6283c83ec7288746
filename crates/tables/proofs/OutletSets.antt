-- A set of outlets as one number: with one outlet more, and the set of all outlets from one to another.
use mathlib.Core.Path.{◌≡◌, sym, ◌∙◌, ap}
use mathlib.Core.Bool.{Bool, true, false, ◌&&◌, and-false}
use Prim.Native.Nat.{ℕ, zero, suc, ◌+◌, ◌-◌, ◌*◌, ◌/◌, ◌%◌, ◌^◌, ◌≤◌, ◌<◌, max}
use native.Mathlib.Omega.{arith}
use native.Mathlib.Nat.{pow-suc}
use native.Mathlib.Decide.{ℕ_discrete, dec_lt}
use lib.Dec.{eqb, ltb}
use lib.Pow.{pow_pos}
use lib.Bits.{bit_or}
use borrow.Author.Tests.{lt-ltb, le-ltb}
use Rattle.rules.specs.Crossing.{bit}
use Rattle.tables.specs.Tables.{Passed}
use Rattle.hoses.proofs.Bits.{bit-first, bit-next, bit-none, bit-or, bit-most, bit-beyond, shl_one, bit_one_same, bit_one_other}

next : (x v : ℕ) → (x ≡ v → ⊥) → ltb x (v + 1) ≡ ltb x v
next x v n =
    elim (dec_lt x v) [
      | yes l ↦ lt-ltb x (v + 1) (omega arith) ∙ sym (lt-ltb x v l)
      | no l ↦ le-ltb x (v + 1) (omega arith) ∙ sym (le-ltb x v (omega arith))
    ]

-- m | 1 << v, of w bits, has v, and of the others what m has
module _ (w m v : ℕ) (h : v < w) where
  grown : (x : ℕ) → bit (bit_or m ((1 * 2 ^ v) % 2 ^ w)) x ≡ max (bit m x) (bit (2 ^ v) x)
  grown x = ap (λ (n : ℕ). bit (bit_or m n) x) (shl_one w v h) ∙ bit-or m (2 ^ v) x

  pub with_same : bit (bit_or m ((1 * 2 ^ v) % 2 ^ w)) v ≡ 1
  with_same = omega (arith, grown v, bit-most m v, bit_one_same v)

  pub with_other : (x : ℕ) → (x ≡ v → ⊥) → bit (bit_or m ((1 * 2 ^ v) % 2 ^ w)) x ≡ bit m x
  with_other x n = omega (arith, grown x, bit_one_other v x n)

-- no outlet passes a test that none below v passes
pub none : (v : ℕ) (t : ℕ → Bool) → ((x : ℕ) → x < v → t x ≡ false) → Passed 0 v t
none v t h x =
    elim (dec_lt x v) [
      | yes l ↦ rw (bit-none x, h x l, and-false (ltb x v))
      | no n ↦ rw (bit-none x, le-ltb x v (omega arith))
    ]

module _ (m v : ℕ) (t : ℕ → Bool) (passed : Passed m v t) where
  -- one outlet more is taken in where it passes,
  pub taken : (w : ℕ) → v < w → t v ≡ true → Passed (bit_or m ((1 * 2 ^ v) % 2 ^ w)) (v + 1) t
  taken w h p x =
      elim (ℕ_discrete x v) [
        | yes e ↦ rw (e, lt-ltb v (v + 1) (omega arith), p, with_same w m v h)
        | no n ↦ rw (with_other w m v h x n, next x v n, passed x)
      ]

  -- and passed over where it does not
  pub over : t v ≡ false → Passed m (v + 1) t
  over p x =
      passed x
      ∙ elim (ℕ_discrete x v) [
        | yes e ↦ rw (le-ltb x v (omega arith), lt-ltb x (v + 1) (omega arith), ap t e ∙ p)
        | no n ↦ rw (next x v n)
      ]

-- 2 ^ n - 2 ^ m has the numbers from m on and below n
half : (m n : ℕ) → (2 ^ suc n - 2 ^ suc m) / 2 ≡ 2 ^ n - 2 ^ m
half m n = omega (arith, pow-suc 2 n, pow-suc 2 m)

span_in : (m n x : ℕ) → m ≤ x → x < n → bit (2 ^ n - 2 ^ m) x ≡ 1
span_in m zero x l h = absurd (omega arith)
span_in zero (suc n) zero l h = bit-first (2 ^ suc n - 2 ^ 0) ∙ omega (arith, pow-suc 2 n, pow_pos n)
span_in (suc m) (suc n) zero l h = absurd (omega arith)
span_in zero (suc n) (suc x) l h =
    let rest : (2 ^ suc n - 2 ^ 0) / 2 ≡ 2 ^ n - 2 ^ 0 = omega (arith, pow-suc 2 n) in
    bit-next (2 ^ suc n - 2 ^ 0) x ∙ ap (λ (k : ℕ). bit k x) rest ∙ span_in 0 n x (omega arith) (omega arith)
span_in (suc m) (suc n) (suc x) l h =
    bit-next (2 ^ suc n - 2 ^ suc m) x ∙ ap (λ (k : ℕ). bit k x) (half m n) ∙ span_in m n x (omega arith) (omega arith)

span_before : (m n x : ℕ) → m ≤ n → x < m → bit (2 ^ n - 2 ^ m) x ≡ 0
span_before zero n x l h = absurd (omega arith)
span_before (suc m) zero x l h = absurd (omega arith)
span_before (suc m) (suc n) zero l h = bit-first (2 ^ suc n - 2 ^ suc m) ∙ omega (arith, pow-suc 2 n, pow-suc 2 m)
span_before (suc m) (suc n) (suc x) l h =
    bit-next (2 ^ suc n - 2 ^ suc m) x ∙ ap (λ (k : ℕ). bit k x) (half m n) ∙ span_before m n x (omega arith) (omega arith)

-- so it is the set of all outlets above u, of n, where m is the next after u
pub span : (u n x : ℕ) → u < n → eqb (bit (2 ^ n - 2 ^ suc u) x) 1 ≡ (ltb x n && ltb u x)
span u n x h =
    elim (dec_lt x n) [
      | yes below ↦
          elim (dec_lt u x) [
            | yes above ↦ rw (lt-ltb x n, lt-ltb u x, span_in (suc u) n x above below)
            | no not ↦ rw (lt-ltb x n, le-ltb u x (omega arith), span_before (suc u) n x h (omega arith))
          ]
      | no not ↦ rw (le-ltb x n (omega arith), bit-beyond (2 ^ n - 2 ^ suc u) n x (omega (arith, pow_pos n, pow_pos (suc u))) (omega arith))
    ]
