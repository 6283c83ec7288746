-- A stray hose by one shift: a set has one exactly if something is left of it once the bins are shifted out, and so for several sets together.
use mathlib.Core.Path.{◌≡◌, refl, sym, ◌∙◌, ap, ap₂}
use mathlib.Core.Bool.{Bool, true, false, not, ◌||◌}
use mathlib.Core.List.{List, [], ◌∷◌}
use Prim.Native.Nat.{ℕ, zero, suc, ◌+◌, ◌/◌, ◌^◌, ◌≤◌, ◌<◌}
use native.Mathlib.Decide.{ℕ_discrete, dec_lt}
use native.Mathlib.Omega.{arith}
use native.Mathlib.Nat.{zero-div, div-lt_iff_lt-mul}
use lib.Dec.{eqb, ltb}
use lib.Pow.{pow_pos, shr_le}
use lib.Bits.{bit_or, or_shr, or_lt, or_add_and, and_le_r}
use borrow.Author.Tests.{eq-eqb, ne_eqb, eqb-true, lt-ltb, le-ltb}
use Rattle.rules.specs.Sum.{every}
use Rattle.rules.specs.Crossing.{bit, places}
use Rattle.rules.specs.Numbers.{stray_hose, stray_hoses}
use Rattle.rules.proofs.Sums.{every_at, every-all}
use Rattle.hoses.proofs.Bits.{bit-beyond, bit_shr, bits_none}

-- is something left of m once the bins are shifted out?
abbrev pub left_over : ℕ → ℕ → Bool
left_over bins m = not (eqb (m / 2 ^ bins) 0)

-- either test, where the first fails
or_right : (a b : Bool) → a ≡ false → (a || b) ≡ true → b ≡ true
or_right a b e h = rw e at h

or_assoc : (a b c : Bool) → ((a || b) || c) ≡ (a || (b || c))
or_assoc true b c = refl
or_assoc false b c = refl

pub or-false : (a : Bool) → (a || false) ≡ a
or-false true = refl
or-false false = refl

module _ (bins m : ℕ) (h : m < 2 ^ 64) where
  -- the test of one bin
  abbrev in_row : ℕ → Bool
  in_row x = ltb x bins || eqb (bit m x) 0

  none_left : m / 2 ^ bins ≡ 0 → (x : ℕ) → x < 64 → in_row x ≡ true
  none_left e x l =
      elim (dec_lt x bins) [
        | yes below ↦ rw (lt-ltb x bins below)
        | no not-below ↦
            let none : m / 2 ^ bins < 1 = omega arith in
            let within : m < 2 ^ bins = omega (arith, (div-lt_iff_lt-mul (pow_pos bins)).0 none) in
            let unset : bit m x ≡ 0 = bit-beyond m bins x within (omega arith) in
            rw (le-ltb x bins (omega arith), eq-eqb (bit m x) 0 unset)
      ]

  all_in_row : ((x : ℕ) → x < 64 → in_row x ≡ true) → m / 2 ^ bins ≡ 0
  all_in_row e =
      bits_none 64 (m / 2 ^ bins) (omega (arith, shr_le m bins))
      (λ x l.
      bit_shr m bins x
      ∙ elim (dec_lt (bins + x) 64) [
        | yes below ↦
            let y : ℕ = bins + x in
            eqb-true (bit m y) 0 (or_right (ltb y bins) (eqb (bit m y) 0) (le-ltb y bins (omega arith)) (e y below))
        | no beyond ↦ bit-beyond m 64 (bins + x) h (omega arith)
      ])

  pub stray_is : stray_hose bins m ≡ left_over bins m
  unfolding stray_hose places
  stray_is =
      elim (ℕ_discrete (m / 2 ^ bins) 0) [
        | yes none ↦ ap not (every-all in_row 64 (none_left none) ∙ sym (eq-eqb (m / 2 ^ bins) 0 none))
        | no some ↦ ap not (go some (every in_row 64) refl ∙ sym (ne_eqb (m / 2 ^ bins) 0 some))
      ]
    where
      go : (m / 2 ^ bins ≡ 0 → ⊥) → (b : Bool) → every in_row 64 ≡ b → every in_row 64 ≡ false
      go some true e = absurd (some (all_in_row (every_at in_row 64 e)))
      go some false e = e

-- of two sets together there is one exactly if there is one of the first or of the second
or_zero : (a b : ℕ) → not (eqb (bit_or a b) 0) ≡ (not (eqb a 0) || not (eqb b 0))
or_zero zero b = refl
or_zero (suc a) b =
    let some : bit_or (suc a) b ≡ 0 → ⊥ = λ e. omega (arith, or_add_and (suc a) b, and_le_r (suc a) b) in
    rw (ne_eqb (bit_or (suc a) b) 0 some, ne_eqb (suc a) 0 (λ e. omega arith))

pub stray_or : (bins a b : ℕ) → a < 2 ^ 64 → b < 2 ^ 64 → stray_hose bins (bit_or a b) ≡ (stray_hose bins a || stray_hose bins b)
stray_or bins a b ha hb =
    stray_is bins (bit_or a b) (or_lt 64 a b ha hb) ∙ ap (λ (n : ℕ). not (eqb n 0)) (or_shr a b bins)
    ∙ or_zero (a / 2 ^ bins) (b / 2 ^ bins)
    ∙ sym (ap₂ ◌||◌ (stray_is bins a ha) (stray_is bins b hb))

-- a set for all outlets seen, and the outlets to come
pub stray_step : (bins all m : ℕ) (rest : List ℕ) → all < 2 ^ 64 → m < 2 ^ 64
    → (stray_hose bins (bit_or all m) || stray_hoses bins rest) ≡ (stray_hose bins all || stray_hoses bins (m ∷ rest))
unfolding stray_hoses
stray_step bins all m rest ha hm =
    ap (λ (t : Bool). t || stray_hoses bins rest) (stray_or bins all m ha hm)
    ∙ or_assoc (stray_hose bins all) (stray_hose bins m) (stray_hoses bins rest)

pub none_of_none : (bins : ℕ) → stray_hose bins 0 ≡ false
none_of_none bins = stray_is bins 0 (omega arith) ∙ ap (λ (n : ℕ). not (eqb n 0)) (zero-div (2 ^ bins))

-- 64 bins or more leave no hose stray
pub none_stray : (bins : ℕ) → 64 ≤ bins → (outlets : List ℕ) → stray_hoses bins outlets ≡ false
unfolding stray_hoses stray_hose places
none_stray bins h [] = refl
none_stray bins h (m ∷ outlets) =
    rw
    (every-all (λ x. ltb x bins || eqb (bit m x) 0) 64 (λ x l. rw (lt-ltb x bins (omega arith))))
    (none_stray bins h outlets)
