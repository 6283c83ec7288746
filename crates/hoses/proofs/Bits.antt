-- Laws of the bits of a number, over plain numbers: what the machine's masks, shifts and counts of ones say of `bit` of the rules.
-- `&` is bit_and, `|` bit_or, `!m` of w bits (2 ^ w - 1) - m, `1 << x` (1 * 2 ^ x) % 2 ^ w, `m >> x` m / 2 ^ x; a count of ones is `ones`.
use mathlib.Core.Path.{◌≡◌, refl, sym, ◌∙◌, ap, ap₂, subst, subst⁻¹, fun_ext}
use mathlib.Core.Bool.{Bool}
use Prim.Native.Nat.{ℕ, zero, suc, ◌+◌, ◌-◌, ◌*◌, ◌/◌, ◌%◌, ◌^◌, ◌≤◌, ◌<◌, min, max}
use native.Mathlib.Omega.{arith}
use native.Mathlib.Nat.{lt_of_lt_of_le, div-one, div-eq_of_lt, div_self, div-div-eq-div-mul, mod-eq_of_lt, mod-lt, mul_comm, one-mul, zero-mul, pow-suc}
use native.Mathlib.Decide.{ℕ_discrete}
use lib.Dec.{eqb}
use borrow.Author.Tests.{eq-eqb, ne_eqb, eqb-true, eqb-false}
use lib.Arith.{mod-mul}
use lib.Pow.{pow_pos, pow_mono, pow-lt, shr-shr}
use lib.Bits.{bit_and, bit_or, and_step, and_shr, or_step, or_shr, and_mask, and_self, or_disjoint}
use lib.Count.{ones, ones_step, count_trailing_zeros, under}
use Rattle.rules.specs.Sum.{sum, least}
use Rattle.rules.specs.Crossing.{bit}
use Rattle.rules.proofs.Sums.{sum_cong, least_stop, least_go, least_passes, least-before}

-- ---- a bit

pub bit-most : (m x : ℕ) → bit m x ≤ 1
unfolding bit
bit-most m x = omega arith

pub bit-first : (m : ℕ) → bit m 0 ≡ m % 2
unfolding bit
bit-first m = ap (λ (n : ℕ). n % 2) (div-one m)

pub bit-next : (m x : ℕ) → bit m (suc x) ≡ bit (m / 2) x
unfolding bit
bit-next m x =
    ap (λ (n : ℕ). n % 2)
    (ap (λ (n : ℕ). m / n) (pow-suc 2 x ∙ mul_comm (2 ^ x) 2) ∙ sym (div-div-eq-div-mul m 2 (2 ^ x)))

pub bit-none : (x : ℕ) → bit 0 x ≡ 0
unfolding bit
bit-none x = ap (λ (n : ℕ). n % 2) (div-eq_of_lt (pow_pos x))

-- none beyond what the number holds
pub bit-beyond : (m k x : ℕ) → m < 2 ^ k → k ≤ x → bit m x ≡ 0
unfolding bit
bit-beyond m k x h l = ap (λ (n : ℕ). n % 2) (div-eq_of_lt (lt_of_lt_of_le h (pow_mono l)))

-- m >> k begins at bit k
pub bit_shr : (m k x : ℕ) → bit (m / 2 ^ k) x ≡ bit m (k + x)
unfolding bit
bit_shr m k x = ap (λ (n : ℕ). n % 2) (shr-shr m k x)

half_below : (m k : ℕ) → m < 2 ^ suc k → m / 2 < 2 ^ k
half_below m k h = omega (arith, pow-suc 2 k)

-- two numbers of k bits are equal where their bits are
pub bits_ext : (k a b : ℕ) → a < 2 ^ k → b < 2 ^ k → ((x : ℕ) → x < k → bit a x ≡ bit b x) → a ≡ b
bits_ext zero a b ha hb h = omega arith
bits_ext (suc k) a b ha hb h =
    let low : a % 2 ≡ b % 2 = sym (bit-first a) ∙ h 0 (omega arith) ∙ bit-first b in
    let same : (x : ℕ) → x < k → bit (a / 2) x ≡ bit (b / 2) x = λ x l. sym (bit-next a x) ∙ h (suc x) (omega arith) ∙ bit-next b x in
    let rest : a / 2 ≡ b / 2 = bits_ext k (a / 2) (b / 2) (half_below a k ha) (half_below b k hb) same in
    omega arith

-- and 0 has none of them
pub bits_none : (k m : ℕ) → m < 2 ^ k → ((x : ℕ) → x < k → bit m x ≡ 0) → m ≡ 0
bits_none k m h none = bits_ext k m 0 h (pow_pos k) (λ x l. none x l ∙ sym (bit-none x))

-- m >> x & 1
pub bit_tested : (m x : ℕ) → bit_and (m / 2 ^ x) 1 ≡ bit m x
unfolding bit
bit_tested m x = and_mask (m / 2 ^ x) 1

-- ---- and, or, not

pub bit-and : (a b x : ℕ) → bit (bit_and a b) x ≡ min (bit a x) (bit b x)
unfolding bit
bit-and a b x =
    ap (λ (n : ℕ). n % 2) (and_shr a b x)
    ∙ omega (arith, and_step (a / 2 ^ x) (b / 2 ^ x))

pub bit-or : (a b x : ℕ) → bit (bit_or a b) x ≡ max (bit a x) (bit b x)
unfolding bit
bit-or a b x =
    ap (λ (n : ℕ). n % 2) (or_shr a b x)
    ∙ omega (arith, or_step (a / 2 ^ x) (b / 2 ^ x))

pub bit_not : (w m x : ℕ) → m < 2 ^ w → x < w → bit ((2 ^ w - 1) - m) x + bit m x ≡ 1
bit_not zero m x h l = absurd (omega arith)
bit_not (suc w) m zero h l = omega (arith, bit-first ((2 ^ suc w - 1) - m), bit-first m, pow-suc 2 w)
bit_not (suc w) m (suc x) h l =
    let half : ((2 ^ suc w - 1) - m) / 2 ≡ (2 ^ w - 1) - m / 2 = omega (arith, pow-suc 2 w) in
    omega (
      arith,
      bit_not w (m / 2) x (half_below m w h) (omega arith),
      bit-next ((2 ^ suc w - 1) - m) x,
      bit-next m x,
      ap (λ (n : ℕ). bit n x) half,
    )

-- ---- one bit: 1 << x

pub shl_one : (w x : ℕ) → x < w → (1 * 2 ^ x) % 2 ^ w ≡ 2 ^ x
shl_one w x h = ap (λ (n : ℕ). n % 2 ^ w) (one-mul (2 ^ x)) ∙ mod-eq_of_lt (pow-lt h)

pub bit_one_same : (x : ℕ) → bit (2 ^ x) x ≡ 1
unfolding bit
bit_one_same x = ap (λ (n : ℕ). n % 2) (div_self (pow_pos x))

pub bit_one_other : (x y : ℕ) → (y ≡ x → ⊥) → bit (2 ^ x) y ≡ 0
bit_one_other zero zero h = absurd (h refl)
bit_one_other zero (suc y) h = bit-next 1 y ∙ bit-none y
bit_one_other (suc x) zero h = omega (arith, bit-first (2 ^ suc x), pow-suc 2 x)
bit_one_other (suc x) (suc y) h =
    let half : 2 ^ suc x / 2 ≡ 2 ^ x = omega (arith, pow-suc 2 x) in
    bit-next (2 ^ suc x) y ∙ ap (λ (n : ℕ). bit n y) half ∙ bit_one_other x y (λ e. h (ap suc e))

-- m & (1 << x) is 1 << x where x is in m, and 0 where it is not
pub and_one : (m x : ℕ) → bit_and m (2 ^ x) ≡ bit m x * 2 ^ x
and_one m zero = and_mask m 1 ∙ omega (arith, bit-first m)
and_one m (suc x) =
    let half : 2 ^ suc x / 2 ≡ 2 ^ x = omega (arith, pow-suc 2 x) in
    let even : 2 ^ suc x % 2 ≡ 0 = omega (arith, pow-suc 2 x) in
    and_step m (2 ^ suc x)
    ∙ ap₂ (λ (p q : ℕ). bit_and (m / 2) p * 2 + min (m % 2) q) half even
    ∙ omega (arith, and_one (m / 2) x, bit-next m x, ap (λ (n : ℕ). n * 2 ^ x) (bit-next m x), ap (λ (n : ℕ). bit m (suc x) * n) (pow-suc 2 x))

-- m | (1 << x) has x and what m has
pub or_one : (m x : ℕ) → bit m x ≡ 0 → bit_or m (2 ^ x) ≡ m + 2 ^ x
or_one m x h =
    let apart : bit_and m (2 ^ x) ≡ 0 = omega (arith, and_one m x, ap (λ (n : ℕ). n * 2 ^ x) h) in
    or_disjoint m (2 ^ x) apart

-- ---- a mask of the bits below x: (1 << x) - 1

mod_half : (m x : ℕ) → m % 2 ^ suc x ≡ (m / 2 % 2 ^ x) * 2 + m % 2
mod_half m x = ap (λ (n : ℕ). m % n) (pow-suc 2 x) ∙ mod-mul m (pow_pos x) (omega arith)

pub bit_mask : (m x y : ℕ) → y < x → bit (m % 2 ^ x) y ≡ bit m y
bit_mask m zero y h = absurd (omega arith)
bit_mask m (suc x) zero h = omega (arith, bit-first (m % 2 ^ suc x), bit-first m, mod_half m x)
bit_mask m (suc x) (suc y) h =
    let half : m % 2 ^ suc x / 2 ≡ m / 2 % 2 ^ x = omega (arith, mod_half m x) in
    bit-next (m % 2 ^ suc x) y ∙ ap (λ (n : ℕ). bit n y) half ∙ bit_mask (m / 2) x y (omega arith) ∙ sym (bit-next m y)

-- the sum of the bits below x, by the first of them
pub sum_first : (f : ℕ → ℕ) (n : ℕ) → sum f (suc n) ≡ f 0 + sum (λ x. f (suc x)) n
unfolding sum
sum_first f zero = omega arith
sum_first f (suc n) = omega (arith, sum_first f n)

-- at most one each
pub sum_bits_most : (m k : ℕ) → sum (bit m) k ≤ k
unfolding sum
sum_bits_most m zero = omega arith
sum_bits_most m (suc k) = omega (arith, bit-most m k, sum_bits_most m k)

-- the count of ones of a number of k bits is the sum of its bits
pub ones_sum : (k m : ℕ) → m < 2 ^ k → ones m ≡ sum (bit m) k
unfolding sum ones
ones_sum zero m h =
    let none : m ≡ 0 = omega arith in
    ap ones none
ones_sum (suc k) m h =
    omega (
      arith,
      ones_step m,
      ones_sum k (m / 2) (half_below m k h),
      sum_first (bit m) k,
      sum_cong (λ x. bit m (suc x)) (bit (m / 2)) k (λ x l. bit-next m x),
      bit-first m,
    )

-- the count of ones under a mask is the sum of the bits below it
pub ones_below : (m x : ℕ) → ones (bit_and m (2 ^ x - 1)) ≡ sum (bit m) x
ones_below m x =
    ap ones (and_mask m x) ∙ ones_sum x (m % 2 ^ x) (mod-lt m (pow_pos x))
    ∙ sum_cong (bit (m % 2 ^ x)) (bit m) x (λ y l. bit_mask m x y l)

-- ---- the lowest one: what trailing_zeros counts, and what m & (m - 1) leaves

under_zero : (d t : ℕ) → d ≡ 0 → under d t ≡ suc t
under_zero zero t e = refl
under_zero (suc d) t e = absurd (omega arith)

under_one : (d t : ℕ) → d ≡ 1 → under d t ≡ 0
under_one zero t e = absurd (omega arith)
under_one (suc d) t e = refl

-- the digit at the bottom, and the lowest one by it
bottom : {A : Type 0} (m : ℕ) → (m % 2 ≡ 0 → A) → (m % 2 ≡ 1 → A) → A
bottom m even odd = elim (ℕ_discrete (m % 2) 0) [ yes e ↦ even e | no n ↦ odd (omega arith) ]

pub lowest_even : (k m : ℕ) → m % 2 ≡ 0 → count_trailing_zeros (suc k) m ≡ suc (count_trailing_zeros k (m / 2))
unfolding count_trailing_zeros
lowest_even k m e = under_zero (m % 2) (count_trailing_zeros k (m / 2)) e

pub lowest_odd : (k m : ℕ) → m % 2 ≡ 1 → count_trailing_zeros (suc k) m ≡ 0
unfolding count_trailing_zeros
lowest_odd k m e = under_one (m % 2) (count_trailing_zeros k (m / 2)) e

-- it is the least place that has a bit; k where none of the k has
pub lowest_least : (k m : ℕ) → count_trailing_zeros k m ≡ least (λ x. eqb (bit m x) 1) k
unfolding count_trailing_zeros least
lowest_least zero m = refl
lowest_least (suc k) m =
    bottom m
    (λ e.
    lowest_even k m e ∙ ap suc (lowest_least k (m / 2))
    ∙ ap (λ (t : ℕ → Bool). suc (least t k)) (fun_ext (λ x. ap (λ (n : ℕ). eqb n 1) (sym (bit-next m x))))
    ∙ sym (least_go (λ x. eqb (bit m x) 1) k (ne_eqb (bit m 0) 1 (λ f. omega (arith, bit-first m)))))
    (λ e. lowest_odd k m e ∙ sym (least_stop (λ x. eqb (bit m x) 1) k (eq-eqb (bit m 0) 1 (bit-first m ∙ e))))

-- of a number of k bits that is not 0: it is one of the k places,
pub lowest_within : (k m : ℕ) → 0 < m → m < 2 ^ k → count_trailing_zeros k m < k
lowest_within zero m p h = absurd (omega arith)
lowest_within (suc k) m p h =
    bottom m
    (λ e. omega (arith, lowest_even k m e, lowest_within k (m / 2) (omega arith) (half_below m k h)))
    (λ e. omega (arith, lowest_odd k m e))

-- the same one in a number of more bits,
pub lowest_same : (k w m : ℕ) → 0 < m → m < 2 ^ k → m < 2 ^ w → count_trailing_zeros k m ≡ count_trailing_zeros w m
lowest_same zero w m p h l = absurd (omega arith)
lowest_same (suc k) zero m p h l = absurd (omega arith)
lowest_same (suc k) (suc w) m p h l =
    bottom m
    (λ e. omega (arith, lowest_even k m e, lowest_even w m e, lowest_same k w (m / 2) (omega arith) (half_below m k h) (half_below m w l)))
    (λ e. omega (arith, lowest_odd k m e, lowest_odd w m e))

-- its bit is set, and those below it are not
pub lowest_set : (k m : ℕ) → count_trailing_zeros k m < k → bit m (count_trailing_zeros k m) ≡ 1
lowest_set k m h =
    let within : least (λ x. eqb (bit m x) 1) k < k = subst (λ (x : ℕ). x < k) (lowest_least k m) h in
    let set : bit m (least (λ x. eqb (bit m x) 1) k) ≡ 1 = eqb-true (bit m (least (λ x. eqb (bit m x) 1) k)) 1 (least_passes (λ x. eqb (bit m x) 1) k within) in
    subst⁻¹ (λ (x : ℕ). bit m x ≡ 1) (lowest_least k m) set

pub lowest_before : (k m x : ℕ) → x < count_trailing_zeros k m → bit m x ≡ 0
lowest_before k m x h =
    let unset : bit m x ≡ 1 → ⊥ = eqb-false (bit m x) 1 (least-before (λ y. eqb (bit m y) 1) k x (subst (λ (y : ℕ). x < y) (lowest_least k m) h)) in
    omega (arith, bit-most m x)

-- m & (m - 1) is m without its lowest one
gone_even : (m : ℕ) → 0 < m → m % 2 ≡ 0 → bit_and m (m - 1) ≡ bit_and (m / 2) (m / 2 - 1) * 2
gone_even m p e =
    let half : (m - 1) / 2 ≡ m / 2 - 1 = omega arith in
    omega (arith, and_step m (m - 1), ap (bit_and (m / 2)) half)

gone_odd : (m : ℕ) → m % 2 ≡ 1 → bit_and m (m - 1) ≡ m / 2 * 2
gone_odd m e =
    let half : (m - 1) / 2 ≡ m / 2 = omega arith in
    omega (arith, and_step m (m - 1), ap (bit_and (m / 2)) half, and_self (m / 2))

pub lowest_gone : (k m : ℕ) → 0 < m → m < 2 ^ k → bit_and m (m - 1) + 2 ^ count_trailing_zeros k m ≡ m
lowest_gone zero m p h = absurd (omega arith)
lowest_gone (suc k) m p h =
    bottom m
    (λ e.
    omega (
      arith,
      gone_even m p e,
      lowest_gone k (m / 2) (omega arith) (half_below m k h),
      ap (λ (x : ℕ). 2 ^ x) (lowest_even k m e),
      pow-suc 2 (count_trailing_zeros k (m / 2)),
    ))
    (λ e.
    let unit : 2 ^ count_trailing_zeros (suc k) m ≡ 1 = ap (λ (x : ℕ). 2 ^ x) (lowest_odd k m e) in
    omega (arith, gone_odd m e))

pub gone_same : (k m : ℕ) → 0 < m → m < 2 ^ k → bit (bit_and m (m - 1)) (count_trailing_zeros k m) ≡ 0
gone_same zero m p h = absurd (omega arith)
gone_same (suc k) m p h =
    bottom m
    (λ e.
    let half : bit_and m (m - 1) / 2 ≡ bit_and (m / 2) (m / 2 - 1) = omega (arith, gone_even m p e) in
    ap (bit (bit_and m (m - 1))) (lowest_even k m e) ∙ bit-next (bit_and m (m - 1)) (count_trailing_zeros k (m / 2))
    ∙ ap (λ (n : ℕ). bit n (count_trailing_zeros k (m / 2))) half ∙ gone_same k (m / 2) (omega arith) (half_below m k h))
    (λ e.
    ap (bit (bit_and m (m - 1))) (lowest_odd k m e) ∙ bit-first (bit_and m (m - 1)) ∙ omega (arith, gone_odd m e))

pub gone_other : (k m x : ℕ) → 0 < m → m < 2 ^ k → (x ≡ count_trailing_zeros k m → ⊥) → bit (bit_and m (m - 1)) x ≡ bit m x
gone_other k m x p h n =
    let rest : ℕ = bit_and m (m - 1) in
    let t : ℕ = count_trailing_zeros k m in
    let whole : bit_or rest (2 ^ t) ≡ m = or_one rest t (gone_same k m p h) ∙ lowest_gone k m p h in
    omega (arith, ap (λ (w : ℕ). bit w x) whole, bit-or rest (2 ^ t) x, bit_one_other t x n)

-- so a sum over the bits of m is the lowest one's share and the sum over the rest
sum_except : (f g : ℕ → ℕ) (n t : ℕ) → t < n → g t ≡ 0 → ((x : ℕ) → (x ≡ t → ⊥) → f x ≡ g x) → sum f n ≡ f t + sum g n
unfolding sum
sum_except f g zero t h z e = absurd (omega arith)
sum_except f g (suc n) t h z e =
    elim (ℕ_discrete n t) [
      | yes same ↦
          omega (arith, sum_cong f g n (λ x l. e x (λ s. omega arith)), ap f same, ap g same)
      | no other ↦ omega (arith, sum_except f g n t (omega arith) z e, e n other)
    ]

pub sum_lowest : (g : ℕ → ℕ) (k m : ℕ) → 0 < m → m < 2 ^ k
    → sum (λ x. bit m x * g x) k ≡ g (count_trailing_zeros k m) + sum (λ x. bit (bit_and m (m - 1)) x * g x) k
sum_lowest g k m p h =
    let t : ℕ = count_trailing_zeros k m in
    let none : bit (bit_and m (m - 1)) t * g t ≡ 0 = ap (λ (n : ℕ). n * g t) (gone_same k m p h) ∙ zero-mul (g t) in
    let share : bit m t * g t ≡ g t = ap (λ (n : ℕ). n * g t) (lowest_set k m (lowest_within k m p h)) ∙ one-mul (g t) in
    sum_except (λ x. bit m x * g x) (λ x. bit (bit_and m (m - 1)) x * g x) k t (lowest_within k m p h) none
    (λ x n. ap (λ (w : ℕ). w * g x) (sym (gone_other k m x p h n)))
    ∙ ap (λ (n : ℕ). n + sum (λ x. bit (bit_and m (m - 1)) x * g x) k) share
