-- The entries of an outlet record, one by one: what the checks say at the first of them, and what a loop along them keeps.
use mathlib.Core.Path.{◌≡◌, sym, ◌∙◌, ap}
use mathlib.Core.List.{List, [], ◌∷◌}
use Prim.Native.Nat.{ℕ, suc, ◌+◌, ◌*◌, ◌%◌, ◌^◌, ◌<◌, ◌≤◌}
use native.Mathlib.Omega.{arith}
use native.Mathlib.Nat.{le_refl}
use native.Mathlib.Numerals.{add-one}
use lib.ListN.{length, get_or, drop, drop_of_length-le}
use lib.Seq.{drop-cons}
use lib.Bits.{bit_or}
use lib.Pow.{pow_mono}
use borrow.Author.Tests.{lt-ltb, le-ltb}
use Rattle.rules.specs.Crossing.{set_of}
use Rattle.rules.specs.Numbers.{first_of}
use Rattle.rules.specs.Read.{then, entry_checks}
use Rattle.hoses.proofs.Bits.{bit-beyond, shl_one, or_one}

module _ (bins least b : ℕ) (l : List ℕ) where
  pub stray_entry : bins ≤ b → entry_checks bins least (b ∷ l) ≡ 4
  unfolding entry_checks then first_of
  stray_entry h = rw (le-ltb b bins h)

  pub falling_entry : b < bins → b < least → entry_checks bins least (b ∷ l) ≡ 11
  unfolding entry_checks then first_of
  falling_entry h f = rw (lt-ltb b bins h, lt-ltb b least f)

  pub rising_entry : b < bins → least ≤ b → entry_checks bins least (b ∷ l) ≡ entry_checks bins (suc b) l
  unfolding entry_checks then first_of
  rising_entry h r = rw (lt-ltb b bins h, le-ltb b least r)

-- a bin above all of a set's is a further bit of it
pub with_bin : (set b : ℕ) → set < 2 ^ b → b < 64 → bit_or set ((1 * 2 ^ b) % 2 ^ 64) ≡ set + 2 ^ b
with_bin set b h k = ap (bit_or set) (shl_one 64 b k) ∙ or_one set b (bit-beyond set b b h (le_refl b))

-- What holds where i entries of a body are read: the set of them, and the least that the next may be.
pub record Entering (bins : ℕ) (s : List ℕ) (i set least : ℕ) : Type 0 where
  pub small : least ≤ 64
  pub below : set < 2 ^ least
  pub checks : entry_checks bins least (drop i s) ≡ entry_checks bins 0 s
  pub sets : set + set_of (drop i s) ≡ set_of s

module _ (bins : ℕ) (s : List ℕ) (i set least : ℕ) (e : Entering bins s i set least) where
  -- the next entry
  module _ (b : ℕ) (eb : b ≡ get_or s i 0) (h : i < length s) where
    ahead : drop i s ≡ b ∷ drop (i + 1) s
    ahead = rw (eb, add-one i) (drop-cons s i 0 h)

    pub stray_at : bins ≤ b → 4 ≡ entry_checks bins 0 s
    stray_at l = sym (stray_entry bins least b (drop (i + 1) s) l) ∙ (rw ahead at e.checks)

    pub falling_at : b < bins → b < least → 11 ≡ entry_checks bins 0 s
    falling_at l f = sym (falling_entry bins least b (drop (i + 1) s) l f) ∙ (rw ahead at e.checks)

    pub entered_at : bins ≤ 64 → b < bins → least ≤ b → Entering bins s (i + 1) (bit_or set ((1 * 2 ^ b) % 2 ^ 64)) (b + 1)
    unfolding set_of
    entered_at few l r =
        let under : set < 2 ^ b = omega (arith, e.below, pow_mono r) in
        let bit : bit_or set ((1 * 2 ^ b) % 2 ^ 64) ≡ set + 2 ^ b = with_bin set b under (omega arith) in
        record {
          small = omega arith;
          below = omega (arith, bit, ap (λ (n : ℕ). 2 ^ n) (add-one b));
          checks = ap (λ (n : ℕ). entry_checks bins n (drop (i + 1) s)) (add-one b) ∙ sym (rising_entry bins least b (drop (i + 1) s) l r) ∙ (rw ahead at e.checks);
          sets = omega (arith, bit, ap set_of ahead, e.sets);
        }

  -- all entries are read
  module _ (h : length s ≤ i) where
    none_left : drop i s ≡ []
    none_left = drop_of_length-le s h

    pub all_checked : 0 ≡ entry_checks bins 0 s
    unfolding entry_checks
    all_checked = sym (ap (entry_checks bins least) none_left) ∙ e.checks

    pub all_entered : set ≡ set_of s
    unfolding set_of
    all_entered = omega (arith, e.sets, ap set_of none_left)
