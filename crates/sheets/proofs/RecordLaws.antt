-- The record of a kind at a place: what its checks say on each way, and what is known where they say 0; and where the bytes end.
use mathlib.Core.Path.{◌≡◌, refl, sym, ◌∙◌}
use mathlib.Core.Bool.{Bool, true, false, not, ◌&&◌}
use mathlib.Core.List.{List}
use Prim.Native.Nat.{ℕ, ◌+◌, ◌<◌, ◌≤◌}
use native.Mathlib.Omega.{arith}
use lib.Dec.{ltb, eqb}
use lib.ListN.{length}
use borrow.Author.Tests.{lt-ltb, le-ltb, eq-eqb, ne_eqb, ltb-false, eqb-true, not-false}
use Rattle.rules.specs.Numbers.{first_of}
use Rattle.rules.specs.Next.{length_at, kind_at, after, bad_length, record_checks, kind_due, at_end}
use Rattle.rules.proofs.Checks.{first-none}

and-false : (b : Bool) → (b && false) ≡ false
and-false true = refl
and-false false = refl

-- kind 1 at the start, kind 2 after it; the head's length is 3, an outlet record's at most 64
pub head_due : (p : ℕ) → p ≡ 0 → kind_due p ≡ 1
unfolding kind_due
head_due p e = rw (eq-eqb p 0 e, kind_due)

pub outlet_due : (p : ℕ) → (p ≡ 0 → ⊥) → kind_due p ≡ 2
unfolding kind_due
outlet_due p n = rw (ne_eqb p 0 n, kind_due)

pub head_length : (kind n : ℕ) → kind ≡ 1 → bad_length kind n ≡ not (eqb n 3)
unfolding bad_length
head_length kind n e = rw (eq-eqb kind 1 e, bad_length)

pub outlet_length : (kind n : ℕ) → (kind ≡ 1 → ⊥) → bad_length kind n ≡ ltb 64 n
unfolding bad_length
outlet_length kind n e = rw (ne_eqb kind 1 e, bad_length)

pub head_is_three : (n : ℕ) → bad_length 1 n ≡ false → n ≡ 3
head_is_three n e = eqb-true n 3 (not-false (eqb n 3) (sym (head_length 1 n refl) ∙ e))

module _ (kind : ℕ) (s : List ℕ) (p : ℕ) where
  pub fewer_than_four : length s < p + 4 → record_checks kind s p ≡ 8
  unfolding record_checks first_of
  fewer_than_four h = rw (lt-ltb (length s) (p + 4) h)

  pub other_kind : p + 4 ≤ length s → (kind_at s p ≡ kind → ⊥) → record_checks kind s p ≡ 9
  unfolding record_checks first_of
  other_kind h k = rw (le-ltb (length s) (p + 4) h, ne_eqb (kind_at s p) kind k)

  pub wrong_length : p + 4 ≤ length s → kind_at s p ≡ kind → bad_length kind (length_at s p) ≡ true → record_checks kind s p ≡ 10
  unfolding record_checks first_of
  wrong_length h k l = rw (le-ltb (length s) (p + 4) h, eq-eqb (kind_at s p) kind k, l)

  pub body_past_the_end : p + 4 ≤ length s → kind_at s p ≡ kind → bad_length kind (length_at s p) ≡ false → length s < after s p → record_checks kind s p ≡ 8
  unfolding record_checks first_of
  body_past_the_end h k l e = rw (le-ltb (length s) (p + 4) h, eq-eqb (kind_at s p) kind k, l, lt-ltb (length s) (after s p) e)

  -- a whole record
  pub record Whole : Type 0 where
    pub four : p + 4 ≤ length s
    pub of_kind : kind_at s p ≡ kind
    pub good_length : bad_length kind (length_at s p) ≡ false
    pub fits : after s p ≤ length s

  pub whole : Whole → record_checks kind s p ≡ 0
  unfolding record_checks first_of
  whole w = rw (le-ltb (length s) (p + 4) w.four, eq-eqb (kind_at s p) kind w.of_kind, w.good_length, le-ltb (length s) (after s p) w.fits)

  pub is_whole : record_checks kind s p ≡ 0 → Whole
  unfolding record_checks
  is_whole e =
      let one = first-none (ltb (length s) (p + 4)) 8 _ (omega arith) e in
      let two = first-none (not (eqb (kind_at s p) kind)) 9 _ (omega arith) one.1 in
      let three = first-none (bad_length kind (length_at s p)) 10 _ (omega arith) two.1 in
      let four = first-none (ltb (length s) (after s p)) 8 _ (omega arith) three.1 in
      record { four = ltb-false _ _ one.0; of_kind = eqb-true _ _ (not-false _ two.0); good_length = three.0; fits = ltb-false _ _ four.0 }

-- a record that passes lies within the sheet, and a head's body is three bytes
pub record_fits : (kind : ℕ) (s : List ℕ) (p : ℕ) → record_checks kind s p ≡ 0 → after s p ≤ length s
record_fits kind s p e = (is_whole kind s p e).fits

pub body_starts : (s : List ℕ) (p : ℕ) → p + 4 ≤ after s p
unfolding after
body_starts s p = omega arith

pub head_fits : (s : List ℕ) (p : ℕ) → record_checks 1 s p ≡ 0 → p + 7 ≤ length s
unfolding after
head_fits s p e = let w = is_whole 1 s p e in omega (arith, w.fits, head_is_three (length_at s p) w.good_length)

-- the end of the bytes
module _ (s : List ℕ) (p : ℕ) where
  pub at_the_end : 0 < length s → p ≡ length s → at_end s p ≡ true
  unfolding at_end
  at_the_end h e = rw (lt-ltb 0 (length s) h, eq-eqb p (length s) e, at_end)

  pub empty_sheet : length s ≤ 0 → at_end s p ≡ false
  unfolding at_end
  empty_sheet h = rw (le-ltb 0 (length s) h, at_end)

  pub not_the_end : (p ≡ length s → ⊥) → at_end s p ≡ false
  unfolding at_end
  not_the_end n = rw (ne_eqb p (length s) n, at_end) (and-false (ltb 0 (length s)))
