-- Laws of tests: what a test by 'or', 'and', 'not' says, both ways. Both halves of an 'and', and a value that counts only where a test passes, have
-- their laws beside the rules, where sums need them; they can be cited from here too.
use mathlib.Core.Bool.{Bool, true, false, not, ◌&&◌, ◌||◌, true≢false, false≢true}
use mathlib.Core.Logic.{◌⊎◌, inl, inr}
use mathlib.Core.Path.{◌≡◌, refl, sym, ◌∙◌}
use Prim.Native.Nat.{ℕ}
use borrow.Author.Tests.{eqb-true, eq-eqb}
use lib.Dec.{eqb}
pub use Rattle.rules.proofs.Sums.{and_left, and_right, OneOf, only_if_so, only_if_not}
pub use Rattle.rules.proofs.Sums.{only_if_most, only_if_one, only_if_under, only_if_one_of, only_if_wider}

-- passed or not
pub either : (t : Bool) → (t ≡ true) ⊎ (t ≡ false)
either true = inl refl
either false = inr refl

pub never_both : {t : Bool} → t ≡ true → t ≡ false → ⊥
never_both p q = true≢false (sym p ∙ q)

pub not_passed : (t : Bool) → (t ≡ true → ⊥) → t ≡ false
not_passed true h = absurd (h refl)
not_passed false h = refl

pub or_cases : (s t : Bool) → (s || t) ≡ true → (s ≡ true) ⊎ (t ≡ true)
or_cases true t e = inl refl
or_cases false t e = inr e

pub or_first : (s t : Bool) → s ≡ true → (s || t) ≡ true
or_first true t e = refl
or_first false t e = absurd (false≢true e)

pub or_second : (s t : Bool) → t ≡ true → (s || t) ≡ true
or_second true t e = refl
or_second false t e = e

pub and_both : (s t : Bool) → s ≡ true → t ≡ true → (s && t) ≡ true
and_both true t e f = f
and_both false t e f = e

pub not_so : (t : Bool) → t ≡ false → not t ≡ true
not_so true e = sym e
not_so false e = refl

pub so_not : (t : Bool) → t ≡ true → not t ≡ false
so_not true e = refl
so_not false e = sym e

-- the same number, or something else
pub eq_or_cases : (x y : ℕ) (t : Bool) → (eqb x y || t) ≡ true → (x ≡ y) ⊎ (t ≡ true)
eq_or_cases x y t e = elim (or_cases (eqb x y) t e) [ inl p ↦ inl (eqb-true x y p) | inr q ↦ inr q ]

pub eq_or : (x y : ℕ) (t : Bool) → (x ≡ y) ⊎ (t ≡ true) → (eqb x y || t) ≡ true
eq_or x y t (inl p) = or_first (eqb x y) t (eq-eqb x y p)
eq_or x y t (inr q) = or_second (eqb x y) t q

-- tests that pass together are one
pub same_test : (s t : Bool) → (s ≡ true → t ≡ true) → (t ≡ true → s ≡ true) → s ≡ t
same_test true t f g = sym (f refl)
same_test false true f g = g refl
same_test false false f g = refl
