-- One answer fits a reading: two that do are equal, the lent room with them. And the laws of one thing looked at after another (`then`).
use mathlib.Core.Path.{◌≡◌, refl, sym, ◌∙◌}
use mathlib.Core.List.{List}
use Prim.Native.Nat.{ℕ, zero, suc}
use native.Mathlib.Omega.{arith}
use native.Mathlib.Decide.{ℕ_discrete}
use lib.ListN.{length}
use Rattle.rules.specs.Read.{Job, SheetRead, read_checks, then}

-- answers are equal where their parts are
pub same_job : (q r : Job) → q.number ≡ r.number → q.bins ≡ r.bins → q.outlets ≡ r.outlets → q.budget ≡ r.budget → q.room ≡ r.room → q ≡ r
same_job q r n b o k m i = record { number = n i; bins = b i; outlets = o i; budget = k i; room = m i }

pub only_one : (s before : List ℕ) (q r : Job) → SheetRead s before q → SheetRead s before r → q ≡ r
only_one s before q r Q R = by_checks (ℕ_discrete (read_checks (length before) s) 0)
  where
    by_checks : Dec (read_checks (length before) s ≡ 0) → q ≡ r
    by_checks (no n) = Q.refused n ∙ sym (R.refused n)
    by_checks (yes e) =
        same_job q r
        (Q.done e ∙ sym (R.done e))
        (Q.bins e ∙ sym (R.bins e))
        (Q.outlets e ∙ sym (R.outlets e))
        (Q.budget e ∙ sym (R.budget e))
        (Q.filled e ∙ sym (R.filled e))

-- what `then` says where the first thing is a refusal, and where it is none
pub then-first : (a later : ℕ) → (a ≡ 0 → ⊥) → then a later ≡ a
unfolding then
then-first zero later n = absurd (n refl)
then-first (suc a) later n = refl

pub then_later : (a later : ℕ) → a ≡ 0 → then a later ≡ later
unfolding then
then_later zero later e = refl
then_later (suc a) later e = absurd (omega arith)

pub then-passed : (a later : ℕ) → then a later ≡ 0 → (a ≡ 0) × (later ≡ 0)
unfolding then
then-passed zero later e = (refl, e)
then-passed (suc a) later e = absurd (omega arith)
