-- One answer fits a count: two that do are equal. What fits a refused count and one that is not, and what is then known of the order.
use mathlib.Core.Path.{◌≡◌, sym, ◌∙◌, ap}
use mathlib.Core.List.{List, []}
use Prim.Native.Nat.{ℕ}
use native.Mathlib.Decide.{ℕ_discrete}
use native.Mathlib.Omega.{arith}
use lib.ListN.{length}
use Rattle.rules.specs.Crossing.{IsOrder, crossings}
use Rattle.rules.specs.Rail.{cost}
use Rattle.rules.specs.Numbers.{not_an_order}
use Rattle.rules.specs.Count.{CountAnswer, Counted, rail_checks, count_checks}
use Rattle.rules.proofs.Checks.{first-none, JobFits, job_fits, no-budget, count_rail, count-order}
use Rattle.rules.proofs.Orders.{test_order}

pub only_one : (bins : ℕ) (outlets order : List ℕ) (r s : CountAnswer) → Counted bins outlets order r → Counted bins outlets order s → r ≡ s
only_one bins outlets order r s R S =
    elim (ℕ_discrete (count_checks bins outlets order) 0) [
      | yes e ↦ R.counted e ∙ sym (S.counted e)
      | no n ↦ R.refused n ∙ sym (S.refused n)
    ]

abbrev answer : ℕ → ℕ → CountAnswer
answer number count = record { number = number; count = count }

pub is_refused : (bins : ℕ) (outlets order : List ℕ) (number : ℕ) → count_checks bins outlets order ≡ number → (number ≡ 0 → ⊥)
    → Counted bins outlets order (record { number = number; count = 0 })
is_refused bins outlets order number e some = record
    { refused = λ n. ap (λ (k : ℕ). answer k 0) (sym e); counted = λ none. absurd (some (sym e ∙ none)) }

pub is_counted : (bins : ℕ) (outlets order : List ℕ) (count : ℕ) → count_checks bins outlets order ≡ 0 → count ≡ crossings (cost outlets) order
    → Counted bins outlets order (record { number = 0; count = count })
is_counted bins outlets order count e c = record { refused = λ n. absurd (n e); counted = λ none. ap (answer 0) c }

-- where no check holds, the rail fits and the row is an order of it
pub record CountFits (bins : ℕ) (outlets order : List ℕ) : Type 0 where
  pub rail : JobFits bins outlets 0
  pub is_order : IsOrder (length outlets) order

pub count_fits : (bins : ℕ) (outlets order : List ℕ) → count_checks bins outlets order ≡ 0 → CountFits bins outlets order
count_fits bins outlets order e = by_rail (ℕ_discrete (rail_checks bins outlets) 0)
  where
    by_rail : Dec (rail_checks bins outlets ≡ 0) → CountFits bins outlets order
    by_rail (no n) = absurd (n (sym (count_rail bins outlets order n) ∙ e))
    by_rail (yes r) = record {
      rail = job_fits bins outlets 0 (no-budget bins outlets ∙ r);
      is_order = test_order (length outlets) order (first-none (not_an_order (length outlets) order) 7 [] (omega arith) (sym (count-order bins outlets order r) ∙ e)).0;
    }
