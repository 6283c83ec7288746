-- The count (document 01, 'Operations and numbers returned'): what it answers for every input, refused or not.
use Rattle.std.specs.Prelude.{List, [], ◌∷◌, ◌≡◌, ℕ, length}
use Rattle.rules.specs.Crossing.{crossings}
use Rattle.rules.specs.Rail.{cost}
use Rattle.rules.specs.Numbers.{first_of, too_many_bins, too_many_outlets, stray_hoses, not_an_order}

-- The checks of a rail that comes with no budget: 1, 2, 4.
unfoldable pub rail_checks : ℕ → List ℕ → ℕ
rail_checks bins outlets =
    first_of ((too_many_bins bins, 1) ∷ (too_many_outlets outlets, 2) ∷ (stray_hoses bins outlets, 4) ∷ [])

-- Check order 1, 2, 4, 7.
unfoldable pub count_checks : ℕ → List ℕ → List ℕ → ℕ
count_checks bins outlets order =
    first_of
    ((too_many_bins bins, 1)
    ∷ (too_many_outlets outlets, 2)
    ∷ (stray_hoses bins outlets, 4)
    ∷ (not_an_order (length outlets) order, 7)
    ∷ [])

-- what a count answers: a number and the crossings
pub record CountAnswer : Type 0 where
  pub number : ℕ
  pub count : ℕ

-- The answer r of a count over bins, outlets and an order.
pub record Counted (bins : ℕ) (outlets order : List ℕ) (r : CountAnswer) : Type 0 where
  -- a refusal: its number, and 0
  pub refused : (count_checks bins outlets order ≡ 0 → ⊥) → r ≡ record { number = count_checks bins outlets order; count = 0 }
  -- else 0, and the order's crossings
  pub counted : count_checks bins outlets order ≡ 0 → r ≡ record { number = 0; count = crossings (cost outlets) order }
