-- The search (document 01, 'Operations and numbers returned'): what it answers for every input, refused or not.
use Rattle.std.specs.Prelude.{List, [], ◌∷◌, ◌++◌, ◌↔◌, ◌≡◌, ℕ, ◌+◌, ◌≤◌, length, drop}
use Rattle.rules.specs.Crossing.{IsOrder, crossings}
use Rattle.rules.specs.Walk.{found, F}
use Rattle.rules.specs.Rail.{cost, budget, searched}
use Rattle.rules.specs.Numbers.{first_of, too_many_bins, too_many_outlets, bad_budget, stray_hoses, room_too_short}

-- Check order 1, 2, 3, 4, 5, then the walk.
unfoldable pub search_checks : ℕ → List ℕ → ℕ → List ℕ → ℕ
search_checks bins outlets k room =
    first_of
    ((too_many_bins bins, 1)
    ∷ (too_many_outlets outlets, 2)
    ∷ (bad_budget k, 3)
    ∷ (stray_hoses bins outlets, 4)
    ∷ (room_too_short (length outlets) (length room), 5)
    ∷ [])

-- an order of the rail with no more crossings than the budget
pub record OrderWithin (outlets : List ℕ) (k : ℕ) : Type 0 where
  pub order : List ℕ
  pub is_order : IsOrder (length outlets) order
  pub within : crossings (cost outlets) order ≤ budget k

-- what a search answers: a number, the crossings, the cases, and what the lent room then holds
pub record Found : Type 0 where
  pub number : ℕ
  pub count : ℕ
  pub cases : ℕ
  pub room : List ℕ

-- what a yes hands over: the walk's order at the front of the room, the rest of the room as before, and that order's crossings
pub record Handed (outlets : List ℕ) (k : ℕ) (before : List ℕ) (r : Found) : Type 0 where
  pub order : List ℕ
  pub walks : (searched outlets k).end ≡ found order
  pub front : r.room ≡ order ++ drop (length outlets) before
  pub counted : r.count ≡ crossings (cost outlets) order

-- The answer r of a search over bins, outlets, a budget k and a lent room that held `before`.
pub record Searched (bins : ℕ) (outlets : List ℕ) (k : ℕ) (before : List ℕ) (r : Found) : Type 0 where
  -- a refusal: its number, 0 and 0, and the room as it was
  pub refused : (search_checks bins outlets k before ≡ 0 → ⊥) → r ≡ record { number = search_checks bins outlets k before; count = 0; cases = 0; room = before }
  -- 0 exactly if some order has no more crossings than the budget,
  pub yes : search_checks bins outlets k before ≡ 0 → (r.number ≡ 0) ↔ OrderWithin outlets k
  -- and then an order of the walk's;
  pub order : search_checks bins outlets k before ≡ 0 → r.number ≡ 0 → Handed outlets k before r
  -- else 6, 0 crossings, and the room as it was
  pub no : search_checks bins outlets k before ≡ 0 → (r.number ≡ 0 → ⊥) → (r.number ≡ 6) × (r.count ≡ 0) × (r.room ≡ before)
  -- the cases that the walk opened, answered or not, never above F(k + 3) - 1
  pub opened : search_checks bins outlets k before ≡ 0 → (r.cases ≡ (searched outlets k).cases) × (r.cases + 1 ≤ F (budget k + 3))
