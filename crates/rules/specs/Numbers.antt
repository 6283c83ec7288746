-- The numbers by which a job is refused (document 01, 'Operations and numbers returned'): when, and only then. Each operation lists its checks in its own order.
use Rattle.std.specs.Prelude.{Bool, true, false, not, ◌&&◌, ◌||◌, List, [], ◌∷◌, ℕ, ltb, eqb, length}
use Rattle.rules.specs.Sum.{every}
use Rattle.rules.specs.Crossing.{bit, places, times}

-- 1: more than 64 bins
unfoldable pub too_many_bins : ℕ → Bool
too_many_bins bins = ltb 64 bins

-- 2: more than 32 outlets
unfoldable pub too_many_outlets : List ℕ → Bool
too_many_outlets outlets = ltb 32 (length outlets)

-- 3: budget above 30, other than 255 for "not written"
unfoldable pub bad_budget : ℕ → Bool
bad_budget k = ltb 30 k && not (eqb k 255)

-- 4: a hose from a bin number not below the bins
unfoldable pub stray_hose : ℕ → ℕ → Bool
stray_hose bins m = not (every (λ x. ltb x bins || eqb (bit m x) 0) places)

unfoldable pub stray_hoses : ℕ → List ℕ → Bool
stray_hoses bins [] = false
stray_hoses bins (m ∷ outlets) = stray_hose bins m || stray_hoses bins outlets

-- 5: lent room shorter than the answer needs
unfoldable pub room_too_short : ℕ → ℕ → Bool
room_too_short needed room = ltb room needed

-- 7: not an order: wrong length, an outlet not on the rail, or one repeated
unfoldable pub not_an_order : ℕ → List ℕ → Bool
not_an_order n l = not (eqb (length l) n && every (λ o. eqb (times o l) 1) n)

-- the number of the first check that holds; 0, done, where none does
unfoldable pub first_of : List (Bool × ℕ) → ℕ
first_of [] = 0
first_of (check ∷ later) = elim check.0 [ true ↦ check.1 | false ↦ first_of later ]

-- A job's own checks, in the order 1, 2, 3, 4.
unfoldable pub job_checks : ℕ → List ℕ → ℕ → ℕ
job_checks bins outlets k =
    first_of
    ((too_many_bins bins, 1) ∷ (too_many_outlets outlets, 2) ∷ (bad_budget k, 3) ∷ (stray_hoses bins outlets, 4) ∷ [])
