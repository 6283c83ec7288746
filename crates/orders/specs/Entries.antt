-- The entries of a row that is to be an order of n outlets, place by place. The check of an order 'stops at the first outlet that repeats or
-- isn't on the rail' (document 01).
use Rattle.std.specs.Prelude.{Bool, not, ◌||◌, List, ℕ, ◌<◌, leb, eqb, length, get_or}
use Rattle.rules.specs.Sum.{every, least}

-- the entry at a place is no outlet of the rail
unfoldable pub off_rail : ℕ → List ℕ → ℕ → Bool
off_rail n row place = leb n (get_or row place 0)

-- it stands at an earlier place too
unfoldable pub repeats : List ℕ → ℕ → Bool
repeats row place = not (every (λ earlier. not (eqb (get_or row earlier 0) (get_or row place 0))) place)

unfoldable pub bad : ℕ → List ℕ → ℕ → Bool
bad n row place = off_rail n row place || repeats row place

-- the place of the first bad entry; the row's length where there is none
unfoldable pub first_bad : ℕ → List ℕ → ℕ
first_bad n row = least (bad n row) (length row)

-- every entry is an outlet of the rail
abbrev pub OnRail : ℕ → List ℕ → Type 0
OnRail n row = (place : ℕ) → place < length row → get_or row place 0 < n
