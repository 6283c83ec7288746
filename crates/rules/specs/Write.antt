-- Writing a sheet (document 01, 'Operations and numbers returned'): what it answers for every job and every lent room.
use Rattle.std.specs.Prelude.{List, [], ◌∷◌, ◌++◌, ◌≡◌, ℕ, length, drop}
use Rattle.rules.specs.Numbers.{first_of, too_many_bins, too_many_outlets, bad_budget, stray_hoses, room_too_short}
use Rattle.rules.specs.Sheet.{sheet_of}

-- Check order 1, 2, 3, 4, 5.
unfoldable pub write_checks : ℕ → List ℕ → ℕ → List ℕ → ℕ
write_checks bins outlets k room =
    first_of
    ((too_many_bins bins, 1)
    ∷ (too_many_outlets outlets, 2)
    ∷ (bad_budget k, 3)
    ∷ (stray_hoses bins outlets, 4)
    ∷ (room_too_short (length (sheet_of bins outlets k)) (length room), 5)
    ∷ [])

-- what writing answers: a number, the sheet's length, and what the lent room then holds
pub record Written : Type 0 where
  pub number : ℕ
  pub length : ℕ
  pub room : List ℕ

-- The answer r of writing bins, outlets and a budget k into a lent room that held `before`.
pub record SheetWritten (bins : ℕ) (outlets : List ℕ) (k : ℕ) (before : List ℕ) (r : Written) : Type 0 where
  -- a refusal: its number, 0, and the room as it was
  pub refused : (write_checks bins outlets k before ≡ 0 → ⊥) → r ≡ record { number = write_checks bins outlets k before; length = 0; room = before }
  -- else done: the sheet's length,
  pub done : write_checks bins outlets k before ≡ 0 → r.number ≡ 0
  pub long : write_checks bins outlets k before ≡ 0 → r.length ≡ length (sheet_of bins outlets k)
  -- and its bytes in front of the room, the bytes after them as before
  pub filled : write_checks bins outlets k before ≡ 0 → r.room ≡ sheet_of bins outlets k ++ drop (length (sheet_of bins outlets k)) before
