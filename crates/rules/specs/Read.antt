-- Reading a sheet (document 01, 'The job sheet' and 'Operations and numbers returned'): what it answers for every row of bytes.
-- A sheet is read from a place on, whatever follows it; that nothing does is the last check.
use Rattle.std.specs.Prelude.{not, List, [], ◌∷◌, ◌++◌, ◌≡◌, ℕ, zero, suc, ◌+◌, ltb, length, get_or, drop}
use Rattle.rules.specs.Crossing.{Bins, set_of}
use Rattle.rules.specs.Numbers.{first_of, too_many_bins, bad_budget, room_too_short}
use Rattle.rules.specs.Next.{body_at, after, record_checks}

-- a refusal, or what is looked at then
unfoldable pub then : ℕ → ℕ → ℕ
then zero later = later
then (suc number) later = suc number

-- The head at a place: bins, outlets, budget, one byte each.
unfoldable pub head_bins : List ℕ → ℕ → ℕ
head_bins s p = get_or s (p + 4) 0

unfoldable pub head_outlets : List ℕ → ℕ → ℕ
head_outlets s p = get_or s (p + 5) 0

unfoldable pub head_budget : List ℕ → ℕ → ℕ
head_budget s p = get_or s (p + 6) 0

-- After the head: 1, 2, 3, 5. `room` is how many outlets the lent room holds.
unfoldable pub head_numbers : ℕ → ℕ → ℕ → ℕ → ℕ
head_numbers room bins outlets k =
    first_of
    ((too_many_bins bins, 1)
    ∷ (ltb 32 outlets, 2)
    ∷ (bad_budget k, 3)
    ∷ (room_too_short outlets room, 5)
    ∷ [])

unfoldable pub head_checks : ℕ → List ℕ → ℕ → ℕ
head_checks room s p = then (record_checks 1 s p) (head_numbers room (head_bins s p) (head_outlets s p) (head_budget s p))

-- In an outlet record, entry by entry, 4 before 11: an entry not below the bins, or below the least that is above the entry before it.
unfoldable pub entry_checks : ℕ → ℕ → Bins → ℕ
entry_checks bins least [] = 0
entry_checks bins least (b ∷ entries) =
    then (first_of ((not (ltb b bins), 4) ∷ (ltb b least, 11) ∷ [])) (entry_checks bins (suc b) entries)

unfoldable pub outlet_checks : ℕ → List ℕ → ℕ → ℕ
outlet_checks bins s p = then (record_checks 2 s p) (entry_checks bins 0 (body_at s p))

-- n outlet records, one after the other from a place on: their checks, where they end, and the set of each
unfoldable pub outlets_checks : ℕ → ℕ → List ℕ → ℕ → ℕ
outlets_checks bins zero s p = 0
outlets_checks bins (suc n) s p = then (outlet_checks bins s p) (outlets_checks bins n s (after s p))

unfoldable pub outlets_end : ℕ → List ℕ → ℕ → ℕ
outlets_end zero s p = p
outlets_end (suc n) s p = outlets_end n s (after s p)

unfoldable pub outlet_sets : ℕ → List ℕ → ℕ → List ℕ
outlet_sets zero s p = []
outlet_sets (suc n) s p = set_of (body_at s p) ∷ outlet_sets n s (after s p)

-- A sheet from a place on: record by record, the head and then as many outlets as it says.
unfoldable pub sheet_checks : ℕ → List ℕ → ℕ → ℕ
sheet_checks room s p = then (head_checks room s p) (outlets_checks (head_bins s p) (head_outlets s p) s (after s p))

unfoldable pub sheet_end : List ℕ → ℕ → ℕ
sheet_end s p = outlets_end (head_outlets s p) s (after s p)

unfoldable pub sheet_sets : List ℕ → ℕ → List ℕ
sheet_sets s p = outlet_sets (head_outlets s p) s (after s p)

-- At the end 12: bytes after the last record.
unfoldable pub read_checks : ℕ → List ℕ → ℕ
read_checks room s = then (sheet_checks room s 0) (first_of ((ltb (sheet_end s 0) (length s), 12) ∷ []))

-- what reading answers: a number, the bins, how many outlets, the budget, and what the lent room then holds
pub record Job : Type 0 where
  pub number : ℕ
  pub bins : ℕ
  pub outlets : ℕ
  pub budget : ℕ
  pub room : List ℕ

-- The answer r of reading the bytes s with a lent room that held `before`.
pub record SheetRead (s before : List ℕ) (r : Job) : Type 0 where
  -- a refusal: its number, 0 for every other number, and the room as it was, also where the last of all records is the bad one
  pub refused : (read_checks (length before) s ≡ 0 → ⊥) → r ≡ record { number = read_checks (length before) s; bins = 0; outlets = 0; budget = 0; room = before }
  -- else done: the head's numbers, the budget as it stands there, 255 where none is written;
  pub done : read_checks (length before) s ≡ 0 → r.number ≡ 0
  pub bins : read_checks (length before) s ≡ 0 → r.bins ≡ head_bins s 0
  pub outlets : read_checks (length before) s ≡ 0 → r.outlets ≡ head_outlets s 0
  pub budget : read_checks (length before) s ≡ 0 → r.budget ≡ head_budget s 0
  -- and in front of the room one set an outlet, the rest of it as before
  pub filled : read_checks (length before) s ≡ 0 → r.room ≡ sheet_sets s 0 ++ drop (head_outlets s 0) before
