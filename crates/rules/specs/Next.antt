-- The next record (document 01, 'The job sheet'): what the walk over a sheet answers at every place of it.
use Rattle.std.specs.Prelude.{Bool, true, false, not, ◌&&◌, List, [], ◌∷◌, ◌≡◌, ℕ, ◌+◌, ◌*◌, ltb, eqb, length, get_or, take, drop}
use Rattle.rules.specs.Numbers.{first_of}

-- two bytes, little-endian, at a place
unfoldable pub two_at : List ℕ → ℕ → ℕ
two_at s p = get_or s p 0 + 256 * get_or s (p + 1) 0

-- The record at a place: the length of its body, its kind, its body, and where the next record starts.
unfoldable pub length_at : List ℕ → ℕ → ℕ
length_at s p = two_at s p

unfoldable pub kind_at : List ℕ → ℕ → ℕ
kind_at s p = two_at s (p + 2)

unfoldable pub body_at : List ℕ → ℕ → List ℕ
body_at s p = take (length_at s p) (drop (p + 4) s)

unfoldable pub after : List ℕ → ℕ → ℕ
after s p = p + 4 + length_at s p

-- 10: head length not 3, or outlet record longer than 64
unfoldable pub bad_length : ℕ → ℕ → Bool
bad_length kind n = elim (eqb kind 1) [ true ↦ not (eqb n 3) | false ↦ ltb 64 n ]

-- A record of this kind at a place: fewer than four bytes left is 8; then 9; then 10; then a body past the end, 8.
unfoldable pub record_checks : ℕ → List ℕ → ℕ → ℕ
record_checks kind s p =
    first_of
    ((ltb (length s) (p + 4), 8)
    ∷ (not (eqb (kind_at s p) kind), 9)
    ∷ (bad_length kind (length_at s p), 10)
    ∷ (ltb (length s) (after s p), 8)
    ∷ [])

-- kind 1 at the start, kind 2 after it
unfoldable pub kind_due : ℕ → ℕ
kind_due p = elim (eqb p 0) [ true ↦ 1 | false ↦ 2 ]

-- At the end of the bytes it says so, but an empty sheet is 8.
unfoldable pub at_end : List ℕ → ℕ → Bool
at_end s p = ltb 0 (length s) && eqb p (length s)

-- what the walk answers: a number, the kind, the place and length of the body, and the place to go on from
pub record Record : Type 0 where
  pub number : ℕ
  pub kind : ℕ
  pub start : ℕ
  pub length : ℕ
  pub next : ℕ

-- The answer r at a place of a sheet s.
pub record NextRecord (s : List ℕ) (place : ℕ) (r : Record) : Type 0 where
  -- the end is number 0 and kind 0, and the place stays;
  pub end : at_end s place ≡ true → r ≡ record { number = 0; kind = 0; start = 0; length = 0; next = place }
  -- so it does after a refusal: its number, and 0 for every other number;
  pub refused : at_end s place ≡ false → (record_checks (kind_due place) s place ≡ 0 → ⊥) → r ≡ record { number = record_checks (kind_due place) s place; kind = 0; start = 0; length = 0; next = place }
  -- else a record: its kind, the place and length of its body, and the place after it
  pub found : at_end s place ≡ false → record_checks (kind_due place) s place ≡ 0 → r ≡ record { number = 0; kind = kind_due place; start = place + 4; length = length_at s place; next = after s place }
