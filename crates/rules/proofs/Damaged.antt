-- The sheet of three, whole and damaged, and the number by which reading refuses it: each number of document 01's list that a sheet can have,
-- in the order in which reading comes to it. One test over the whole table, computed by the checker.
use mathlib.Core.Bool.{Bool, true, ◌&&◌}
use mathlib.Core.List.{List, [], ◌∷◌, ◌++◌}
use Prim.Native.Nat.{ℕ}
use lib.Dec.{T, eqb}
use Rattle.rules.specs.Numbers.{first_of, too_many_bins, bad_budget, room_too_short}
use Rattle.rules.specs.Next.{two_at, length_at, kind_at, body_at, after, bad_length, record_checks}
use Rattle.rules.specs.Read.{then, head_bins, head_outlets, head_budget, head_numbers, head_checks, entry_checks, outlet_checks, outlets_checks, outlets_end, sheet_checks, sheet_end, read_checks}

-- bytes, how many outlets the room holds, and the number
pub record Row : Type 0 where
  pub bytes : List ℕ
  pub room : ℕ
  pub number : ℕ

abbrev row : List ℕ → ℕ → ℕ → Row
row bytes room number = record { bytes = bytes; room = room; number = number }

-- the sheet of three, record by record
abbrev head : List ℕ
head = 3 ∷ 0 ∷ 1 ∷ 0 ∷ 4 ∷ 3 ∷ 4 ∷ []

abbrev first : List ℕ
first = 3 ∷ 0 ∷ 2 ∷ 0 ∷ 0 ∷ 2 ∷ 3 ∷ []

abbrev second : List ℕ
second = 1 ∷ 0 ∷ 2 ∷ 0 ∷ 1 ∷ []

abbrev third : List ℕ
third = 2 ∷ 0 ∷ 2 ∷ 0 ∷ 0 ∷ 3 ∷ []

pub table : List Row
table =
    row (head ++ (first ++ (second ++ third))) 3 0
    -- the head as a record: nothing there; three bytes; an outlet's kind; kind 257; a length of 4; one byte short
    ∷ row [] 3 8
    ∷ row (3 ∷ 0 ∷ 1 ∷ []) 3 8
    ∷ row (3 ∷ 0 ∷ 2 ∷ 0 ∷ 4 ∷ 3 ∷ 4 ∷ []) 3 9
    ∷ row (3 ∷ 0 ∷ 1 ∷ 1 ∷ 4 ∷ 3 ∷ 4 ∷ []) 3 9
    ∷ row (4 ∷ 0 ∷ 1 ∷ 0 ∷ 4 ∷ 3 ∷ 4 ∷ []) 3 10
    ∷ row (3 ∷ 0 ∷ 1 ∷ 0 ∷ 4 ∷ 3 ∷ []) 3 8
    -- after the head: 65 bins, 33 outlets, budget 31; a budget that is not written; a room for two outlets
    ∷ row (3 ∷ 0 ∷ 1 ∷ 0 ∷ 65 ∷ 33 ∷ 31 ∷ []) 0 1
    ∷ row (3 ∷ 0 ∷ 1 ∷ 0 ∷ 64 ∷ 33 ∷ 31 ∷ []) 0 2
    ∷ row (3 ∷ 0 ∷ 1 ∷ 0 ∷ 64 ∷ 32 ∷ 31 ∷ []) 0 3
    ∷ row (3 ∷ 0 ∷ 1 ∷ 0 ∷ 64 ∷ 0 ∷ 255 ∷ []) 0 0
    ∷ row (head ++ (first ++ (second ++ third))) 2 5
    -- the last outlet's record: not there; a head; longer than 64; a byte short; empty, which is no refusal
    ∷ row (head ++ (first ++ second)) 3 8
    ∷ row (head ++ (first ++ (second ++ (2 ∷ 0 ∷ 1 ∷ 0 ∷ 0 ∷ 3 ∷ [])))) 3 9
    ∷ row (head ++ (first ++ (second ++ (65 ∷ 0 ∷ 2 ∷ 0 ∷ 0 ∷ 3 ∷ [])))) 3 10
    ∷ row (head ++ (first ++ (second ++ (2 ∷ 0 ∷ 2 ∷ 0 ∷ 0 ∷ [])))) 3 8
    ∷ row (head ++ (first ++ (second ++ (0 ∷ 0 ∷ 2 ∷ 0 ∷ [])))) 3 0
    -- its entries, one by one: a bin not below the four; the same bin twice; a fall and then a stray bin
    ∷ row (head ++ (first ++ (second ++ (2 ∷ 0 ∷ 2 ∷ 0 ∷ 0 ∷ 4 ∷ [])))) 3 4
    ∷ row (head ++ (first ++ (second ++ (2 ∷ 0 ∷ 2 ∷ 0 ∷ 3 ∷ 3 ∷ [])))) 3 11
    ∷ row (head ++ (first ++ (second ++ (3 ∷ 0 ∷ 2 ∷ 0 ∷ 3 ∷ 0 ∷ 4 ∷ [])))) 3 11
    -- and one byte more
    ∷ row (head ++ (first ++ (second ++ (third ++ (0 ∷ []))))) 3 12
    ∷ []

pub answered : List Row → Bool
answered [] = true
answered (r ∷ l) = eqb (read_checks r.room r.bytes) r.number && answered l

pub damaged : T (answered table)
unfolding table answered first_of too_many_bins bad_budget room_too_short two_at length_at kind_at body_at after bad_length record_checks then head_bins head_outlets head_budget head_numbers head_checks entry_checks outlet_checks outlets_checks outlets_end sheet_checks sheet_end read_checks
damaged = tt
