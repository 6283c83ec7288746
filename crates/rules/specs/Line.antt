-- The program's line (document 01, 'The job sheet'): its bytes for each answer, and what it is for every row of bytes handed to the program.
use Rattle.std.specs.Prelude.{true, false, List, [], ◌∷◌, ◌++◌, map, ◌≡◌, ℕ, zero, suc, ◌+◌, ◌/◌, ◌%◌, ◌≤◌, ltb, eqb, length, take, drop, replicate}
use Rattle.rules.specs.Text.{text}
use Rattle.rules.specs.Read.{Job, SheetRead}
use Rattle.rules.specs.Search.{Found, Searched}

-- A word of a line, as its bytes.
abbrev pub Word : Type 0
Word = List ℕ

abbrev pub blank : ℕ
blank = 32

abbrev pub line_feed : ℕ
line_feed = 10

-- A number in decimal, without leading zeros: its last digit behind those of a tenth of it. (`most` digits at most; n has no more than n + 1.)
abbrev pub digit : ℕ → ℕ
digit d = 48 + d

unfoldable pub digits : ℕ → ℕ → Word
digits zero n = []
digits (suc most) n =
    elim (ltb n 10) [ true ↦ digit n ∷ [] | false ↦ digits most (n / 10) ++ (digit (n % 10) ∷ []) ]

unfoldable pub decimal : ℕ → Word
decimal n = digits (suc n) n

-- A line: its first word, each other word behind a single blank, a line feed at the end.
unfoldable pub behind : List Word → List ℕ
behind [] = line_feed ∷ []
behind (word ∷ words) = blank ∷ (word ++ behind words)

unfoldable pub line_of : Word → List Word → List ℕ
line_of first words = first ++ behind words

-- Success: `order`, the outlets left to right, `crossings` and the count, `cases` and the count.
unfoldable pub order_line : List ℕ → ℕ → ℕ → List ℕ
order_line order count cases =
    line_of (text "order") (map decimal order ++ (text "crossings" ∷ decimal count ∷ text "cases" ∷ decimal cases ∷ []))

-- Number 6: `refused 6 cases` and the count.
unfoldable pub no_order_line : ℕ → List ℕ
no_order_line cases = line_of (text "refused") (decimal 6 ∷ text "cases" ∷ decimal cases ∷ [])

-- Others: `refused` and the number.
unfoldable pub refused_line : ℕ → List ℕ
refused_line number = line_of (text "refused") (decimal number ∷ [])

-- the line of an answer, by its number
unfoldable pub answer_line : ℕ → List ℕ → ℕ → ℕ → List ℕ
answer_line number order count cases =
    elim (eqb number 0) [
      | true ↦ order_line order count cases
      | false ↦ elim (eqb number 6) [ true ↦ no_order_line cases | false ↦ refused_line number ]
    ]

-- The program's own rooms, for the outlets of the sheet and for their order: 32 numbers each, enough for every job.
unfoldable pub own_room : List ℕ
own_room = replicate 32 0

-- The line of a job that was read: what its search answers. Its outlets are the first numbers of the room, its order the first bytes.
pub record JobLine (job : Job) (line : List ℕ) : Type 0 where
  pub found : Found
  pub searched : Searched job.bins (take job.outlets job.room) job.budget own_room found
  pub says : line ≡ answer_line found.number (take job.outlets found.room) found.count found.cases

-- The line of the bytes s: they are read, and where they are no job, the line is the refusal's.
pub record SheetLine (s line : List ℕ) : Type 0 where
  pub job : Job
  pub read : SheetRead s own_room job
  pub refused : (job.number ≡ 0 → ⊥) → line ≡ refused_line job.number
  pub searched : job.number ≡ 0 → JobLine job line

-- what making the line answers: its length, and what the lent room then holds
pub record Lined : Type 0 where
  pub length : ℕ
  pub room : List ℕ

-- The answer r of making the line of the bytes s in a lent room that held `before`.
pub record LineMade (s before : List ℕ) (r : Lined) : Type 0 where
  -- the sheet's line stands in front of the room, the bytes after it are as before,
  pub line : List ℕ
  pub of_sheet : SheetLine s line
  pub front : r.room ≡ line ++ drop (length line) before
  -- its length is answered, and no line is longer than 119 bytes
  pub long : r.length ≡ length line
  pub at_most : r.length ≤ 119
