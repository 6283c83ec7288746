-- What `line` makes is the sheet's line: the refusal's where the sheet is none, else that of what the search answered.
use mathlib.Core.Path.{◌≡◌, refl, ap}
use mathlib.Core.List.{List}
use Prim.Native.Nat.{ℕ, ◌≤◌}
use native.Mathlib.Omega.{arith}
use lib.ListN.{length, take, length-append}
use Rattle.std.proofs.Common.{Result, Ok, Err}
use Rattle.refusals.specs.declared.Refusal.{Refusal}
use Rattle.refusals.specs.Numbers.{number_of}
use Rattle.refusals.proofs.Refuses.{refuses}
use Rattle.search.specs.declared.Found.{Found}
use Rattle.search.specs.Told.{search_told}
use Rattle.sheets.specs.declared.reading.Job.{Job}
use Rattle.sheets.specs.Told.{read_told}
use Rattle.sheets.specs.Writing.{in_front}
use Rattle.rules.specs.Read.{SheetRead}
use Rattle.rules.specs.Search.{Searched}
use Rattle.rules.specs.Line.{refused_line, own_room, JobLine, SheetLine, Lined, LineMade}
use Rattle.lines.specs.Told.{line_told}

-- a line that was put in front of a room of 119 bytes
pub made : (s before line : List ℕ) → SheetLine s line → length line ≤ 119 → (r : Lined) → r.length ≡ length line → r.room ≡ in_front line before
    → LineMade s before r
made s before line of fits r long front = record { line = line; of_sheet = of; front = front; long = long; at_most = omega arith }

-- the line of a refusal
pub refusal_line : (s room : List ℕ) (refusal : Refusal) → SheetRead s own_room (read_told (Err refusal) room)
    → SheetLine s (refused_line (number_of refusal))
refusal_line s room refusal R =
    record { job = read_told (Err refusal) room; read = R; refused = λ _. refl; searched = λ z. absurd (refuses refusal z) }

-- the line of what the search of a job answers
module _ (s room : List ℕ) (job : Job) (R : SheetRead s own_room (read_told (Ok job) room)) where
  job_line : (order : List ℕ) (answer : Result Found Refusal)
      → Searched job.bins (take job.outlets room) job.budget own_room (search_told answer order)
      → JobLine (read_told (Ok job) room) (line_told answer (take job.outlets order))
  job_line order (Ok found) S = record { found = search_told (Ok found) order; searched = S; says = refl }
  job_line order (Err refusal) S = record { found = search_told (Err refusal) order; searched = S; says = refl }

  pub answered_line : (order : List ℕ) (answer : Result Found Refusal)
      → Searched job.bins (take job.outlets room) job.budget own_room (search_told answer order)
      → SheetLine s (line_told answer (take job.outlets order))
  answered_line order answer S =
      record { job = read_told (Ok job) room; read = R; refused = λ n. absurd (n refl); searched = λ _. job_line order answer S }

-- for callers: the line lies within the room
pub within : (s before : List ℕ) (r : Lined) → LineMade s before r → r.length ≤ length r.room
within s before r M = omega (arith, M.long, simp length-append at (ap length M.front))
