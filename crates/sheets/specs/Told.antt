-- What an answer tells in the numbers of the rules: a refusal tells its number, and 0 for every other number.
use Rattle.std.specs.Prelude.{List, ℕ, Option, Some, None, Result, Ok, Err}
use Rattle.rules.specs.Next as next
use Rattle.rules.specs.Read as read
use Rattle.rules.specs.Write as write
use Rattle.refusals.specs.declared.Refusal.{Refusal}
use Rattle.refusals.specs.Numbers.{number_of}
use Rattle.sheets.specs.declared.records.Kind.{Kind}
use Rattle.sheets.specs.declared.records.Kind.TheVariants.{Head, Outlet}
use Rattle.sheets.specs.declared.records.Record.{Record}
use Rattle.sheets.specs.declared.reading.Job.{Job}

abbrev pub kind_number : Kind → ℕ
kind_number Head = 1
kind_number Outlet = 2

-- the next record at a place: the end tells 0 and kind 0, and there and after a refusal the place stays
abbrev pub next_told : ℕ → Result (Option Record) Refusal → next.Record
next_told place (Ok (Some r)) = record { number = 0; kind = kind_number r.kind; start = r.start; length = r.length; next = r.next }
next_told place (Ok None) = record { number = 0; kind = 0; start = 0; length = 0; next = place }
next_told place (Err refusal) = record { number = number_of refusal; kind = 0; start = 0; length = 0; next = place }

-- the job of a sheet, with what the lent room then holds
abbrev pub read_told : Result Job Refusal → List ℕ → read.Job
read_told (Ok job) room = record { number = 0; bins = job.bins; outlets = job.outlets; budget = job.budget; room = room }
read_told (Err refusal) room = record { number = number_of refusal; bins = 0; outlets = 0; budget = 0; room = room }

-- the length of a sheet that was written, with what the lent room then holds
abbrev pub write_told : Result ℕ Refusal → List ℕ → write.Written
write_told (Ok length) room = record { number = 0; length = length; room = room }
write_told (Err refusal) room = record { number = number_of refusal; length = 0; room = room }
