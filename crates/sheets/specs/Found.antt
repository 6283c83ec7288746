-- What is found at a place of a sheet, as the code has it: a record of a kind, and the job of a head.
use Rattle.std.specs.Prelude.{List, ℕ, ◌+◌}
use Rattle.rules.specs.Next.{length_at, after}
use Rattle.rules.specs.Read.{head_bins, head_outlets, head_budget}
use Rattle.sheets.specs.declared.records.Kind.{Kind}
use Rattle.sheets.specs.declared.records.Record.{Record}
use Rattle.sheets.specs.declared.reading.Job.{Job}

abbrev pub record_at : Kind → List ℕ → ℕ → Record
record_at kind s p = record { kind = kind; start = p + 4; length = length_at s p; next = after s p }

abbrev pub job_at : List ℕ → ℕ → Job
job_at s p = record { bins = head_bins s p; outlets = head_outlets s p; budget = head_budget s p }
