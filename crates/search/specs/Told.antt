-- The numbers that a search tells: 0, the crossings and the cases; or a refusal's number, 0, and the cases that it tells.
use Rattle.std.specs.Prelude.{List, ℕ, Result, Ok, Err}
use Rattle.rules.specs.Search as rules
use Rattle.refusals.specs.declared.Refusal.{Refusal}
use Rattle.refusals.specs.Numbers.{number_of, cases_of}
use Rattle.search.specs.declared.Found.{Found}

abbrev pub search_told : Result Found Refusal → List ℕ → rules.Found
search_told (Ok found) room = record { number = 0; count = found.crossings; cases = found.cases; room = room }
search_told (Err refusal) room = record { number = number_of refusal; count = 0; cases = cases_of refusal; room = room }
