-- The line of what a search answers, by the numbers that it tells.
use Rattle.std.specs.Prelude.{List, [], ℕ, Result}
use Rattle.rules.specs.Line.{answer_line}
use Rattle.refusals.specs.declared.Refusal.{Refusal}
use Rattle.search.specs.declared.Found.{Found}
use Rattle.search.specs.Told.{search_told}

abbrev pub line_told : Result Found Refusal → List ℕ → List ℕ
line_told answer order = let told = search_told answer [] in answer_line told.number order told.count told.cases
