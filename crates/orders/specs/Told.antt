-- The numbers that a count tells: 0 and the crossings, or a refusal's number and 0.
use Rattle.std.specs.Prelude.{ℕ, Result, Ok, Err}
use Rattle.rules.specs.Count.{CountAnswer}
use Rattle.refusals.specs.declared.Refusal.{Refusal}
use Rattle.refusals.specs.Numbers.{number_of}

abbrev pub count_told : Result ℕ Refusal → CountAnswer
count_told (Ok crossings) = record { number = 0; count = crossings }
count_told (Err refusal) = record { number = number_of refusal; count = 0 }
