-- The number of each refusal, and the numbers that an answer tells: 0 where a call is done, else the refusal's.
use Rattle.std.specs.Prelude.{ℕ, Result, Ok, Err}
use Rattle.refusals.specs.declared.Refusal.{Refusal}
use Rattle.refusals.specs.declared.Refusal.TheVariants.{TooManyBins, TooManyOutlets, BadBudget, StrayHose, RoomTooShort, NoOrder, NotAnOrder, SheetEnds, WrongKind, BadLength, NotRising, BytesAfter}

abbrev pub number_of : Refusal → ℕ
number_of TooManyBins = 1
number_of TooManyOutlets = 2
number_of BadBudget = 3
number_of StrayHose = 4
number_of RoomTooShort = 5
number_of (NoOrder cases) = 6
number_of NotAnOrder = 7
number_of SheetEnds = 8
number_of WrongKind = 9
number_of BadLength = 10
number_of NotRising = 11
number_of BytesAfter = 12

-- only a search that found no order tells cases
abbrev pub cases_of : Refusal → ℕ
cases_of (NoOrder cases) = cases
cases_of _ = 0

-- the number of an answer
abbrev pub number_told : {A : Type 0} → Result A Refusal → ℕ
number_told (Ok a) = 0
number_told (Err refusal) = number_of refusal
