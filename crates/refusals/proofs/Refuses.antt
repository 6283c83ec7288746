-- No refusal has the number of what is done.
use Rattle.std.proofs.Common.{◌≡◌, ◌<◌, arith}
use Rattle.refusals.specs.declared.Refusal.{Refusal}
use Rattle.refusals.specs.declared.Refusal.TheVariants.{TooManyBins, TooManyOutlets, BadBudget, StrayHose, RoomTooShort, NoOrder, NotAnOrder, SheetEnds, WrongKind, BadLength, NotRising, BytesAfter}
use Rattle.refusals.specs.Numbers.{number_of}

pub positive : (refusal : Refusal) → 0 < number_of refusal
positive TooManyBins = omega arith
positive TooManyOutlets = omega arith
positive BadBudget = omega arith
positive StrayHose = omega arith
positive RoomTooShort = omega arith
positive (NoOrder cases) = omega arith
positive NotAnOrder = omega arith
positive SheetEnds = omega arith
positive WrongKind = omega arith
positive BadLength = omega arith
positive NotRising = omega arith
positive BytesAfter = omega arith

pub refuses : (refusal : Refusal) → number_of refusal ≡ 0 → ⊥
refuses refusal e = omega (arith, positive refusal)
