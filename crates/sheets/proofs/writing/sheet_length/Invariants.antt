-- The head and the records of the outlets passed are added up.
use Rattle.std.proofs.Common.{◌≡◌, ◌+◌, length, take}
use Rattle.rules.specs.Sheet.{outlet_records}
use Rattle.sheets.proofs.writing.sheet_length.Given as goal

abbrev pub invariant-loop-set : goal.invariant-loop-set
invariant-loop-set l = l.length ≡ 7 + length (outlet_records (take l.set-index l.outlets))
