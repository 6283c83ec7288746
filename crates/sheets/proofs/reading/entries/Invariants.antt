-- The entries passed are in the set, and those to come are checked against the least that is above them.
use Rattle.sheets.proofs.EntryLaws.{Entering}
use Rattle.sheets.proofs.reading.entries.Given as goal

abbrev pub invariant-loop-entry : goal.invariant-loop-entry
invariant-loop-entry l = Entering l.bins.number l.body l.entry-index l.set l.least
