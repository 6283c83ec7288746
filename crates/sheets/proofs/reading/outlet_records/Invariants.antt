-- The records passed are read into the front of the row, and the next stands at the place.
use Rattle.std.proofs.Common.{length}
use Rattle.sheets.proofs.ReadLaws.{Records}
use Rattle.sheets.proofs.reading.outlet_records.Given as goal

abbrev pub invariant-loop-set : goal.invariant-loop-set
invariant-loop-set l = Records l.bins.number (length l.fn.row) l.sheet l.from l.set-index l.place l.set-items
