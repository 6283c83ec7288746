use Rattle.std.proofs.Common.{arith}
use Rattle.sheets.proofs.EntryLaws.{stray_at, falling_at, entered_at, all_checked, all_entered}
use Rattle.sheets.proofs.reading.entries.Goals as goal

pub returns-then-bins-bin-clause-number : goal.returns-then-bins-bin-clause-number
returns-then-bins-bin-clause-number c = search (arith, stray_at)

pub returns-then-bin-least-clause-number : goal.returns-then-bin-least-clause-number
returns-then-bin-least-clause-number c = search (arith, falling_at)

pub loop-entry-preserved : goal.loop-entry-preserved
loop-entry-preserved c = search (arith, entered_at)

pub returns-clause-number : goal.returns-clause-number
returns-clause-number c = search (arith, all_checked)

pub returns-clause-set : goal.returns-clause-set
returns-clause-set c = search (arith, all_entered)
