use Rattle.std.proofs.Common.{ap, arith}
use Rattle.sheets.proofs.ReadLaws.{one_read}
use Rattle.sheets.proofs.reading.outlet_records.Goals as goal

pub loop-set-preserved : goal.loop-set-preserved
loop-set-preserved c =
    let read = c.in_ok-outlet.ensures in
    one_read _ _ _ _ _ _ _ c.loop-set.invariant _ _ (ap (λ o. o.set) read.outlet) (ap (λ o. o.next) read.outlet) (omega arith) read.number
