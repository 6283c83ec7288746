-- `put_record` meets its contract: the length, the kind and the bins, one run of stores after another.
use native.Mathlib.Omega.{arith}
use Rattle.rules.specs.Sheet.{bins_of}
use Rattle.rules.proofs.Sheet.{record_of-length}
use Rattle.sheets.proofs.BinLaws.{at_most64}
use Rattle.sheets.proofs.WriteLaws.{record_stored}
use borrow.Author.Rules.{rules}
use Rattle.sheets.proofs.writing.put_record.Statement.{statement}
use Rattle.sheets.proofs.writing.put_record.Tie as tie

at-outlet-requires : tie.Need-at_outlet-requires
at-outlet-requires c κs = search rules

put-two-requires : tie.Need-put_two-requires
put-two-requires c κs =
    let a = c.args in
    omega (arith, c.at_outlet.ensures, at_most64 a.set, record_of-length 2 (bins_of a.set))

add-put-two : tie.Need-overflow_add-at
add-put-two c = search rules

put-two-requires-2 : tie.Need-put_two-requires-2
put-two-requires-2 c κs =
    let a = c.args in
    omega (arith, record_of-length 2 (bins_of a.set), c.put_two.auto)

add-put-bins : tie.Need-overflow_add-at-2
add-put-bins c = search rules

put-bins-requires : tie.Need-put_bins-requires
put-bins-requires c κs =
    let a = c.args in
    omega (arith, record_of-length 2 (bins_of a.set), c.put_two-2.auto, c.put_two.auto)

same_length : tie.Need-shape_of-room
same_length c = search rules

returns : tie.Need-returns
returns c =
    let a = c.args in
    let b = c.put_bins in (
      omega (arith, b.ensures.0, record_of-length 2 (bins_of a.set)),
      record_stored a.room.now _ _ _ a.at a.set _ c.at_outlet.ensures c.put_two.ensures c.put_two-2.ensures b.ensures.1,
    )

pub put_record_spec : {M : Type 1} → statement M
put_record_spec =
    tie.close
    (tie.spec
    at-outlet-requires
    put-two-requires
    add-put-two
    put-two-requires-2
    add-put-bins
    put-bins-requires
    same_length
    returns)
