-- `put_records` meets its contract: a loop along the outlets, of which `Stored` says what it keeps.
use Prim.Native.Nat.{◌-◌}
use native.Mathlib.Omega.{arith}
use lib.ListN.{length}
use Rattle.sheets.proofs.WriteLaws.{Stored, no_record_left, record_ahead, one_record, all_records}
use Rattle.sheets.proofs.writing.put_records.Statement.{statement}
use Rattle.sheets.proofs.writing.put_records.Tie as tie

abbrev invariant-loop : tie.invariant-loop-i
invariant-loop room₀ from outlets at₀ i₀ room at i = Stored room₀ from outlets room at i

abbrev decreases-loop : tie.decreases-loop-i
decreases-loop room₀ from outlets at₀ i₀ room at i = length outlets - i

loop-holds : tie.Need-loop-i-init invariant-loop decreases-loop
loop-holds c = no_record_left _ _ _

mul-put-record : tie.Need-offset_bounds-outlets-i invariant-loop decreases-loop
mul-put-record c = omega arith

shared-slice-read-put-record : tie.Need-bounds-outlets-i invariant-loop decreases-loop
shared-slice-read-put-record c = omega arith

put-record-requires : tie.Need-put_record-at-requires invariant-loop decreases-loop
put-record-requires c κs =
    let a = c.args in
    let l = c.loop-i in
    omega (arith, record_ahead a.room.now a.from a.outlets.now l.room l.at l.i l.invariant (omega arith), l.invariant.long)

add-i : tie.Need-overflow_add-i invariant-loop decreases-loop
add-i c = omega arith

loop-less : tie.Need-loop-i-smaller invariant-loop decreases-loop
loop-less c = omega arith

loop-again : tie.Need-loop-i-preserved invariant-loop decreases-loop
loop-again c =
    let a = c.args in
    let l = c.loop-i in
    let p = c.put_record-at in
    one_record a.room.now a.from a.outlets.now l.room l.at l.i l.invariant (omega arith) _ _ p.ensures.1 p.ensures.0

same_length : tie.Need-shape_of-room invariant-loop decreases-loop
same_length c = c.loop-i.invariant.long

returns : tie.Need-returns invariant-loop decreases-loop
returns c =
    let a = c.args in
    let l = c.loop-i in
    all_records a.room.now a.from a.outlets.now l.room l.at l.i l.invariant (omega arith)

pub put_records_spec : {M : Type 1} → statement M
put_records_spec =
    tie.close
    (tie.spec
    invariant-loop
    decreases-loop
    loop-holds
    mul-put-record
    shared-slice-read-put-record
    put-record-requires
    add-i
    loop-less
    loop-again
    same_length
    returns)
