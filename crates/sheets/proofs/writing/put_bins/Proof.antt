-- `put_bins` meets its contract: a loop along the set's bins, the lowest first, of which `Bins` says what it keeps.
use native.Mathlib.Omega.{arith}
use Prim.Native.Nat.{◌-◌, ◌<◌}
use lib.ListN.{length}
use lib.Bits.{and_le_r}
use lib.Count.{trailing_le}
use Rattle.sheets.proofs.WriteLaws.{Bins, none_stored, bin_ahead, one_stored, all_stored}
use Rattle.sheets.proofs.writing.put_bins.Statement.{statement}
use Rattle.sheets.proofs.writing.put_bins.Tie as tie

abbrev invariant-loop : tie.invariant-loop-left
invariant-loop room₀ at set left₀ i₀ room left i = Bins room₀ at set room left i

abbrev decreases-loop : tie.decreases-loop-left
decreases-loop room₀ at set left₀ i₀ room left i = left

loop-holds : tie.Need-loop-left-init invariant-loop decreases-loop
loop-holds c = none_stored _ _ _

cast-room : tie.Need-overflow_cast-room invariant-loop decreases-loop
cast-room c = omega (arith, trailing_le 64 c.loop-left.left)

-- there is room for the next bin
inside : (c : tie.In-loop-left invariant-loop decreases-loop) → c.loop-left.i < length c.loop-left.room
inside c =
    let a = c.args in
    let l = c.loop-left in
    omega (arith, bin_ahead a.room.now a.at a.set l.room l.left l.i l.invariant c.loop-left-test.true (omega arith), l.invariant.long)

slice-write-room : tie.Need-bounds-room-i invariant-loop decreases-loop
slice-write-room c = inside c

sub-left : tie.Need-overflow_sub-left invariant-loop decreases-loop
sub-left c = omega arith

add-i : tie.Need-overflow_add-i invariant-loop decreases-loop
add-i c = omega (arith, inside c)

loop-less : tie.Need-loop-left-smaller invariant-loop decreases-loop
loop-less c =
    let a = c.args in
    let l = c.loop-left in
    omega (arith, and_le_r l.left (l.left - 1))

loop-again : tie.Need-loop-left-preserved invariant-loop decreases-loop
loop-again c =
    let a = c.args in
    let l = c.loop-left in
    one_stored a.room.now a.at a.set l.room l.left l.i l.invariant c.loop-left-test.true (omega arith)

same_length : tie.Need-shape_of-room invariant-loop decreases-loop
same_length c = c.loop-left.invariant.long

returns : tie.Need-returns invariant-loop decreases-loop
returns c =
    let a = c.args in
    let l = c.loop-left in
    let all = all_stored a.room.now a.at a.set l.room l.left l.i l.invariant c.loop-left-test.false in (all.0, all.1)

pub put_bins_spec : {M : Type 1} → statement M
put_bins_spec =
    tie.close
    (tie.spec
    invariant-loop
    decreases-loop
    loop-holds
    cast-room
    slice-write-room
    sub-left
    add-i
    loop-less
    loop-again
    same_length
    returns)
