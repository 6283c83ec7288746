-- `put_two` meets its contract: two stores.
use native.Mathlib.Omega.{arith}
use native.Mathlib.Numerals.{add-one}
use lib.ListN.{length-set}
use Rattle.rules.specs.Sheet.{two}
use borrow.Author.Rules.{rules}
use Rattle.sheets.proofs.writing.put_two.Statement.{statement}
use Rattle.sheets.proofs.writing.put_two.Tie as tie

cast-room : tie.Need-overflow_cast-room
cast-room c = search rules

slice-write-room : tie.Need-bounds-room-at
slice-write-room c = search rules

cast-room-2 : tie.Need-overflow_cast-room-2
cast-room-2 c = search rules

add-room : tie.Need-overflow_add-room
add-room c = search rules

slice-write-room-2 : tie.Need-bounds-room-at-2
slice-write-room-2 c = simp length-set (omega arith)

same_length : tie.Need-shape_of-room
same_length c = search rules

returns : tie.Need-returns
unfolding two
returns c = rw (add-one c.args.at)

pub put_two_spec : {M : Type 1} → statement M
put_two_spec =
    tie.close
    (tie.spec
    cast-room
    slice-write-room
    cast-room-2
    add-room
    slice-write-room-2
    same_length
    returns)
