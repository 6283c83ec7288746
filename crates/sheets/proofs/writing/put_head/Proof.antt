-- `put_head` meets its contract: seven stores, the first four by `put_two`.
use mathlib.Core.Path.{◌∙◌}
use native.Mathlib.Omega.{arith}
use lib.ListN.{length-set}
use Rattle.rules.specs.Sheet.{two, record_of, head_of}
use borrow.Author.Rules.{rules}
use Rattle.sheets.proofs.writing.put_head.Statement.{statement}
use Rattle.sheets.proofs.writing.put_head.Tie as tie

put-two-requires : tie.Need-put_two-requires
put-two-requires c κs = search rules

put-two-requires-2 : tie.Need-put_two-requires-2
put-two-requires-2 c κs = search rules

cast-room : tie.Need-overflow_cast-room
cast-room c = search rules

slice-write-room : tie.Need-bounds-room-4
slice-write-room c = search rules

cast-room-2 : tie.Need-overflow_cast-room-2
cast-room-2 c = search rules

slice-write-room-2 : tie.Need-bounds-room-5
slice-write-room-2 c = simp length-set (omega (arith, c.put_two-2.auto, c.put_two.auto))

cast-room-3 : tie.Need-overflow_cast-room-3
cast-room-3 c = search rules

slice-write-room-3 : tie.Need-bounds-room-6
slice-write-room-3 c = simp length-set (omega (arith, c.put_two-2.auto, c.put_two.auto))

same_length : tie.Need-shape_of-room
same_length c = simp length-set (c.put_two-2.auto.room ∙ c.put_two.auto.room)

returns : tie.Need-returns
unfolding head_of record_of two
returns c =
    rw (c.put_two-2.ensures, c.put_two.ensures)

pub put_head_spec : {M : Type 1} → statement M
put_head_spec =
    tie.close
    (tie.spec
    put-two-requires
    put-two-requires-2
    cast-room
    slice-write-room
    cast-room-2
    slice-write-room-2
    cast-room-3
    slice-write-room-3
    same_length
    returns)
