use Rattle.std.proofs.Common.{◌≡◌, ◌+◌, ◌≤◌, ◌++◌, List, ℕ, length, take, get_or, refl, ap, arith}
use lib.ListN.{length-drop, length-append}
use Rattle.std.proofs.lemmas.List.{length-take}
use Rattle.lines.specs.Parts.{pieces, outlet_piece}
use Rattle.lines.proofs.Laws.{pieces_more, piece_fits}
use Rattle.sheets.proofs.WriteLaws.{put_behind}
use Rattle.lines.proofs.put_outlets.Goals as goal

pub loop-outlet-init : goal.loop-outlet-init
unfolding pieces
loop-outlet-init c = (refl, refl)

pub put_counted-at-requires : goal.put_counted-at-requires
put_counted-at-requires c =
    let within = piece_fits outlet_piece c.args.order.now c.loop-outlet.outlet-index (omega arith) in
    rw c.from.ensures (simp (length-take, length-drop) (omega (arith, within)))

pub loop-outlet-preserved : goal.loop-outlet-preserved
loop-outlet-preserved c =
    let order : List ℕ = c.args.order.now in
    let i : ℕ = c.loop-outlet.outlet-index in
    let passed : List ℕ = pieces outlet_piece (take i order) in
    let piece : List ℕ = outlet_piece (get_or order i 0) in
    let more : pieces outlet_piece (take (i + 1) order) ≡ passed ++ piece = pieces_more outlet_piece order i (omega arith) in
    let fits : length passed + length piece ≤ length c.args.room.now = omega (arith, piece_fits outlet_piece order i (omega arith)) in
    let put = rw c.from.ensures at c.put_counted-at.ensures in
    let stood = c.loop-outlet.invariant in (
      omega (arith, put.value, simp length-append at (ap length more)),
      rw more (put_behind passed piece c.args.room.now c.loop-outlet.room _ c.loop-outlet.at _ stood.1 stood.0 refl fits put.room_after),
    )
