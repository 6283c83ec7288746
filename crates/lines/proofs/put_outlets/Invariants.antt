-- The outlets passed stand in front of the room.
use Rattle.std.proofs.Common.{◌≡◌, length, take}
use Rattle.sheets.specs.Writing.{in_front}
use Rattle.lines.specs.Parts.{pieces, outlet_piece}
use Rattle.lines.proofs.put_outlets.Given as goal

abbrev pub invariant-loop-outlet : goal.invariant-loop-outlet
invariant-loop-outlet l =
    (l.at ≡ length (pieces outlet_piece (take l.outlet-index l.order)))
    × (l.room ≡ in_front (pieces outlet_piece (take l.outlet-index l.order)) l.initial.room)
