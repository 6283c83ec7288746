-- The row of those on that side of u, with u, without the row of those on that side of v.
use Rattle.std.proofs.Common.{◌∙◌, ◌+◌, ◌*◌, eqb, get_or, Bool, not, ◌&&◌, ◌||◌}
use mathlib.Core.Path.{ap₂}
use Rattle.placements.specs.Sides.{side_number}
use Rattle.placements.proofs.Masks.{has_with_without}
use Rattle.placements.proofs.Reading.{has_beside}
use Rattle.placements.proofs.Relation.new_beside.Goals as goal

pub returns : goal.returns
returns c w =
    let rows = c.args.self.now.rows in
    let held = c.requires.2 in
    let u = 2 * c.args.u + side_number c.args.side in
    let v = 2 * c.args.v + side_number c.args.side in
    rw (c.row.ensures, c.row-2.ensures)
    (has_with_without 32 (get_or rows u 0) c.args.u (get_or rows v 0) w (held.fit u) c.requires.0 (held.fit v)
    ∙ ap₂ (λ (s t : Bool). (eqb w c.args.u || s) && not t) (has_beside rows held c.args.side c.args.u w) (has_beside rows held c.args.side c.args.v w))
