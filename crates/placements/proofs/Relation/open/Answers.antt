-- The bits of the mask that neither of a's two rows has.
use Rattle.std.proofs.Common.{get_or}
use Rattle.placements.proofs.Reading.{has_open_below}
use Rattle.placements.proofs.Relation.open.Goals as goal

pub returns : goal.returns
returns c v h =
    rw (c.differing.ensures, c.placed_with.ensures)
    (has_open_below (get_or c.args.tables.now.masks.now c.args.a 0) c.args.self.now.rows c.args.a v h c.requires.1)
