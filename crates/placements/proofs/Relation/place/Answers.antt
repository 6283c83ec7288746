-- Those new on the left grow by those new on the right, and the other way round.
use Rattle.placements.proofs.Growing.{placed_rows}
use Rattle.placements.proofs.Relation.place.Goals as goal

pub returns : goal.returns
returns c a b brings = placed_rows c.requires brings c.grow.ensures c.grow-2.ensures
