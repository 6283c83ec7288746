-- An outlet that says yes leaves one.
use Rattle.placements.proofs.Leaving.{leaves_here}
use Rattle.placements.proofs.Relation.leaves_unplaced.Goals as goal

pub returns-then-above-placed_with-ne0 : goal.returns-then-above-placed_with-ne0
returns-then-above-placed_with-ne0 c =
    leaves_here c.args.tables.now.costs.now.outlets c.above.result c.args.self.now.rows c.args.placement.left c.args.placement.right c.loop-u.u c.above.type_inv c.above.ensures
    c.args.tables.now.costs.now.few c.requires c.loop-u-test.true (rw c.placed_with.ensures at c.if-above-placed_with-ne0.true)
