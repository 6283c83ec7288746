-- The lowest outlet that `open` hands over of a.
use Rattle.placements.proofs.Choosing.{lowest_open}
use Rattle.placements.proofs.Relation.partner.Goals as goal

pub returns : goal.returns
returns c =
    record {
      partner = λ n cost few of h some.
          lowest_open n cost c.args.tables.now.masks.now c.args.self.now.rows few of c.args.a c.«open».result h c.«open».ensures some;
    }
