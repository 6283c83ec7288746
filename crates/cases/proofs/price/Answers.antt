-- Where the pair alone is beyond the rest, so is the price, which is no less.
use Rattle.cases.proofs.Steps.{pair_beyond}
use Rattle.cases.proofs.price.Goals as goal

pub returns-then-rest-cost : goal.returns-then-rest-cost
returns-then-rest-cost c = pair_beyond _ _ _ _ _ c.requires.1 (rw c.cost.ensures at c.if-rest-cost.true)
