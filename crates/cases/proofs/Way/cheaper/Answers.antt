-- The way is chosen by the walk's test.
use borrow.Author.Tests.{lt-ltb, le-ltb}
use Rattle.cases.specs.Case.{as_numbered, turned}
use Rattle.cases.proofs.Way.cheaper.Goals as goal

pub returns-then-cost : goal.returns-then-cost
returns-then-cost c = as_numbered (lt-ltb _ _ (rw (c.cost.ensures, c.cost-2.ensures) at c.if-cost.true))

pub returns-else-cost : goal.returns-else-cost
returns-else-cost c = turned (le-ltb _ _ (rw (c.cost.ensures, c.cost-2.ensures) at c.if-cost.false))
