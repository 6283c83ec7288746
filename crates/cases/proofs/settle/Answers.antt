-- It tells what the walk settles with.
use borrow.Author.Tests.{le-leb, lt-leb}
use Rattle.cases.proofs.Steps.{tells_settled, tells_not_settled}
use Rattle.cases.proofs.settle.Goals as goal

pub returns-then-found : goal.returns-then-found
returns-then-found c =
    let k = c.requires in
    rw (le-leb _ _ c.if-found.true) (tells_settled c.args.tables.now _ _ _ c.equal_costs.ensures k.0.held k.0.within k.1 c.if-found.true)

pub returns-else-found : goal.returns-else-found
returns-else-found c = rw (lt-leb _ _ c.if-found.false) (tells_not_settled c.args.tables.now _ _ _ c.equal_costs.ensures _ c.if-found.false)
