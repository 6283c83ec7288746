use borrow.Author.Tests.{eq-eqb, ne_eqb}
use Rattle.rules.specs.Rail.{budget}
use Rattle.search.proofs.to_spend.Goals as goal

pub returns-then-k-eq-NOT_WRITTEN : goal.returns-then-k-eq-NOT_WRITTEN
unfolding budget
returns-then-k-eq-NOT_WRITTEN c = rw (eq-eqb c.args.k 255 c.if-k-eq-NOT_WRITTEN.true, budget)

pub returns-else-k-eq-NOT_WRITTEN : goal.returns-else-k-eq-NOT_WRITTEN
unfolding budget
returns-else-k-eq-NOT_WRITTEN c = rw (ne_eqb c.args.k 255 c.if-k-eq-NOT_WRITTEN.false, budget)
