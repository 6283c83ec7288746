-- The first outlet of which `open` hands over something is the smallest.
use Rattle.std.proofs.Common.{arith}
use Rattle.placements.proofs.Choosing.{some_open, chosen_here, chosen_none, no-partner}
use Rattle.placements.proofs.Relation.chosen.Goals as goal

pub returns-then-open-ne0-clause-first : goal.returns-then-open-ne0-clause-first
returns-then-open-ne0-clause-first c =
    let n = c.args.tables.now.costs.now.outlets in
    let few = c.args.tables.now.costs.now.few in
    let a = c.loop-a.a in
    record {
      chosen = λ cost of early.
          chosen_here n cost _ _ few of a c.loop-a-test.true
          (some_open n cost _ _ few of a c.«open».result c.loop-a-test.true c.«open».ensures c.«open».type_inv c.if-open-ne0.true)
          (no-partner n cost _ _ few of _ a (omega arith) early c.loop-a.invariant);
    }

pub returns-clause-first : goal.returns-clause-first
returns-clause-first c =
    let n = c.args.tables.now.costs.now.outlets in
    let few = c.args.tables.now.costs.now.few in
    record {
      chosen = λ cost of early.
          chosen_none n cost _ _ few of
          (λ i h. no-partner n cost _ _ few of _ c.loop-a.a (omega arith) early c.loop-a.invariant i (omega arith));
    }
