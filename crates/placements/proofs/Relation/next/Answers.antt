-- No outlet passed is free to stand next, so the first that is, is the smallest.
use Rattle.std.proofs.Common.{◌≡◌, false, arith}
use borrow.Author.Count.{below_more}
use Rattle.placements.proofs.Standing.{free, is_free, stands_already, has_to_wait, next_here, next-none}
use Rattle.placements.proofs.Relation.next.Goals as goal
use Rattle.placements.proofs.Relation.next.Goals.{then-standing-o-eq0+else-self-row-eq0, else-standing-o-eq0}

pub returns-then-self-row-eq0-clause-next : goal.returns-then-self-row-eq0-clause-next
returns-then-self-row-eq0-clause-next c =
    let fits = c.ranges.standing.fits in
    next_here c.requires fits c.loop-o.o c.loop-o-test.true
    (is_free c.requires fits c.loop-o.o c.if-standing-o-eq0.true (rw c.row.ensures at c.if-self-row-eq0.true))
    c.loop-o.invariant

pub loop-o-preserved : goal.loop-o-preserved
loop-o-preserved c =
    let fits = c.ranges.standing.fits in
    let o = c.loop-o.o in
    let passed : free c.args.n c.args.self.now.rows c.args.standing o ≡ false = elim c.if-standing-o-eq0.branch [
      | then-standing-o-eq0+else-self-row-eq0 w ↦ has_to_wait c.requires fits o (rw w.row.ensures at w.if-self-row-eq0.false)
      | else-standing-o-eq0 w ↦ stands_already c.requires fits o w.if-standing-o-eq0.false
    ] in
    below_more _ o c.loop-o.invariant passed

pub returns-clause-next : goal.returns-clause-next
returns-clause-next c = next-none c.requires c.ranges.standing.fits (λ i h. c.loop-o.invariant i (omega arith))
