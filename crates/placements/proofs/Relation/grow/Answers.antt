-- The lowest one grows, and is left to grow no more.
use Rattle.std.proofs.Common.{◌≡◌, ◌∙◌, ap, rules, arith}
use lib.ListN.{length-set}
use Rattle.placements.specs.Sides.{side_number}
use Rattle.placements.proofs.Masks.{taken}
use Rattle.placements.proofs.Growing.{grown_none, grown_step, two_sides}
use Rattle.placements.proofs.Relation.grow.Goals as goal

pub loop-u-init : goal.loop-u-init
loop-u-init c =
    let all : c.into_iter-u-iterator.result.rest ≡ c.args.which =
    ap (λ s. s.rest) c.into_iter-u-iterator.ensures.into_iter_gives ∙ c.of-u-items.ensures ∙ c.from.ensures in
    (tt, tt, omega arith, search rules, λ final g. rw all at g)

pub row-requires : goal.row-requires
row-requires c = (taken c.loop-u.invariant.2 c.in-Some.ensures.steps).outlet

pub bounds-self-row : goal.bounds-self-row
bounds-self-row c = omega (arith, c.row.ensures, (taken c.loop-u.invariant.2 c.in-Some.ensures.steps).outlet, two_sides c.args.side)

pub bounds-self-row-in-loop-u : goal.bounds-self-row-in-loop-u
bounds-self-row-in-loop-u c = omega (arith, c.row.ensures, (taken c.loop-u.invariant.2 c.in-Some.ensures.steps).outlet, two_sides c.args.side)

pub loop-u-preserved : goal.loop-u-preserved
loop-u-preserved c =
    let t = taken c.loop-u.invariant.2 c.in-Some.ensures.steps in (
      tt,
      tt,
      t.left,
      length-set c.loop-u.self.rows _ _ ∙ c.loop-u.invariant.3,
      λ final g. c.loop-u.invariant.4 final (grown_step _ _ _ final t (two_sides c.args.side) c.loop-u.invariant.3 (rw c.row.ensures at g)),
    )

pub returns : goal.returns
returns c =
    c.loop-u.invariant.4 c.loop-u.self.rows
    (rw c.in-None.ensures.steps.0 (grown_none c.loop-u.self.rows c.args.more (side_number c.args.side)))
