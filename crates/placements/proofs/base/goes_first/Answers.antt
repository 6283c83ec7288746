-- The two sets, and where they do not decide the two costs, say what the root says.
use Rattle.std.proofs.Common.{sym}
use Rattle.placements.proofs.Basing.{root_same, root-bare, root_last, root_dear, root_free}
use Rattle.placements.proofs.base.goes_first.Goals as goal

pub returns-then-x-y : goal.returns-then-x-y
returns-then-x-y c =
    sym (root_same c.args.outlets.now c.args.a c.args.b (c.type_inv.outlets c.args.a).fits (c.type_inv.outlets c.args.b).fits c.if-x-y.true)

pub returns-then-x-eq0 : goal.returns-then-x-eq0
returns-then-x-eq0 c =
    sym (root-bare c.args.outlets.now c.args.a c.args.b (c.type_inv.outlets c.args.a).fits (c.type_inv.outlets c.args.b).fits c.if-x-y.false c.if-x-eq0.true)

pub returns-then-y-eq0 : goal.returns-then-y-eq0
returns-then-y-eq0 c =
    sym (root_last c.args.outlets.now c.args.a c.args.b (c.type_inv.outlets c.args.a).fits (c.type_inv.outlets c.args.b).fits c.if-x-eq0.false c.if-y-eq0.true)

pub returns-then-cost-ne0 : goal.returns-then-cost-ne0
returns-then-cost-ne0 c =
    sym
    (root_dear c.args.outlets.now c.args.a c.args.b (c.type_inv.outlets c.args.a).fits (c.type_inv.outlets c.args.b).fits c.args.costs.now.pairs c.requires.3 c.requires.1 c.requires.2
    c.if-x-y.false c.if-x-eq0.false c.if-y-eq0.false (rw c.cost.ensures at c.if-cost-ne0.true))

pub returns : goal.returns
returns c =
    rw c.cost-2.ensures
    (sym
    (root_free c.args.outlets.now c.args.a c.args.b (c.type_inv.outlets c.args.a).fits (c.type_inv.outlets c.args.b).fits c.args.costs.now.pairs c.requires.3 c.requires.1 c.requires.2
    c.if-x-y.false c.if-x-eq0.false c.if-y-eq0.false (rw c.cost.ensures at c.if-cost-ne0.false)))
