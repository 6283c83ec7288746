-- Each turn brings the mask of one outlet more.
use Rattle.std.proofs.Common.{◌≡◌, arith}
use Rattle.tables.specs.Tables.{cost_in}
use Rattle.tables.proofs.OutletMasks.{no_masks, more_masks}
use Rattle.tables.proofs.CostTable.masks.Goals as goal

pub loop-u-init : goal.loop-u-init
loop-u-init c = rw c.requires (no_masks c.args.self.now.outlets (cost_in c.args.self.now.pairs))

pub loop-u-preserved : goal.loop-u-preserved
loop-u-preserved c =
    let costs = c.args.self.now in
    more_masks costs.outlets c.loop-u.u (cost_in costs.pairs) c.loop-u.rows c.differing.result (omega (arith, costs.few)) c.loop-u.invariant
    c.differing.type_inv c.differing.ensures

pub returns : goal.returns
returns c =
    let all : c.loop-u.u ≡ c.args.self.now.outlets = omega arith in
    let masks = rw all at c.loop-u.invariant in
    record { size = masks.size; fit = masks.fit; differing = λ u v l. masks.differing u l v }
