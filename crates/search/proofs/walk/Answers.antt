-- The tables hold the rail's costs and the rows its base, so that the opened root tells the walk's outcome.
use Rattle.std.proofs.Common.{sym, arith}
use borrow.Author.Tests.{not-true, not-false}
use Rattle.search.proofs.ByTables.{too_dear, root_case, no_order, settled, order}
use Rattle.search.proofs.walk.Goals as goal

pub returns-then-k-spent : goal.returns-then-k-spent
returns-then-k-spent c =
    too_dear _ _ _ c.requires.1 c.fill.new.self (sym c.fill.ensures.count) c.fill.ensures.pairs c.base-base.ensures _ _ c.spent-spent.ensures c.if-k-spent.true

pub open_case-opened-requires : goal.open_case-opened-requires
open_case-opened-requires c =
    root_case _ _ _ c.requires.1 _ (sym c.fill.ensures.count) c.fill.ensures.pairs c.base-base.ensures c.args.room.now _ c.spent-spent.ensures c.if-k-spent.false

pub returns-then-not-opened : goal.returns-then-not-opened
returns-then-not-opened c =
    no_order _ _ _ c.requires.1 _ (sym c.fill.ensures.count) c.fill.ensures.pairs c.base-base.ensures _ _ c.spent-spent.ensures c.if-k-spent.false _ _ _
    c.open_case-opened.ensures (not-true _ c.if-not-opened.true)

pub hand_over-requires : goal.hand_over-requires
hand_over-requires c = (
  settled _ _ _ c.requires.1 _ (sym c.fill.ensures.count) c.fill.ensures.pairs c.base-base.ensures c.args.room.now _ c.spent-spent.ensures c.if-k-spent.false _ _ _
      c.open_case-opened.ensures (not-false _ c.if-not-opened.false),
  omega (arith, c.requires.2, c.fill.ensures.count),
)

pub returns : goal.returns
returns c =
    let h = c.hand_over.ensures in
    rw h.front
    (order _ _ _ c.requires.1 _ (sym c.fill.ensures.count) c.fill.ensures.pairs c.base-base.ensures _ _ c.spent-spent.ensures c.if-k-spent.false _ _ _
    c.open_case-opened.ensures (not-false _ c.if-not-opened.false) _ h.counted)
