-- Where the loops are left from inside, the place is the first bad one; where they run to their end, there is none.
use Rattle.std.proofs.Common.{◌≡◌, true, length, sym, arith, below_more}
use Rattle.rules.proofs.Sums.{least_is, least-none}
use Rattle.orders.specs.Entries.{bad, first_bad}
use Rattle.orders.proofs.Entries.{bad_off, bad-repeats, good}
use Rattle.orders.proofs.first_bad.Goals as goal

pub places-preserved : goal.places-preserved
places-preserved c =
    let place = c.places.place in
    let all : c.loop-earlier.earlier ≡ place = omega arith in (
      c.loop-earlier.invariant.0,
      below_more _ _ c.places.invariant.1
          (good c.args.outlets c.args.order.now place (omega arith) (λ q h. c.loop-earlier.invariant.1 q (omega arith))),
    )

pub returns-after-places : goal.returns-after-places
unfolding first_bad
returns-after-places c =
    rw c.places.invariant.0
    (least-none (bad c.args.outlets c.args.order.now) (length c.args.order.now) (λ q h. c.places.invariant.1 q (omega arith)))

pub returns-then-outlets-from : goal.returns-then-outlets-from
unfolding first_bad
returns-then-outlets-from c =
    let place = c.places.place in
    let is_bad : bad c.args.outlets c.args.order.now place ≡ true = bad_off c.args.outlets c.args.order.now place (omega arith) in
    (sym (least_is (bad c.args.outlets c.args.order.now) (length c.args.order.now) place (omega arith) is_bad c.places.invariant.1), omega arith)

pub returns-then-order-earlier : goal.returns-then-order-earlier
unfolding first_bad
returns-then-order-earlier c =
    let place = c.places.place in
    let is_bad : bad c.args.outlets c.args.order.now place ≡ true =
    bad-repeats c.args.outlets c.args.order.now place c.loop-earlier.earlier (omega arith) c.if-order-earlier.true in
    (sym (least_is (bad c.args.outlets c.args.order.now) (length c.args.order.now) place (omega arith) is_bad c.places.invariant.1), omega arith)
