-- There is a next one each time, since the order has no other numbers than the outlets'.
use Rattle.std.proofs.Common.{◌≡◌, ◌<◌, ℕ, refl, ap, sym, ◌∙◌, arith, rules, Option, Some, None, IsSome, unwrap_or}
use lib.ListN.{length-set}
use lib.Seq.{drop-set-lt}
use Rattle.hoses.proofs.Bits.{shl_one}
use Rattle.placements.proofs.Standing.{made_begin, made_more, made_whole, following, following_below}
use Rattle.placements.proofs.Relation.order.Goals as goal

pub loop-i-init : goal.loop-i-init
loop-i-init c = (refl, refl, made_begin c.args.n c.args.self.rows c.args.room.now)

-- what is one of the n is there
there : (o : Option ℕ) (n : ℕ) → unwrap_or o n < n → IsSome o
there None n h = absurd (omega arith)
there (Some x) n h = search rules

pub unwrap-o-requires : goal.unwrap-o-requires
unwrap-o-requires c =
    let below = following_below c.args.n c.args.self.rows c.loop-i.i c.loop-i.standing c.loop-i-test.true c.loop-i.room c.loop-i.invariant.2 c.requires.2.strict in
    there c.next.result c.args.n (rw c.next.ensures.next below)

pub loop-i-preserved : goal.loop-i-preserved
loop-i-preserved c =
    let n = c.args.n in
    let i = c.loop-i.i in
    let room = c.loop-i.room in
    let o = c.unwrap-o.result in
    let is_next : o ≡ following n c.args.self.rows c.loop-i.standing = sym (ap (λ x. unwrap_or x n) c.unwrap-o.ensures) ∙ c.next.ensures.next in
    let below : o < 32 = omega (arith, is_next, following_below n c.args.self.rows i c.loop-i.standing c.loop-i-test.true room c.loop-i.invariant.2 c.requires.2.strict) in (
      length-set room i o ∙ c.loop-i.invariant.0,
      drop-set-lt n room i o c.loop-i-test.true ∙ c.loop-i.invariant.1,
      made_more n c.args.self.rows i c.loop-i.standing c.loop-i-test.true room c.loop-i.invariant.2 o _ is_next (shl_one 32 o below) (omega arith),
    )

pub returns : goal.returns
returns c =
    made_whole c.args.n c.args.self.rows c.loop-i.i c.loop-i.standing c.loop-i.room c.args.room.now (omega arith) c.loop-i.invariant.2 c.loop-i.invariant.1
