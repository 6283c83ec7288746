-- The table holds the cost of u beside itself, and with each turn both costs beside one outlet more.
use Rattle.std.proofs.Common.{◌≡◌, ℕ, List, get_or, arith}
use Rattle.rules.specs.Pair.{Paired}
use Rattle.rules.specs.Rail.{outlet, cost}
use Rattle.tables.proofs.Entries.{beside_own, beside_more}
use Rattle.tables.proofs.CostTable.beside.Goals as goal

-- the answer of a pair of two outlets' sets is their cost
is_cost : (rail : List ℕ) (u v r : ℕ) → Paired (get_or rail u 0) (get_or rail v 0) r → r ≡ cost rail u v
unfolding cost outlet
is_cost rail u v r p = p.crossings

pub loop-v-init : goal.loop-v-init
loop-v-init c =
    let own = c.own.ensures in
    (rw c.set.ensures.written (beside_own c.args.outlets.now c.args.u (omega arith) c.args.self.now.pairs c.own.result c.args.self.now.table (is_cost _ c.args.u c.args.u _ own) own.at_most), c.set.ensures.count)

pub loop-v-preserved : goal.loop-v-preserved
loop-v-preserved c =
    let before = c.args.self.now.pairs in
    let rail = c.args.outlets.now in
    let v = c.loop-v.v in
    let ab = c.pair-ab.ensures in
    let ba = c.other_way.ensures in
    let more = beside_more rail c.args.u (omega arith) before c.loop-v.self.pairs v c.pair-ab.result c.other_way.result c.loop-v-test.true c.loop-v.invariant.0
    (is_cost rail c.args.u v _ ab) ab.at_most (is_cost rail v c.args.u _ ba) ba.at_most in
    (rw (c.set-in-loop-v-2.ensures.written, c.set-in-loop-v.ensures.written) more, cc)
