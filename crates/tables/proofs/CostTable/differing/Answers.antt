-- Each turn takes one outlet more in, or passes it over.
use Rattle.std.proofs.Common.{◌≡◌, ◌+◌, true, false, arith}
use borrow.Author.Tests.{eq-eqb, ne_eqb, lt-ltb, le-ltb}
use Rattle.tables.specs.Tables.{cost_in, Passed, differ}
use Rattle.tables.proofs.OutletSets.{none, taken, over}
use Rattle.tables.proofs.CostTable.differing.Goals as goal
use Rattle.tables.proofs.CostTable.differing.Goals.{then-cost, else-cost}

pub loop-v-init : goal.loop-v-init
loop-v-init c =
    (omega arith, omega arith, none (c.args.u + 1) (differ (cost_in c.args.self.now.pairs) c.args.u) (λ x l. rw (le-ltb c.args.u x (omega arith))))

pub loop-v-preserved : goal.loop-v-preserved
loop-v-preserved c =
    let v = c.loop-v.v in
    let test = differ (cost_in c.args.self.now.pairs) c.args.u in
    let passed : Passed c.loop-v.mask v test = c.loop-v.invariant.2 in
    let here = cost_in c.args.self.now.pairs c.args.u v in
    let back = cost_in c.args.self.now.pairs v c.args.u in
    let put : Passed c.if-cost.mask (v + 1) test = elim c.if-cost.branch [
      | then-cost w ↦
          let apart : test v ≡ true = rw (lt-ltb c.args.u v c.loop-v.invariant.0, ne_eqb here back (λ e. w.if-cost.true (cc e))) in
          rw w.mask-is (taken c.loop-v.mask v test passed 32 (omega arith) apart)
      | else-cost w ↦
          let same : test v ≡ false = rw (lt-ltb c.args.u v c.loop-v.invariant.0, eq-eqb here back (cc w.if-cost.false)) in
          rw w.mask-is (over c.loop-v.mask v test passed same)
    ] in
    (omega arith, omega arith, put)
