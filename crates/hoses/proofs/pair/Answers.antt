-- A turn takes the lowest of the hoses still to come and adds what it crosses.
use Rattle.std.proofs.Common.{◌≡◌, ◌+◌, ◌-◌, ◌∙◌, ap, arith}
use lib.Bits.{and_le_l}
use Rattle.rules.specs.Sum.{sum}
use Rattle.rules.specs.Crossing.{profile}
use Rattle.rules.proofs.Largest.{pair_at_most}
use Rattle.rules.proofs.Pair.{is_paired}
use Rattle.hoses.proofs.Adding.{to_come, to_come_all, to_come_none, to_come_step}
use Rattle.hoses.proofs.pair.Goals as goal

pub loop-bin-init : goal.loop-bin-init
loop-bin-init c =
    let all : c.into_iter-bin-iterator.result.rest ≡ c.args.a = ap (λ s. s.rest) c.into_iter-bin-iterator.ensures.into_iter_gives ∙ c.of-bin-items.ensures in
    (tt, tt, omega arith, omega (arith, ap (λ m. to_come m c.args.b) all, to_come_all c.args.a c.args.b))

added : (c : goal.After-further_left-crossings)
    → to_come c.loop-bin.bin-iterator.rest c.args.b ≡ c.further_left-crossings.result + to_come c.next.new.self.rest c.args.b
added c =
    let s = c.in-Some.ensures.steps in
    omega (
      arith,
      c.further_left-crossings.ensures,
      to_come_step c.loop-bin.bin-iterator.rest c.args.b s.0 (omega arith),
      ap (sum (profile c.args.b)) s.1,
      ap (λ m. to_come m c.args.b) s.2,
    )

pub overflow_add-crossings : goal.overflow_add-crossings
overflow_add-crossings c = omega (arith, added c, pair_at_most c.args.a c.args.b)

pub loop-bin-preserved : goal.loop-bin-preserved
loop-bin-preserved c =
    let s = c.in-Some.ensures.steps in
    (tt, tt, omega (arith, s.2, and_le_l c.loop-bin.bin-iterator.rest (c.loop-bin.bin-iterator.rest - 1)), omega (arith, added c))

pub returns : goal.returns
returns c =
    let s = c.in-None.ensures.steps in
    is_paired c.args.a c.args.b c.loop-bin.crossings (omega (arith, ap (λ m. to_come m c.args.b) s.0, to_come_none c.args.b))
