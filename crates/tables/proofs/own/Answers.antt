-- Twice the value is hoses against hoses, less the hoses.
use Rattle.std.proofs.Common.{ℕ, ap, arith}
use lib.Bits.{and_self}
use Rattle.rules.specs.Crossing.{profile, hoses}
use Rattle.rules.proofs.Pair.{is_paired}
use Rattle.tables.proofs.BothWays.{product_at_most, two_ways}
use Rattle.tables.proofs.own.Goals as goal

pub overflow_mul-result : goal.overflow_mul-result
overflow_mul-result c = record { fits = rw c.at_outlet-at_a.ensures (omega (arith, product_at_most c.args.a c.args.a)) }

pub returns : goal.returns
returns c =
    let shared = ap (λ (m : ℕ). hoses (profile m)) (and_self c.args.a) in
    is_paired c.args.a c.args.a _ (rw c.at_outlet-at_a.ensures (omega (arith, shared, two_ways c.args.a c.args.a)))
