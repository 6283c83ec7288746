-- What the two values add up to, less the one.
use Rattle.std.proofs.Common.{arith}
use Rattle.rules.proofs.Pair.{is_paired}
use Rattle.tables.proofs.BothWays.{product_at_most, two_ways}
use Rattle.tables.proofs.other_way.Goals as goal

pub overflow_mul-result : goal.overflow_mul-result
overflow_mul-result c = record { fits = rw (c.at_outlet.ensures, c.at_outlet-2.ensures) (omega (arith, product_at_most c.args.a c.args.b)) }

pub overflow_sub-result : goal.overflow_sub-result
overflow_sub-result c =
    rw (c.at_outlet.ensures, c.at_outlet-2.ensures, c.at_outlet-3.ensures) (omega (arith, two_ways c.args.a c.args.b))

pub overflow_sub-result-2 : goal.overflow_sub-result-2
overflow_sub-result-2 c =
    rw (c.at_outlet.ensures, c.at_outlet-2.ensures, c.at_outlet-3.ensures)
    (omega (arith, two_ways c.args.a c.args.b, c.requires.crossings))

pub returns : goal.returns
returns c =
    is_paired c.args.b c.args.a _
    (rw (c.at_outlet.ensures, c.at_outlet-2.ensures, c.at_outlet-3.ensures) (omega (arith, two_ways c.args.a c.args.b, c.requires.crossings)))
