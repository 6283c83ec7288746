-- The count of ones is the sum of the 64 bits.
use Rattle.std.proofs.Common.{◌∙◌, arith}
use Rattle.rules.specs.Crossing.{profile, hoses, places}
use Rattle.hoses.proofs.Bits.{ones_sum}
use Rattle.hoses.proofs.at_outlet.Goals as goal

pub returns : goal.returns
unfolding hoses places profile
returns c = c.from.ensures ∙ ones_sum 64 c.args.set (omega arith)
