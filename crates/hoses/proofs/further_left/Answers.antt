-- The count of ones under the mask (1 << bin) - 1 is the sum of the bits below the bin.
use Rattle.std.proofs.Common.{ℕ, ◌-◌, bit_and, ◌∙◌, ap}
use lib.Count.{ones}
use Rattle.rules.specs.Crossing.{profile}
use Rattle.hoses.proofs.Bits.{shl_one, ones_below}
use Rattle.hoses.proofs.further_left.Goals as goal

pub returns : goal.returns
unfolding profile
returns c =
    c.from.ensures ∙ ap (λ (n : ℕ). ones (bit_and c.args.set (n - 1))) (shl_one 64 c.args.bin c.requires)
    ∙ ones_below c.args.set c.args.bin
