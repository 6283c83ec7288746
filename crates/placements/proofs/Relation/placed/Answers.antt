-- The row of those right of a, shifted by b, under the mask 1, is b's bit.
use Rattle.std.proofs.Common.{ℕ, ◌*◌, eqb, get_or, ap}
use Rattle.hoses.proofs.Bits.{bit_tested}
use Rattle.placements.specs.Rows.{reads}
use Rattle.placements.proofs.Relation.placed.Goals as goal

pub returns : goal.returns
unfolding reads
returns c = rw c.right_of.ensures (ap (λ (n : ℕ). eqb n 1) (bit_tested (get_or c.args.self.rows (2 * c.args.a) 0) c.args.b))
