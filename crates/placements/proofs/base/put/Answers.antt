-- One bit more in each of the two rows.
use Rattle.std.proofs.Common.{arith}
use Rattle.placements.proofs.Putting.{put}
use Rattle.placements.proofs.base.put.Goals as goal

pub returns : goal.returns
returns c = put c.args.rows.now c.args.a c.args.b c.requires.0 c.requires.1 (omega arith)
