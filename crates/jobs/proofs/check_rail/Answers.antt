-- The checks of a job with budget 0 are those of the rail.
use Rattle.std.proofs.Common.{◌∙◌}
use Rattle.rules.proofs.Checks.{no-budget}
use Rattle.jobs.proofs.check_rail.Goals as goal

pub returns-clause-number : goal.returns-clause-number
returns-clause-number c = c.check.ensures.number ∙ no-budget c.args.bins c.args.outlets.now
