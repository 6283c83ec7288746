-- Opening a case, trying its two placements, going one way and the trial of one call one another, and are proved together. Of the same rest, an opened
-- case has the largest measure and a trial the smallest; a trial opens the next case with a smaller rest.
use Rattle.std.proofs.Common.{◌+◌, ◌*◌}
use Rattle.cases.proofs.+open_case_try_both.Given as goal

abbrev pub decreases-open_case : goal.decreases-open_case
decreases-open_case l = l.rest * 4 + 3

abbrev pub decreases-try_both : goal.decreases-try_both
decreases-try_both l = l.rest * 4 + 2

abbrev pub decreases-go : goal.decreases-go
decreases-go l = l.rest * 4 + 1

abbrev pub decreases-trial : goal.decreases-trial
decreases-trial l = l.rest * 4
