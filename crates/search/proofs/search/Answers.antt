-- The checks in their order, then the walk's answer.
use Rattle.std.proofs.Common.{sym, ◌∙◌, arith}
use Rattle.std.proofs.lemmas.Result.{err_from_is_err_and}
use Rattle.refusals.proofs.Refuses.{refuses}
use Rattle.rules.specs.Search.{search_checks}
use Rattle.rules.proofs.Checks.{job_fits, job-first, room_short, room_enough}
use Rattle.search.proofs.Answers.{budget_small, refusal, walks}
use Rattle.search.proofs.search.Goals as goal

pub returns-in_err-check : goal.returns-in_err-check
unfolding search_checks
returns-in_err-check c =
    let p = err_from_is_err_and c.from_residual.result c.from_residual.ensures.1 in
    let e = c.in_err-check.ensures.number in
    let some = refuses c.in_err-check.field-0.0 in
    rw (p.1, p.2, c.in_err-check.ensures.no_cases) (refusal _ _ _ _ _ (e ∙ sym (job-first _ _ _ _ _ (λ z. some (e ∙ z)))) some)

pub returns-then-room-outlets : goal.returns-then-room-outlets
unfolding search_checks
returns-then-room-outlets c =
    refusal _ _ _ _ 5 (sym (room_short _ _ _ _ _ (sym c.in_ok-check.ensures.number) (omega arith))) (omega arith)

pub walk-requires : goal.walk-requires
walk-requires c =
    let fits = job_fits _ _ _ (sym c.in_ok-check.ensures.number) in
    (fits.outlets32, omega (arith, c.to_spend.ensures, budget_small _ fits.budget30), omega arith)

pub returns : goal.returns
unfolding search_checks
returns c =
    walks _ _ _ _ (room_enough _ _ _ _ _ (sym c.in_ok-check.ensures.number) (omega arith)) _ (rw c.to_spend.ensures at c.walk.ensures)
