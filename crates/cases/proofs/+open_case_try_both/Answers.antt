-- Each answer is a law of `Steps`, at the case that was opened or at the pair that it tries.
use Rattle.std.proofs.Common.{sym, arith}
use Rattle.cases.proofs.Steps.{chosen_is, taken, cheaper_taken, tries_cheaper, settles}
use Rattle.cases.proofs.Steps.{placed_copy, next_case, falls, trial_opens, trial_leaf, trial_not, tried_first, tried_other}
use Rattle.cases.proofs.+open_case_try_both.Goals as goal

-- ---- opening a case

pub open_case-returns-in_default : goal.open_case-returns-in_default
open_case-returns-in_default t c =
    settles _ _ _ _ c.requires (sym (chosen_is _ _ _ _ c.requires _ c.in_default.ensures.first)) _ _ _ c.settle.ensures

pub open_case-cheaper-way-requires : goal.open_case-cheaper-way-requires
open_case-cheaper-way-requires t c =
    let p = taken _ _ _ _ c.requires _ _ c.in-Some.ensures.first c.in-Some.ensures.below c.partner.ensures in
    (p.unplaced.first, p.unplaced.second)

pub open_case-try_both-requires : goal.open_case-try_both-requires
open_case-try_both-requires t c = (
  omega (arith, c.decreases),
  cheaper_taken _ _ _ _ c.requires _ _ c.in-Some.ensures.first c.in-Some.ensures.below c.partner.ensures _ _ c.cheaper-way.ensures,
)

pub open_case-returns : goal.open_case-returns
open_case-returns t c =
    tries_cheaper _ _ _ _ c.requires _ _ c.in-Some.ensures.first c.in-Some.ensures.below c.partner.ensures _ _ c.cheaper-way.ensures _ _ _ c.try_both.ensures

-- ---- trying its two placements

pub try_both-returns-then-opened : goal.try_both-returns-then-opened
try_both-returns-then-opened t c = rw c.if-opened.true (tried_first _ _ _ _ _ _ _ (rw c.if-opened.true at c.go-opened.ensures))

pub try_both-returns : goal.try_both-returns
try_both-returns t c =
    tried_other _ _ _ _ _ _ _ _ _ _ (rw c.if-opened.false at c.go-opened.ensures) (rw (c.turned.ensures.left, c.turned.ensures.right) at c.go-other.ensures)

-- ---- going one way

pub go-returns-in_default : goal.go-returns-in_default
go-returns-in_default t c =
    rw (c.nothing.ensures.cases, c.nothing.ensures.none) (trial_not _ _ _ _ _ _ c.requires c.in_default.ensures _)

pub go-returns-then-is_leaf : goal.go-returns-then-is_leaf
go-returns-then-is_leaf t c =
    rw (c.nothing-then-is_leaf.ensures.cases, c.nothing-then-is_leaf.ensures.none)
    (trial_leaf _ _ _ _ _ _ c.requires c.in-Some.ensures (rw c.if-is_leaf.true at c.is_leaf.ensures) _)

-- ---- the trial of one

pub trial-open_case-requires : goal.trial-open_case-requires
trial-open_case-requires t c =
    let p = c.requires.2 in (
      omega (arith, c.decreases, falls _ _ _ _ _ _ p.taken p.priced),
      next_case _ _ _ _ _ _ p.taken _ (placed_copy c.of.ensures p.priced.brings c.place-next.ensures) _ (omega arith),
    )

pub trial-returns : goal.trial-returns
trial-returns t c a b p =
    trial_opens _ _ _ _ _ _ p.taken p.priced _ (placed_copy c.of.ensures p.priced.brings c.place-next.ensures) _ _ _ c.open_case.ensures
