-- The equal costs are within 30, so that they are told exactly.
use Rattle.std.proofs.Common.{◌≡◌, ℕ, List, arith}
use native.Mathlib.Decide.{dec_le}
use Rattle.rules.specs.Walk.{equal_costs}
use Rattle.placements.specs.Rows.{reads, EqualWithin}
use Rattle.cases.specs.Case.{outlets_of, cost_of}
use Rattle.tables.specs.declared.Tables.{Tables}
use Rattle.search.specs.Walked.{Settled}
use Rattle.search.proofs.hand_over.Goals as goal

exact : (t : Tables) (rows : List ℕ) (paid : ℕ) → Settled t rows → EqualWithin (outlets_of t) rows (cost_of t) 30 paid → paid ≡ equal_costs (outlets_of t) (cost_of t) (reads rows)
exact t rows paid settled e = elim (dec_le paid 30) [ yes h ↦ e.within h | no h ↦ absurd (omega (arith, settled.little, e.beyond (omega arith))) ]

pub overflow_add-crossings : goal.overflow_add-crossings
overflow_add-crossings c =
    record { fits = omega (arith, exact c.args.tables.now c.args.relation.now.rows _ c.requires.0 c.equal_costs.ensures, c.spent.ensures.all, c.requires.0.little) }

pub returns : goal.returns
returns c =
    record {
      counted = omega (arith, exact c.args.tables.now c.args.relation.now.rows _ c.requires.0 c.equal_costs.ensures, c.spent.ensures.all);
      front = c.order.ensures;
    }
