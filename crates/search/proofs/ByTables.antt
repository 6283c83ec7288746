-- The walk by the tables: what code answers over a table of costs and rows of bits is what the walk over the rail comes to.
use mathlib.Core.Bool.{Bool, true, false, not, ◌&&◌}
use mathlib.Core.List.{List, ◌++◌}
use mathlib.Core.Path.{◌≡◌, refl, sym, ◌∙◌, ap, ap₂}
use Prim.Native.Nat.{ℕ, suc, ◌+◌, ◌-◌, ◌≤◌, ◌<◌}
use native.Mathlib.Omega.{arith}
use borrow.Author.Tests.{le-ltb}
use lib.ListN.{length, drop}
use Rattle.rules.specs.Crossing.{Relation, Cost, crossings, stands}
use Rattle.rules.specs.Placement.{spent}
use Rattle.rules.specs.Rail.{cost, root}
use Rattle.rules.specs.Walk.{found, nothing, Outcome, unopened, unplaced, made, chosen, equal_costs, opened, walk}
use Rattle.laws.proofs.Terms.{Strict, Paid}
use Rattle.laws.proofs.Base.{root_strict, root_paid}
use Rattle.laws.proofs.Below.{spent_same, walk_same}
use Rattle.laws.proofs.Choice.{reach_opens, reach_not, settles}
use Rattle.laws.proofs.Pairs.{crossings_spent}
use Rattle.laws.proofs.Sound.{made_crossings, walk_sound}
use Rattle.tables.specs.Tables.{cost_in, CostsOf}
use Rattle.tables.specs.declared.CostTable.{CostTable}
use Rattle.tables.specs.declared.Tables.{Tables}
use Rattle.placements.specs.Rows.{reads, BaseOf, Spent}
use Rattle.cases.specs.Case.{outlets_of, cost_of, Case, Tells, FoundIn, Opened}
use Rattle.cases.proofs.Steps.{found_so, nothing_so}
use Rattle.search.specs.Walked.{Walked, Settled}
use Rattle.search.proofs.Answers.{answered_found, answered_nothing}

module _ (rail base : List ℕ) (k : ℕ) (small : k ≤ 30) (t : CostTable) (count : length rail ≡ t.outlets) (C : CostsOf rail t.pairs) (B : BaseOf rail base) where
  abbrev n : ℕ
  n = t.outlets

  abbrev c : Cost
  c = cost_in t.pairs

  abbrev R : Relation
  R = reads base

  -- the walk over the rail
  abbrev o : Outcome
  o = walk n (cost rail) (root rail) k

  costs : (u v : ℕ) → u < n → v < n → c u v ≡ cost rail u v
  costs u v hu hv = C.pairs u v (omega arith) (omega arith)

  placed : (u v : ℕ) → u < n → v < n → R u v ≡ root rail u v
  placed u v hu hv = B.base u v (omega arith) (omega arith)

  pub same : o ≡ walk n c R k
  same = walk_same n (cost rail) c (λ u v hu hv. sym (costs u v hu hv)) (root rail) R k (λ u v hu hv. sym (placed u v hu hv))

  pub paid_by_table : Paid n c R
  unfolding unplaced
  paid_by_table =
      record {
        at_least_one =
            λ u v hu hv apart free.
            rw (costs u v hu hv)
            ((root_paid rail).at_least_one u v (omega arith) (omega arith) apart (ap₂ (λ (s t : Bool). not s && not t) (sym (placed u v hu hv)) (sym (placed v u hv hu)) ∙ free));
      }

  module _ (before : List ℕ) (paid : ℕ) (S : Spent n base c paid) where
    -- The base alone costs more than the budget: no case is opened.
    pub too_dear : k < paid → Walked rail k before (record { number = 6; count = 0; cases = 0; room = before })
    unfolding walk
    too_dear h =
        let none : o ≡ unopened = same ∙ reach_not n c (opened n c (suc k)) R (spent n c R) k (omega (arith, S.all)) in
        record { walked = rw count (sym (rw none (answered_nothing rail before unopened refl))) }

module _ (rail base : List ℕ) (k : ℕ) (small : k ≤ 30) (T : Tables) (count : length rail ≡ outlets_of T) (C : CostsOf rail T.costs.now.pairs) (B : BaseOf rail base)
    (before : List ℕ) (paid : ℕ) (S : Spent (outlets_of T) base (cost_of T) paid) (enough : paid ≤ k) where
  abbrev N : ℕ
  N = outlets_of T

  abbrev D : Cost
  D = cost_of T

  -- the walk over the rail
  abbrev walked : Outcome
  walked = walk N (cost rail) (root rail) k

  -- The root is a case.
  pub root_case : Case T base 0 (k - paid)
  root_case =
      record {
        little = omega arith;
        held = B.held;
        within = rw count at B.within;
        paid = paid_by_table rail base k small T.costs.now count C B;
        passed = omega arith;
        none = λ i l. absurd (omega arith);
      }

  module _ (cases : ℕ) (some : Bool) (rows : List ℕ) (O : Opened T base (k - paid) cases some rows) where
    -- The answer of the opened root tells the walk's outcome.
    tells_walk : Tells T walked cases some rows
    unfolding walk
    tells_walk =
        let goes : walked ≡ opened N D (suc k) (reads base) (k - spent N D (reads base)) =
        same rail base k small T.costs.now count C B ∙ reach_opens N D (opened N D (suc k)) (reads base) (spent N D (reads base)) k (omega (arith, S.all)) in
        rw (goes, ← S.all) (O.tells (suc k) (omega arith))

    -- It found nothing,
    pub no_order : some ≡ false → Walked rail k before (record { number = 6; count = 0; cases = cases; room = before })
    no_order none =
        let e : walked.end ≡ nothing = nothing_so walked (sym tells_walk.found_one ∙ none) in
        record { walked = rw count (rw tells_walk.count (sym (answered_nothing rail before walked e))) }

    -- or an order: the one that the rows make, whose crossings are what they spent and the equal costs.
    module _ (yes : some ≡ true) where
      pub found_order : (l : List ℕ) × (walked.end ≡ found l)
      found_order = found_so walked (sym tells_walk.found_one ∙ yes)

      pub rows_found : FoundIn T rows found_order.0
      rows_found = tells_walk.rows found_order.0 found_order.1

      strict : Strict (reads rows)
      strict = rows_found.held.strict

      counts : crossings (cost rail) found_order.0 ≡ spent N D (reads rows) + equal_costs N D (reads rows)
      counts =
          let l : List ℕ = found_order.0 in
          let w = walk_sound N (cost rail) (root rail) k l (root_strict rail) found_order.1 in
          let by_table : crossings (cost rail) l ≡ crossings D l =
          crossings_spent N (cost rail) l w.0
          ∙ spent_same N (stands l) (stands l) (λ u v hu hv. refl) (cost rail) D (λ u v hu hv. sym (C.pairs u v (omega arith) (omega arith)))
          ∙ sym (crossings_spent N D l w.0) in
          let equal = (settles N D (reads rows) (le-ltb (chosen N D (reads rows)) N (omega (arith, rows_found.settled)))).equal in
          by_table ∙ ap (crossings D) rows_found.made ∙ made_crossings N D (reads rows) strict equal

      -- the sum is within the budget
      pub settled : Settled T rows
      settled =
          record {
            held = rows_found.held;
            within = rows_found.within;
            little = omega (arith, counts, (walk_sound N (cost rail) (root rail) k found_order.0 (root_strict rail) found_order.1).2);
          }

      pub order : (paid : ℕ) → paid ≡ spent N D (reads rows) + equal_costs N D (reads rows)
          → Walked rail k before (record { number = 0; count = paid; cases = cases; room = made N (reads rows) ++ drop N before })
      order paid e =
          let l : List ℕ = found_order.0 in
          let all : crossings (cost rail) l ≡ paid = counts ∙ sym e in
          let a = answered_found rail before walked l found_order.1 in
          record { walked = rw (count, tells_walk.count, ← all, ← rows_found.made) (sym (rw count at a)) }
