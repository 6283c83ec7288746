-- Read this first: what demands 2 and 3 say of every rail and every budget, over the rules alone. Each promise cites its proof in a line.
-- A rail is the list of its outlets, each a set of bins as one number. `searched rail k` is what the written walk comes to with the budget k: what it
-- found, and the cases that it opened. A budget of 255 stands for none written; `budget k` is what is then used.
use mathlib.Core.List.{List}
use mathlib.Core.Logic.{◌↔◌}
use mathlib.Core.Path.{◌≡◌}
use Prim.Native.Nat.{ℕ, suc, ◌+◌, ◌≤◌}
use native.Mathlib.Omega.{arith}
use lib.ListN.{length}
use Rattle.rules.specs.Crossing.{IsOrder, crossings, stands, hose_crossings}
use Rattle.rules.specs.Rail.{outlet, cost, root, budget, searched}
use Rattle.rules.specs.Search.{OrderWithin}
use Rattle.rules.specs.Walk.{found, F}
use Rattle.laws.proofs.HoseAgainstHose
use Rattle.laws.proofs.Base.{root_strict, root_extension, root_paid}
use Rattle.laws.proofs.Complete.{walk_complete}
use Rattle.laws.proofs.Sound.{walk_sound}
use Rattle.laws.proofs.Bound.{walk_bound}

-- Demand 2. The count is hose against hose: an order's crossings are the pairs of hoses (x, a) and (y, b) with x < y and b left of a.
pub hose_against_hose : (rail l : List ℕ) → IsOrder (length rail) l
    → crossings (cost rail) l ≡ hose_crossings (length rail) (outlet rail) (stands l)
unfolding cost
hose_against_hose rail l order = HoseAgainstHose.hose_against_hose (length rail) (outlet rail) l order

-- What is found is an order of the rail, and has no more crossings than the budget;
pub found_is_within : (rail : List ℕ) (k : ℕ) (l : List ℕ) → (searched rail k).end ≡ found l
    → IsOrder (length rail) l × (crossings (cost rail) l ≤ budget k)
unfolding searched
found_is_within rail k l e =
    let w = walk_sound (length rail) (cost rail) (root rail) (budget k) l (root_strict rail) e in (w.0, w.2)

-- and an order is found exactly if some order of the rail has no more crossings than the budget: `OrderWithin` does not mention the walk.
pub found_exactly_if : (rail : List ℕ) (k : ℕ) → ((l : List ℕ) × ((searched rail k).end ≡ found l)) ↔ OrderWithin rail k
unfolding searched
found_exactly_if rail k = (
  λ f. let w = found_is_within rail k f.0 f.1 in record { order = f.0; is_order = w.0; within = w.1 },
  λ w.
      let e = root_extension rail (length rail) w.order w.is_order in
      let within : crossings (cost rail) e.order ≤ budget k = omega (arith, e.no_dearer, w.within) in
      walk_complete (length rail) (cost rail) (root rail) (budget k) e.order (root_strict rail) (root_paid rail) e.is_order e.extends within,
)

-- Demand 3. The cases opened, answered or not, are at most F(k + 3) - 1. (1, 2, 4, 7, 12 for k = 0 to 4, and 3,524,577 for k = 30: `values` of
-- `Bound`.)
pub cases_at_most : (rail : List ℕ) (k : ℕ) → suc (searched rail k).cases ≤ F (budget k + 3)
unfolding searched
cases_at_most rail k = walk_bound (length rail) (cost rail) (root rail) (budget k) (root_paid rail)
