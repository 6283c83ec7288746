-- A rail: its outlets, each a set of bins. What the walk is handed of it, and what a budget of 255 means.
use Rattle.std.specs.Prelude.{true, false, List, ℕ, eqb, length, get_or}
use Rattle.rules.specs.Crossing.{Profile, Relation, Cost, profile, cross}
use Rattle.rules.specs.Placement.{base}
use Rattle.rules.specs.Walk.{Outcome, walk}

unfoldable pub outlet : List ℕ → ℕ → Profile
outlet rail a = profile (get_or rail a 0)

unfoldable pub cost : List ℕ → Cost
cost rail a b = cross (outlet rail a) (outlet rail b)

unfoldable pub root : List ℕ → Relation
root rail = base (outlet rail)

-- Budget 255 means that none is written, and then 0 is used.
unfoldable pub budget : ℕ → ℕ
budget k = elim (eqb k 255) [ true ↦ 0 | false ↦ k ]

unfoldable pub searched : List ℕ → ℕ → Outcome
searched rail k = walk (length rail) (cost rail) (root rail) (budget k)
