-- The two sides of an outlet, as rows have them.
use Rattle.std.specs.Prelude.{Bool, List, ℕ}
use Rattle.placements.specs.declared.closure.Side.{Side}
use Rattle.placements.specs.declared.closure.Side.TheVariants.{Right, Left}
use Rattle.placements.specs.Rows.{reads}

-- the row of those on its right goes first
abbrev pub side_number : Side → ℕ
side_number Right = 0
side_number Left = 1

-- whether w stands on a side of u
abbrev pub stands_on : Side → List ℕ → ℕ → ℕ → Bool
stands_on Right rows w u = reads rows u w
stands_on Left rows w u = reads rows w u
