-- When two outlets may be brought past one another, and what it is to bring one of them past a block of others. (`Blocks` has the law.)
use mathlib.Core.Path.{◌≡◌}
use mathlib.Core.List.{List}
use mathlib.Core.Logic.{◌⊎◌}
use Prim.Native.Nat.{ℕ, ◌≤◌}
use Rattle.rules.specs.Crossing.{Profile, Cost, hoses, cross, right_of}
use Rattle.laws.proofs.Lists.{left_of}
use Rattle.laws.proofs.Cross.{Equal}

-- when two outlets may be brought past one another: the one has no hose, or the other has none, or their hoses do not cross while the one stands
-- left of the other, or they are equal at every place
pub data Movable (p q : Profile) : Type 0 where
  bare_first : hoses p ≡ 0 → Movable p q
  bare_second : hoses q ≡ 0 → Movable p q
  free : cross p q ≡ 0 → Movable p q
  equal : Equal p q → Movable p q

-- a goes leftwards past X: what it then pays to X is at most what X paid to it;
-- or b goes rightwards past X: what X then pays to it is at most what it paid to X
abbrev pub Past : Cost → ℕ → ℕ → List ℕ → Type 0
Past c a b X = (right_of c a X ≤ left_of c a X) ⊎ (left_of c b X ≤ right_of c b X)
