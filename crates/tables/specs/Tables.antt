-- The tables that a search makes once: what each pair of outlets costs, 32 to a row, and a mask an outlet.
use Rattle.std.specs.Prelude.{Bool, not, ◌&&◌, List, ◌≡◌, ℕ, ◌+◌, ◌*◌, ◌^◌, ◌<◌, ◌≤◌, eqb, ltb, length, get_or}
use Rattle.rules.specs.Crossing.{Cost, bit}
use Rattle.rules.specs.Rail.{cost}

-- what it costs, by a table, that u stands left of v
unfoldable pub cost_in : List ℕ → Cost
cost_in costs u v = get_or costs (32 * u + v) 0

-- a table of costs has 1,024 numbers, none above one pair's most
pub record Costs (costs : List ℕ) : Type 0 where
  pub size : length costs ≡ 1024
  pub most : (i : ℕ) → get_or costs i 0 ≤ 2016

-- the table of a rail's costs
pub record CostsOf (rail costs : List ℕ) : Type 0 where
  pub table : Costs costs
  pub pairs : (u v : ℕ) → u < length rail → v < length rail → cost_in costs u v ≡ cost rail u v

-- a table that holds the costs of outlet u beside itself and each outlet before k, both ways, and those of the outlets before u as they were
pub record Beside (rail before : List ℕ) (u k : ℕ) (after : List ℕ) : Type 0 where
  pub table : Costs after
  pub own : cost_in after u u ≡ cost rail u u
  pub left : (v : ℕ) → v < k → cost_in after u v ≡ cost rail u v
  pub right : (v : ℕ) → v < k → cost_in after v u ≡ cost rail v u
  pub kept : (v w : ℕ) → v < u → w < u → cost_in after v w ≡ cost_in before v w

-- of n outlets the set m has those that pass the test t
abbrev pub Passed : ℕ → ℕ → (ℕ → Bool) → Type 0
Passed m n t = (v : ℕ) → eqb (bit m v) 1 ≡ (ltb v n && t v)

-- v stands above u in number, and their two cross values differ
abbrev pub differ : Cost → ℕ → ℕ → Bool
differ c u v = ltb u v && not (eqb (c u v) (c v u))

-- the masks of n outlets: that of u has the outlets v above u whose two cross values with u differ
pub record Masks (n : ℕ) (c : Cost) (masks : List ℕ) : Type 0 where
  pub size : length masks ≡ 32
  pub fit : (i : ℕ) → get_or masks i 0 < 2 ^ 32
  pub differing : (u v : ℕ) → u < n → eqb (bit (get_or masks u 0) v) 1 ≡ (ltb v n && (ltb u v && not (eqb (c u v) (c v u))))
