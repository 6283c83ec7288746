-- The pair (document 01, 'Operations and numbers returned'): two sets of bins; returns cross. Never refused.
use Rattle.std.specs.Prelude.{◌≡◌, ℕ, ◌≤◌}
use Rattle.rules.specs.Crossing.{profile, cross}

-- The answer r of a pair of the sets a and b.
pub record Paired (a b r : ℕ) : Type 0 where
  -- the crossings between their hoses when a stands left of b,
  pub crossings : r ≡ cross (profile a) (profile b)
  -- at most 2,016 (both outlets on all 64 bins)
  pub at_most : r ≤ 2016
