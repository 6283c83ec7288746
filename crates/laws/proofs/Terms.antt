-- Three words of the laws: a strict relation, an order that extends a relation, and a relation that leaves only pairs unplaced that cost something.
use mathlib.Core.Bool.{true}
use mathlib.Core.List.{List}
use mathlib.Core.Path.{◌≡◌}
use Prim.Native.Nat.{ℕ, ◌≤◌, ◌<◌}
use Rattle.rules.specs.Crossing.{Relation, Cost, stands}
use Rattle.rules.specs.Walk.{unplaced}

-- what a relation of placements is: what follows by transitivity is in it, and no outlet stands left of itself
pub record Strict (R : Relation) : Type 0 where
  pub transitive : (a b c : ℕ) → R a b ≡ true → R b c ≡ true → R a c ≡ true
  pub irreflexive : (a : ℕ) → R a a ≡ true → ⊥

-- the order l of n outlets has every outlet left of those that R places right of it
pub record Extends (n : ℕ) (R : Relation) (l : List ℕ) : Type 0 where
  pub stood : (u v : ℕ) → u < n → v < n → R u v ≡ true → stands l u v ≡ true

-- every pair of outlets that R leaves unplaced costs at least 1, either way
pub record Paid (n : ℕ) (c : Cost) (R : Relation) : Type 0 where
  pub at_least_one : (u v : ℕ) → u < n → v < n → (u ≡ v → ⊥) → unplaced R u v ≡ true → 1 ≤ c u v
