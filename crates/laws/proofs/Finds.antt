-- Soundness and completeness in one: when the walk finds an order.
use mathlib.Core.List.{List}
use mathlib.Core.Logic.{◌↔◌}
use mathlib.Core.Path.{◌≡◌}
use Prim.Native.Nat.{ℕ, ◌≤◌}
use Rattle.rules.specs.Crossing.{Relation, Cost, IsOrder, crossings}
use Rattle.rules.specs.Walk.{found, walk}
use Rattle.laws.proofs.Terms.{Strict, Extends, Paid}
use Rattle.laws.proofs.Complete.{walk_complete}
use Rattle.laws.proofs.Sound.{walk_sound}

-- The walk finds an order exactly if some order that extends the root has no more crossings than k.
pub walk_finds : (n : ℕ) (c : Cost) (root : Relation) (k : ℕ) → Strict root → Paid n c root
    → ((l : List ℕ) × ((walk n c root k).end ≡ found l)) ↔ ((l : List ℕ) × IsOrder n l × Extends n root l × (crossings c l ≤ k))
walk_finds n c root k is_strict paid = (
  λ f. let w = walk_sound n c root k f.0 is_strict f.1 in (f.0, w.0, w.1, w.2),
  λ w. walk_complete n c root k w.0 is_strict paid w.1 w.2 w.3,
)
