-- Hose against hose: an order's crossings, counted as a sum of cross values, are the pairs of hoses (x, a) and (y, b) that cross: x < y and b stands
-- left of a.
use mathlib.Core.Bool.{Bool, ◌&&◌}
use mathlib.Core.List.{List}
use mathlib.Core.Path.{◌≡◌, sym, ◌∙◌, ap}
use Prim.Native.Nat.{ℕ, ◌*◌, ◌<◌}
use native.Mathlib.Omega.{arith}
use lib.Dec.{ltb}
use Rattle.rules.specs.Sum.{sum, only_if}
use Rattle.rules.specs.Crossing.{Relation, Profile, IsOrder, places, crosses, cross, crossings, stands, hose_crossings}
use Rattle.rules.specs.Placement.{spent}
use Rattle.rules.proofs.Sums.{only_if_under, sum_cong, sum_scale, sum_only_if, sum_below, pair_sum_cong}
use Rattle.laws.proofs.Pairs.{crossings_spent}

-- The hoses of q that cross the hoses at place y of p, where t says that p's outlet stands left of q's;
at_place : (t : Bool) (p q : Profile) (y : ℕ) → y < places → sum (λ x. only_if (ltb x y && t) (p y * q x)) places ≡ only_if t (p y * sum q y)
at_place t p q y h =
    sum_cong _ _ places (λ x k. only_if_under (ltb x y) t (p y * q x))
    ∙ sum_only_if t (λ x. only_if (ltb x y) (p y * q x)) places
    ∙ ap (only_if t) (sum_below (λ x. p y * q x) places y (omega arith) ∙ sum_scale (p y) q y)

-- all hoses of two outlets b and a.
of_two : (left : Relation) (outlet : ℕ → Profile) (b a : ℕ)
    → sum (λ y. sum (λ x. only_if (crosses left x a y b) (outlet b y * outlet a x)) places) places
    ≡ only_if (left b a) (cross (outlet b) (outlet a))
unfolding crosses cross
of_two left outlet b a =
    sum_cong _ _ places (λ y h. at_place (left b a) (outlet b) (outlet a) y h)
    ∙ sum_only_if (left b a) (λ y. outlet b y * sum (outlet a) y) places

pub hose_against_hose : (n : ℕ) (outlet : ℕ → Profile) (l : List ℕ) → IsOrder n l
    → crossings (λ a b. cross (outlet a) (outlet b)) l ≡ hose_crossings n outlet (stands l)
unfolding spent hose_crossings
hose_against_hose n outlet l order =
    crossings_spent n (λ a b. cross (outlet a) (outlet b)) l order
    ∙ sym (pair_sum_cong _ _ n (λ b a hb ha. of_two (stands l) outlet b a))
