-- Placements (document 01, 'Placements made before the search'): the base, what a placement brings with it, and what it costs.
use Rattle.std.specs.Prelude.{Bool, not, ◌&&◌, ◌||◌, ℕ, ltb, eqb}
use Rattle.rules.specs.Sum.{pair_sum, every, only_if}
use Rattle.rules.specs.Crossing.{Profile, Relation, Cost, places, hoses, cross}

unfoldable pub has_hoses : Profile → Bool
has_hoses p = ltb 0 (hoses p)

unfoldable pub same_bins : Profile → Profile → Bool
same_bins p q = every (λ x. eqb (p x) (q x)) places

-- 1. An outlet with hoses stands left of one without.
unfoldable pub bare_last : Profile → Profile → Bool
bare_last p q = has_hoses p && not (has_hoses q)

-- 2. Where both have hoses, cross(a, b) = 0 and cross(b, a) > 0: a left of b.
unfoldable pub free_one_way : Profile → Profile → Bool
free_one_way p q = (has_hoses p && has_hoses q) && (eqb (cross p q) 0 && ltb 0 (cross q p))

-- 3. Where both have the same bins, or neither has any: the smaller number left.
unfoldable pub alike : Profile → Profile → Bool
alike p q = same_bins p q || (not (has_hoses p) && not (has_hoses q))

unfoldable pub base : (ℕ → Profile) → Relation
base outlet a b =
    bare_last (outlet a) (outlet b) || (free_one_way (outlet a) (outlet b) || (ltb a b && alike (outlet a) (outlet b)))

-- Each placement added brings with it all that follow by transitivity: whoever is a or stands left of it, left of whoever is b or stands right of it.
unfoldable pub place : Relation → ℕ → ℕ → Relation
place R a b u v = R u v || ((eqb u a || R u a) && (eqb v b || R b v))

-- Whenever a pair is placed, also by transitivity, its cross value is taken from the remaining budget: the cost of all that R places among n outlets,
unfoldable pub spent : ℕ → Cost → Relation → ℕ
spent n c R = pair_sum (λ u v. only_if (R u v) (c u v)) n

-- and of all that `after` places and `before` did not.
unfoldable pub price : ℕ → Cost → Relation → Relation → ℕ
price n c before after = pair_sum (λ u v. only_if (after u v && not (before u v)) (c u v)) n
