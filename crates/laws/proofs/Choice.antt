-- What an opened case does, in words that its laws can use: it takes an unplaced pair whose two values differ, the cheaper way first, or it settles,
-- and then every unplaced pair costs the same either way. And each choice of the walk as an equation.
use mathlib.Core.Bool.{true, false, not, ◌&&◌}
use mathlib.Core.List.{List}
use mathlib.Core.Logic.{◌⊎◌, inl, inr}
use mathlib.Core.Path.{◌≡◌, sym, ◌∙◌}
use Prim.Native.Nat.{ℕ, ◌+◌, ◌-◌, ◌≤◌, ◌<◌}
use native.Mathlib.Omega.{arith}
use native.Mathlib.Decide.{ℕ_discrete, dec_lt}
use borrow.Author.Tests.{ltb-true, ltb-false, lt-ltb, le-leb, lt-leb, eqb-false, ne_eqb, not-true}
use lib.Dec.{ltb, eqb}
use Rattle.rules.specs.Crossing.{Relation, Cost}
use Rattle.rules.specs.Walk.{found, nothing, Outcome, unopened, or_else, unplaced, made, reach, both_ways, tried}
use Rattle.rules.specs.Walk.{differs, partner, chosen, equal_costs, settled, branched}
use Rattle.rules.proofs.Sums.{and_left, and_right, least_below, least_passes}
use Rattle.laws.proofs.Tests.{either, never_both, not_passed, not_so, and_both}
use Rattle.laws.proofs.Placing.{unplaced_back, UnplacedPair, turned}

-- what opens the next case
abbrev pub Opens : Type 0
Opens = Relation → ℕ → Outcome

-- what a first way found stands; where it found nothing, the other way's end does, and the cases of both count
pub or_else_first : (first other : Outcome) (l : List ℕ) → first.end ≡ found l → or_else first other ≡ record { cases = first.cases; end = found l }
unfolding or_else
or_else_first first other l e = rw (e, or_else) (λ i. record { cases = first.cases; end = e i })

pub or_else_other : (first other : Outcome) → first.end ≡ nothing
    → or_else first other ≡ record { cases = first.cases + other.cases; end = other.end }
unfolding or_else
or_else_other first other e = rw (e, or_else)

module _ (n : ℕ) (c : Cost) where
  -- a case is opened where its cost is within the rest,
  pub reach_opens : (opens : Opens) (R : Relation) (cost rest : ℕ) → cost ≤ rest → reach n c opens R cost rest ≡ opens R (rest - cost)
  unfolding reach
  reach_opens opens R cost rest h = rw (le-leb cost rest h, reach)

  pub reach_not : (opens : Opens) (R : Relation) (cost rest : ℕ) → rest < cost → reach n c opens R cost rest ≡ unopened
  unfolding reach
  reach_not opens R cost rest h = rw (lt-leb cost rest h, reach)

  -- and settles where the equal costs are
  pub settled-found : (R : Relation) (rest : ℕ) → equal_costs n c R ≤ rest → settled n c R rest ≡ record { cases = 0; end = found (made n R) }
  unfolding settled
  settled-found R rest h = rw (le-leb (equal_costs n c R) rest h, settled)

  pub settled_not : (R : Relation) (rest : ℕ) → rest < equal_costs n c R → settled n c R rest ≡ unopened
  unfolding settled
  settled_not R rest h = rw (lt-leb (equal_costs n c R) rest h, settled)

  -- It takes an unplaced pair, the cheaper way first,
  pub record Takes (R : Relation) : Type 0 where
    pub x : ℕ
    pub y : ℕ
    pub x_below : x < n
    pub y_below : y < n
    pub apart : x ≡ y → ⊥
    pub free : unplaced R x y ≡ true
    pub cheaper : c x y < c y x
    pub goes : (opens : Opens) (rest : ℕ) → branched n c opens R rest ≡ both_ways n c opens R rest x y

  pub pair_of : {R : Relation} (t : Takes R) → UnplacedPair n R t.x t.y
  pair_of t = record { x_below = t.x_below; y_below = t.y_below; apart = t.apart; free = t.free }

  -- or all unplaced pairs cost the same either way.
  pub record Settles (R : Relation) : Type 0 where
    pub equal : (u v : ℕ) → u < n → v < n → unplaced R u v ≡ true → c u v ≡ c v u
    pub goes : (opens : Opens) (rest : ℕ) → branched n c opens R rest ≡ settled n c R rest

  module _ (R : Relation) where
    -- (what `differs` says of a pair)
    differing : (a b : ℕ) → a < n → b < n → differs n c R a b ≡ true → UnplacedPair n R a b × (c a b ≡ c b a → ⊥)
    unfolding differs
    differing a b ha hb e =
        let smaller : a < b = ltb-true a b (and_left (ltb a b) _ e) in
        let later : (unplaced R a b && not (eqb (c a b) (c b a))) ≡ true = and_right (ltb a b) _ e in (
          record { x_below = ha; y_below = hb; apart = λ q. omega arith; free = and_left (unplaced R a b) _ later },
          eqb-false (c a b) (c b a) (not-true (eqb (c a b) (c b a)) (and_right (unplaced R a b) _ later)),
        )

    -- The outlet chosen has a partner.
    pub partner_below : chosen n c R < n → partner n c R (chosen n c R) < n
    unfolding chosen
    partner_below h = ltb-true (partner n c R (chosen n c R)) n (least_passes (λ a. ltb (partner n c R a) n) n h)

    taken : ltb (chosen n c R) n ≡ true → (opens : Opens) (rest : ℕ)
        → branched n c opens R rest ≡ tried n c opens R rest (chosen n c R) (partner n c R (chosen n c R))
    unfolding branched
    taken e opens rest = rw (e, branched)

    cheaper_first : (a b : ℕ) → ltb (c a b) (c b a) ≡ true → (opens : Opens) (rest : ℕ)
        → tried n c opens R rest a b ≡ both_ways n c opens R rest a b
    unfolding tried
    cheaper_first a b e opens rest = rw (e, tried)

    dearer_last : (a b : ℕ) → ltb (c a b) (c b a) ≡ false → (opens : Opens) (rest : ℕ)
        → tried n c opens R rest a b ≡ both_ways n c opens R rest b a
    unfolding tried
    dearer_last a b e opens rest = rw (e, tried)

    takes : ltb (chosen n c R) n ≡ true → Takes R
    unfolding partner
    takes e =
        let a : ℕ = chosen n c R in
        let b : ℕ = partner n c R a in
        let ha : a < n = ltb-true a n e in
        let hb : b < n = partner_below ha in
        let d = differing a b ha hb (least_passes (differs n c R a) n hb) in
        elim (either (ltb (c a b) (c b a))) [
          | inl t ↦ cheaper a b d.0 (ltb-true (c a b) (c b a) t) (λ opens rest. taken e opens rest ∙ cheaper_first a b t opens rest)
          | inr t ↦
              let unequal = d.1 in
              cheaper b a (turned d.0) (omega (arith, ltb-false (c a b) (c b a) t))
              (λ opens rest. taken e opens rest ∙ dearer_last a b t opens rest)
        ]
      where
        cheaper : (x y : ℕ) → UnplacedPair n R x y → c x y < c y x
            → ((opens : Opens) (rest : ℕ) → branched n c opens R rest ≡ both_ways n c opens R rest x y) → Takes R
        cheaper x y p less goes =
            record { x = x; y = y; x_below = p.x_below; y_below = p.y_below; apart = p.apart; free = p.free; cheaper = less; goes = goes }

    -- Where no outlet is chosen, no pair differs,
    none : ltb (chosen n c R) n ≡ false → (u v : ℕ) → u < n → v < n → differs n c R u v ≡ false
    unfolding chosen partner
    none e u v hu hv =
        not_passed (differs n c R u v)
        (λ d.
        let early : partner n c R u < n = least_below (differs n c R u) n v hv d in
        let chosen_below = least_below (λ a. ltb (partner n c R a) n) n u hu (lt-ltb (partner n c R u) n early) in
        never_both (lt-ltb (chosen n c R) n chosen_below) e)

    alike : ltb (chosen n c R) n ≡ false → (u v : ℕ) → u < n → v < n → u < v → unplaced R u v ≡ true → c u v ≡ c v u
    unfolding differs
    alike e u v hu hv l free =
        elim (ℕ_discrete (c u v) (c v u))
        [ yes same ↦ same | no other ↦ absurd (never_both (differ other) (none e u v hu hv)) ]
      where
        differ : (c u v ≡ c v u → ⊥) → (ltb u v && (unplaced R u v && not (eqb (c u v) (c v u)))) ≡ true
        differ other =
            and_both (ltb u v) _ (lt-ltb u v l)
            (and_both (unplaced R u v) _ free (not_so (eqb (c u v) (c v u)) (ne_eqb (c u v) (c v u) other)))

    pub settles : ltb (chosen n c R) n ≡ false → Settles R
    unfolding branched
    settles e =
        record { equal = λ u v hu hv free. equal u v hu hv free (dec_lt u v) (dec_lt v u); goes = λ opens rest. rw (e, branched) }
      where
        equal : (u v : ℕ) → u < n → v < n → unplaced R u v ≡ true → Dec (u < v) → Dec (v < u) → c u v ≡ c v u
        equal u v hu hv free (yes l) g = alike e u v hu hv l free
        equal u v hu hv free (no l) (yes g) = sym (alike e v u hv hu g (unplaced_back R u v free))
        equal u v hu hv free (no l) (no g) = let same : u ≡ v = omega arith in rw same

    -- Every case does one or the other.
    pub choice : Takes R ⊎ Settles R
    choice = elim (either (ltb (chosen n c R) n)) [ inl e ↦ inl (takes e) | inr e ↦ inr (settles e) ]
