-- The walk looks only at the outlets below n: two costs that agree there, and two relations that do, have one walk. So a table of n outlets serves
-- where the rules have a function of any two numbers.
use mathlib.Core.Bool.{Bool, true, false, not, ◌&&◌, true≢false, false≢true}
use mathlib.Core.List.{◌∷◌}
use mathlib.Core.Path.{◌≡◌, refl, ◌∙◌, ap, ap₂}
use Prim.Native.Nat.{ℕ, zero, suc, ◌-◌, ◌<◌}
use borrow.Author.Tests.{ltb-true}
use lib.Dec.{ltb, leb, eqb}
use Rattle.rules.specs.Crossing.{Relation, Cost}
use Rattle.rules.specs.Placement.{place, spent, price}
use Rattle.rules.specs.Walk.{found, Outcome, or_else, counted, unplaced, next_to_stand, made_from, made, differs, partner}
use Rattle.rules.specs.Walk.{chosen, equal_costs, settled, reach, trial, both_ways, tried, branched, opened, walk}
use Rattle.rules.proofs.Sums.{pair_sum_cong, least_cong, every_cong}
use Rattle.laws.proofs.Choice.{partner_below}

-- a choice between outcomes that are the same where they are chosen
choose : Bool → Outcome → Outcome → Outcome
choose b x y = elim b [ true ↦ x | false ↦ y ]

same_choice : {x x' y y' : Outcome} {b b' : Bool} → b ≡ b' → (b ≡ true → x ≡ x') → y ≡ y' → choose b x y ≡ choose b' x' y'
unfolding choose
same_choice {b = true} {b' = true} e p q = p refl
same_choice {b = true} {b' = false} e p q = absurd (true≢false e)
same_choice {b = false} {b' = true} e p q = absurd (false≢true e)
same_choice {b = false} {b' = false} e p q = q

-- agreeing below n
abbrev pub Agree : ℕ → Relation → Relation → Type 0
Agree n R S = (u v : ℕ) → u < n → v < n → R u v ≡ S u v

module _ (n : ℕ) (R S : Relation) (same : Agree n R S) where
  unplaced_same : (u v : ℕ) → u < n → v < n → unplaced R u v ≡ unplaced S u v
  unfolding unplaced
  unplaced_same u v hu hv = rw (same u v hu hv, same v u hv hu)

  pub place_same : (a b : ℕ) → a < n → b < n → Agree n (place R a b) (place S a b)
  unfolding place
  place_same a b ha hb u v hu hv = rw (same u v hu hv, same u a hu ha, same b v hb hv)

  -- the order made from left to right, from those that stand already
  pub next_same : (s t : ℕ → Bool) → ((i : ℕ) → i < n → s i ≡ t i) → next_to_stand n R s ≡ next_to_stand n S t
  unfolding next_to_stand
  next_same s t h =
      least_cong _ _ n
      (λ o ho. ap₂ (λ (a b : Bool). not a && b) (h o ho) (every_cong _ _ n (λ u hu. rw (h u hu, same u o hu ho))))

  pub made_same : (m : ℕ) (s t : ℕ → Bool) → ((i : ℕ) → i < n → s i ≡ t i) → made_from m n R s ≡ made_from m n S t
  unfolding made_from
  made_same zero s t h = refl
  made_same (suc m) s t h =
      ap₂ ◌∷◌ (next_same s t h)
      (made_same m _ _
      (λ i l. ap₂ (λ (o : ℕ) (b : Bool). elim (eqb i o) as (λ x. Bool) [ true ↦ true | false ↦ b ]) (next_same s t h) (h i l)))

  module _ (c d : Cost) (costs : (u v : ℕ) → u < n → v < n → c u v ≡ d u v) where
    pub differs_same : (a b : ℕ) → a < n → b < n → differs n c R a b ≡ differs n d S a b
    unfolding differs
    differs_same a b ha hb = rw (unplaced_same a b ha hb, costs a b ha hb, costs b a hb ha)

    pub partner_same : (a : ℕ) → a < n → partner n c R a ≡ partner n d S a
    unfolding partner
    partner_same a ha = least_cong _ _ n (λ b hb. differs_same a b ha hb)

    pub chosen_same : chosen n c R ≡ chosen n d S
    unfolding chosen
    chosen_same = least_cong _ _ n (λ a ha. ap (λ (b : ℕ). ltb b n) (partner_same a ha))

    pub equal_same : equal_costs n c R ≡ equal_costs n d S
    unfolding equal_costs
    equal_same = pair_sum_cong _ _ n (λ u v hu hv. rw (unplaced_same u v hu hv, costs u v hu hv))

    pub spent_same : spent n c R ≡ spent n d S
    unfolding spent
    spent_same = pair_sum_cong _ _ n (λ u v hu hv. rw (same u v hu hv, costs u v hu hv))

    pub price_same : (R' S' : Relation) → Agree n R' S' → price n c R R' ≡ price n d S S'
    unfolding price
    price_same R' S' after = pair_sum_cong _ _ n (λ u v hu hv. rw (after u v hu hv, same u v hu hv, costs u v hu hv))

    settled_same : (rest : ℕ) → settled n c R rest ≡ settled n d S rest
    unfolding settled made choose
    settled_same rest =
        same_choice (ap (λ (x : ℕ). leb x rest) equal_same)
        (λ e i. record { cases = 0; end = found (made_same n (λ u. false) (λ u. false) (λ u l. refl) i) })
        refl

-- A case, its trials and the walk, of costs and relations that agree.
module _ (n : ℕ) (c d : Cost) (costs : (u v : ℕ) → u < n → v < n → c u v ≡ d u v) where
  module _ (opens opens' : Relation → ℕ → Outcome) (next : (R S : Relation) (rest : ℕ) → Agree n R S → opens R rest ≡ opens' S rest) where
    reach_same : (R S : Relation) (cost cost' rest : ℕ) → Agree n R S → cost ≡ cost' → reach n c opens R cost rest ≡ reach n d opens' S cost' rest
    unfolding reach choose
    reach_same R S cost cost' rest same e =
        same_choice (ap (λ (x : ℕ). leb x rest) e)
        (λ t. next R S (rest - cost) same ∙ ap (λ (x : ℕ). opens' S (rest - x)) e)
        refl

    module _ (R S : Relation) (rest : ℕ) (same : Agree n R S) where
      trial_same : (a b : ℕ) → a < n → b < n → trial n c opens R rest a b ≡ trial n d opens' S rest a b
      unfolding trial
      trial_same a b ha hb =
          let after : Agree n (place R a b) (place S a b) = place_same n R S same a b ha hb in
          reach_same (place R a b) (place S a b) _ _ rest after (price_same n R S same c d costs (place R a b) (place S a b) after)

      both_same : (a b : ℕ) → a < n → b < n → both_ways n c opens R rest a b ≡ both_ways n d opens' S rest a b
      unfolding both_ways
      both_same a b ha hb = ap₂ or_else (trial_same a b ha hb) (trial_same b a hb ha)

      tried_same : (a b : ℕ) → a < n → b < n → tried n c opens R rest a b ≡ tried n d opens' S rest a b
      unfolding tried choose
      tried_same a b ha hb =
          same_choice (ap₂ ltb (costs a b ha hb) (costs b a hb ha)) (λ e. both_same a b ha hb) (both_same b a hb ha)

      branched_same : branched n c opens R rest ≡ branched n d opens' S rest
      unfolding branched choose
      branched_same =
          let a = chosen n c R in
          let one : a ≡ chosen n d S = chosen_same n R S same c d costs in
          same_choice (ap (λ (x : ℕ). ltb x n) one)
          (λ t.
          let ha : a < n = ltb-true a n t in
          tried_same a (partner n c R a) ha (partner_below n c R ha)
          ∙ ap₂ (tried n d opens' S rest) one (partner_same n R S same c d costs a ha ∙ ap (partner n d S) one))
          (settled_same n R S same c d costs rest)

  pub opened_same : (levels : ℕ) (R S : Relation) (rest : ℕ) → Agree n R S → opened n c levels R rest ≡ opened n d levels S rest
  unfolding opened
  opened_same zero R S rest same = refl
  opened_same (suc levels) R S rest same =
      ap counted (branched_same (opened n c levels) (opened n d levels) (opened_same levels) R S rest same)

  pub walk_same : (R S : Relation) (k : ℕ) → Agree n R S → walk n c R k ≡ walk n d S k
  unfolding walk
  walk_same R S k same =
      reach_same (opened n c (suc k)) (opened n d (suc k)) (opened_same (suc k)) R S (spent n c R) (spent n d S) k same
      (spent_same n R S same c d costs)
