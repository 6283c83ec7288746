-- The walk (document 01, 'The walk'), over n outlets, what it costs that one stands left of another, and the relation at its root.
use Rattle.std.specs.Prelude.{Bool, true, false, not, ◌&&◌, List, [], ◌∷◌, ℕ, zero, suc, ◌+◌, ◌-◌, ltb, leb, eqb}
use Rattle.rules.specs.Sum.{pair_sum, every, least, only_if}
use Rattle.rules.specs.Crossing.{Relation, Cost}
use Rattle.rules.specs.Placement.{place, spent, price}

-- What a case comes to: it finds an order or nothing, and so many cases were opened for it, itself counted.
pub data End : Type 0 where
  found : List ℕ → End
  nothing : End

pub record Outcome : Type 0 where
  pub cases : ℕ
  pub end : End

-- A case with a negative remainder is not opened and doesn't count.
abbrev pub unopened : Outcome
unopened = record { cases = 0; end = nothing }

-- Each opened case counts one.
abbrev pub counted : Outcome → Outcome
counted o = record { cases = suc o.cases; end = o.end }

-- What the first way found, or else what the other way finds.
unfoldable pub or_else : Outcome → Outcome → Outcome
or_else first other =
    elim first.end [ found l ↦ first | nothing ↦ record { cases = first.cases + other.cases; end = other.end } ]

unfoldable pub unplaced : Relation → ℕ → ℕ → Bool
unplaced R u v = not (R u v) && not (R v u)

-- The order is made from left to right: again and again the smallest-numbered outlet, among those not yet standing, that has no outlet still to stand left of it.
unfoldable pub next_to_stand : ℕ → Relation → (ℕ → Bool) → ℕ
next_to_stand n R standing = least (λ o. not (standing o) && every (λ u. not (not (standing u) && R u o)) n) n

unfoldable pub made_from : ℕ → ℕ → Relation → (ℕ → Bool) → List ℕ
made_from zero n R standing = []
made_from (suc m) n R standing =
    let o = next_to_stand n R standing in o ∷ made_from m n R (λ u. elim (eqb u o) [ true ↦ true | false ↦ standing u ])

unfoldable pub made : ℕ → Relation → List ℕ
made n R = made_from n n R (λ u. false)

module _ (n : ℕ) (c : Cost) where
  -- The unplaced pairs whose two cross values differ: of these the pair (a, b), a < b, with the smallest a,
  unfoldable pub differs : Relation → ℕ → ℕ → Bool
  differs R a b = ltb a b && (unplaced R a b && not (eqb (c a b) (c b a)))

  unfoldable pub partner : Relation → ℕ → ℕ
  partner R a = least (differs R a) n

  unfoldable pub chosen : Relation → ℕ
  chosen R = least (λ a. ltb (partner R a) n) n

  -- (then the smallest b: `partner R a`; n says that there is none). If there is no such pair, every unplaced pair costs the same either way.
  unfoldable pub equal_costs : Relation → ℕ
  equal_costs R = pair_sum (λ u v. only_if (ltb u v && unplaced R u v) (c u v)) n

  -- If the sum of those costs is at most the remaining budget, the search has succeeded, otherwise this case finds nothing.
  unfoldable pub settled : Relation → ℕ → Outcome
  settled R rest =
      elim (leb (equal_costs R) rest) [ true ↦ record { cases = 0; end = found (made n R) } | false ↦ unopened ]

  -- A case is opened exactly when the walk reaches it and its remaining budget is not negative.
  unfoldable pub reach : (Relation → ℕ → Outcome) → Relation → ℕ → ℕ → Outcome
  reach opens R cost rest = elim (leb cost rest) [ true ↦ opens R (rest - cost) | false ↦ unopened ]

  -- One way: a is placed left of b, and the trial opens the next case.
  unfoldable pub trial : (Relation → ℕ → Outcome) → Relation → ℕ → ℕ → ℕ → Outcome
  trial opens R rest a b = reach opens (place R a b) (price n c R (place R a b)) rest

  -- If that finds nothing, the other way, from the case as it was opened.
  unfoldable pub both_ways : (Relation → ℕ → Outcome) → Relation → ℕ → ℕ → ℕ → Outcome
  both_ways opens R rest a b = let other = trial opens R rest b a in or_else (trial opens R rest a b) other

  -- Place the cheaper way first.
  unfoldable pub tried : (Relation → ℕ → Outcome) → Relation → ℕ → ℕ → ℕ → Outcome
  tried opens R rest a b =
      elim (ltb (c a b) (c b a)) [ true ↦ both_ways opens R rest a b | false ↦ both_ways opens R rest b a ]

  unfoldable pub branched : (Relation → ℕ → Outcome) → Relation → ℕ → Outcome
  branched opens R rest =
      elim (ltb (chosen R) n)
      [ true ↦ tried opens R rest (chosen R) (partner R (chosen R)) | false ↦ settled R rest ]

  -- An opened case. Each level of cases has at least one crossing less to spend, so that levels above the remaining budget never run out.
  unfoldable pub opened : ℕ → Relation → ℕ → Outcome
  opened zero R rest = unopened
  opened (suc levels) R rest = counted (branched (opened levels) R rest)

  -- The root's remaining budget is k less the cross values of all base placements. There are at most k + 1 levels.
  unfoldable pub walk : Relation → ℕ → Outcome
  walk root k = reach (opened (suc k)) root (spent n c root) k

-- Fibonacci's numbers, F(1) = F(2) = 1. The bound on the cases is F(k + 3) - 1.
unfoldable pub F : ℕ → ℕ
F zero = 0
F (suc zero) = 1
F (suc (suc n)) = F (suc n) + F n
