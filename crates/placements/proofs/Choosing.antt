-- The pair that a case takes, read off masks and rows: what `choice::open` hands over of an outlet a are the b whose pair with a differs,
-- so that none says that a has no partner, and the lowest is the partner.
use mathlib.Core.Bool.{Bool, true, false, not, ◌&&◌}
use mathlib.Core.List.{List}
use mathlib.Core.Path.{◌≡◌, refl, sym, ◌∙◌, ap}
use Prim.Native.Nat.{ℕ, ◌^◌, ◌≤◌, ◌<◌}
use native.Mathlib.Omega.{arith}
use native.Mathlib.Nat.{lt_of_lt_of_le}
use native.Mathlib.Decide.{dec_lt}
use borrow.Author.Tests.{ltb-true, ltb-false, lt-ltb, le-ltb}
use lib.Count.{count_trailing_zeros}
use lib.Dec.{eqb, ltb}
use lib.ListN.{get_or}
use Rattle.rules.specs.Crossing.{Relation, Cost}
use Rattle.rules.specs.Placement.{place}
use Rattle.rules.specs.Sum.{least}
use Rattle.rules.specs.Walk.{unplaced, differs, partner, chosen}
use Rattle.rules.proofs.Sums.{and_left, and_right, least_is, least-none, least-within, least-before, least_passes}
use Rattle.laws.proofs.Placing.{unplaced_before}
use Rattle.laws.proofs.Tests.{never_both, not_passed, and_both}
use Rattle.tables.specs.Tables.{Masks}
use Rattle.hoses.proofs.Bits.{lowest_least}
use Rattle.placements.specs.Rows.{reads}
use Rattle.placements.proofs.Masks.{has, has_none, has_nothing}

-- b is above a, unplaced with it, and their two cross values differ
abbrev pub opens : List ℕ → List ℕ → ℕ → ℕ → Bool
opens masks rows a b = has (get_or masks a 0) b && unplaced (reads rows) a b

-- the outlets handed over of a
abbrev pub OpenAt : List ℕ → List ℕ → ℕ → ℕ → Type 0
OpenAt masks rows a set = (b : ℕ) → b < 32 → has set b ≡ opens masks rows a b

-- nothing is handed over of the outlets from a start to a
abbrev pub PassedFrom : List ℕ → List ℕ → ℕ → ℕ → Type 0
PassedFrom masks rows from a = (i : ℕ) → from ≤ i → i < a → OpenAt masks rows i 0

regroup : (p q r s : Bool) → (p && (q && r) && s) ≡ (p && (q && (s && r)))
regroup true true true true = refl
regroup true true true false = refl
regroup true true false true = refl
regroup true true false false = refl
regroup true false r s = refl
regroup false q r s = refl

module _ (n : ℕ) (c : Cost) (masks rows : List ℕ) (few : n ≤ 32) (of : Masks n c masks) where
  opens_differs : (a b : ℕ) → a < n → opens masks rows a b ≡ (ltb b n && differs n c (reads rows) a b)
  unfolding differs
  opens_differs a b h =
      ap (λ (t : Bool). t && unplaced (reads rows) a b) (of.differing a b h)
      ∙ regroup (ltb b n) (ltb a b) (not (eqb (c a b) (c b a))) (unplaced (reads rows) a b)

  opens_below : (a b : ℕ) → a < n → b < n → opens masks rows a b ≡ differs n c (reads rows) a b
  opens_below a b h k = opens_differs a b h ∙ ap (λ (t : Bool). t && differs n c (reads rows) a b) (lt-ltb b n k)

  module _ (a set : ℕ) (h : a < n) (at : OpenAt masks rows a set) where
    tested : (b : ℕ) → b < n → has set b ≡ differs n c (reads rows) a b
    tested b k = at b (lt_of_lt_of_le k few) ∙ opens_below a b h k

    -- none handed over: no partner
    pub none_open : set ≡ 0 → partner n c (reads rows) a ≡ n
    unfolding partner
    none_open e = least-none (differs n c (reads rows) a) n (λ b k. sym (tested b k) ∙ ap (λ (m : ℕ). has m b) e ∙ has_nothing b)

    -- some handed over: a partner
    pub some_open : set < 2 ^ 32 → (set ≡ 0 → ⊥) → partner n c (reads rows) a < n
    unfolding partner
    some_open fits some = go (dec_lt (least (differs n c (reads rows) a) n) n)
      where
        go : Dec (least (differs n c (reads rows) a) n < n) → least (differs n c (reads rows) a) n < n
        go (yes l) = l
        go (no l) =
            absurd
            (some
            (has_none 32 set fits
            (λ b k. not_passed (has set b) (λ e. taken b (sym (opens_differs a b h) ∙ sym (at b k) ∙ e)))))
          where
            taken : (b : ℕ) → (ltb b n && differs n c (reads rows) a b) ≡ true → ⊥
            taken b e =
                let k : b < n = ltb-true b n (and_left (ltb b n) _ e) in
                never_both (and_right (ltb b n) _ e) (least-before (differs n c (reads rows) a) n b (omega arith))

    -- and the lowest is the partner
    pub lowest_open : partner n c (reads rows) a < n → count_trailing_zeros 32 set ≡ partner n c (reads rows) a
    unfolding partner
    lowest_open k =
        lowest_least 32 set
        ∙ least_is (has set) 32 (partner n c (reads rows) a) (lt_of_lt_of_le k few)
        (tested (partner n c (reads rows) a) k ∙ least_passes (differs n c (reads rows) a) n k)
        (λ b l. tested b (omega arith) ∙ least-before (differs n c (reads rows) a) n b l)

  -- those before the start and those passed have no partner
  pub no-partner : (from a : ℕ) → a ≤ n → ((i : ℕ) → i < from → partner n c (reads rows) i ≡ n) → PassedFrom masks rows from a
      → (i : ℕ) → i < a → partner n c (reads rows) i ≡ n
  no-partner from a h early none i l =
      elim (dec_lt i from) [ yes k ↦ early i k | no k ↦ none_open i 0 (omega arith) (none i (omega arith) l) refl ]

  -- an outlet with a partner, and none before it with one, is the first of the pair;
  pub chosen_here : (a : ℕ) → a < n → partner n c (reads rows) a < n → ((i : ℕ) → i < a → partner n c (reads rows) i ≡ n)
      → a ≡ chosen n c (reads rows)
  unfolding chosen
  chosen_here a h some before =
      sym
      (least_is (λ i. ltb (partner n c (reads rows) i) n) n a h (lt-ltb (partner n c (reads rows) a) n some)
      (λ i l. le-ltb (partner n c (reads rows) i) n (omega (arith, before i l))))

  -- where no outlet has one, there is no pair
  pub chosen_none : ((i : ℕ) → i < n → partner n c (reads rows) i ≡ n) → n ≡ chosen n c (reads rows)
  unfolding chosen
  chosen_none before =
      sym
      (least-none (λ i. ltb (partner n c (reads rows) i) n) n
      (λ i l. le-ltb (partner n c (reads rows) i) n (omega (arith, before i l))))

-- What a caller shows of its start: none before the first of the pair has a partner, and a placement gives nobody one.
module _ (n : ℕ) (c : Cost) (R : Relation) where
  pub before-chosen : (i : ℕ) → i < chosen n c R → partner n c R i ≡ n
  unfolding chosen partner
  before-chosen i h =
      omega (
        arith,
        ltb-false (partner n c R i) n (least-before (λ a. ltb (partner n c R a) n) n i h),
        least-within (differs n c R i) n,
      )

  differs-before : (a b i v : ℕ) → differs n c (place R a b) i v ≡ true → differs n c R i v ≡ true
  unfolding differs
  differs-before a b i v e =
      let later : (unplaced (place R a b) i v && not (eqb (c i v) (c v i))) ≡ true = and_right (ltb i v) _ e in
      and_both (ltb i v) _ (and_left (ltb i v) _ e)
      (and_both (unplaced R i v) _ (unplaced_before R a b i v (and_left (unplaced (place R a b) i v) _ later))
      (and_right (unplaced (place R a b) i v) _ later))

  pub placed_alone : (a b i : ℕ) → partner n c R i ≡ n → partner n c (place R a b) i ≡ n
  unfolding partner
  placed_alone a b i alone =
      least-none (differs n c (place R a b) i) n
      (λ v h. not_passed _ (λ e. never_both (differs-before a b i v e) (least-before (differs n c R i) n v (omega arith))))
