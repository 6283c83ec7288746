-- Laws of rows of outlet numbers: how often a number stands in a row, what holds of each of its numbers, what an outlet pays to a row and what a row
-- pays in all, for a row put together from parts and for one rearranged.
use mathlib.Core.Bool.{Bool, true, false}
use mathlib.Core.List.{List, [], ◌∷◌, ◌++◌}
use mathlib.Core.Logic.{◌⊎◌, inl, inr, ⊎_elim}
use mathlib.Core.Path.{◌≡◌, refl, sym, ◌∙◌, ap, subst}
use Prim.Native.Nat.{ℕ, zero, suc, ◌+◌, ◌*◌, ◌≤◌, ◌<◌}
use native.Mathlib.Omega.{arith}
use native.Mathlib.Nat.{le_refl, eq-zero-or-pos}
use native.Mathlib.Decide.{ℕ_discrete}
use borrow.Author.Tests.{eq-eqb, ne_eqb}
use lib.Dec.{eqb}
use lib.ListN.{length, get_or}
use Rattle.rules.specs.Sum.{sum, only_if}
use Rattle.rules.specs.Crossing.{Cost, times, right_of, crossings}
use Rattle.rules.proofs.Sums.{only_if_so, only_if_not, only_if_one, sum_cong, sum_add, sum-none, sum_at}
use Rattle.laws.proofs.Tests.{either}

-- How often a number stands in a row

pub times_here : (o a : ℕ) (l : List ℕ) → a ≡ o → times o (a ∷ l) ≡ suc (times o l)
unfolding times
times_here o a l e = omega (arith, only_if_so 1 (eq-eqb a o e))

pub times-other : (o a : ℕ) (l : List ℕ) → (a ≡ o → ⊥) → times o (a ∷ l) ≡ times o l
unfolding times
times-other o a l h = omega (arith, only_if_not 1 (ne_eqb a o h))

pub times_tail : (o a : ℕ) (l : List ℕ) → times o l ≤ times o (a ∷ l)
unfolding times
times_tail o a l = omega arith

pub times-cases : (o a : ℕ) (l : List ℕ) → 0 < times o (a ∷ l) → (a ≡ o) ⊎ (0 < times o l)
times-cases o a l h = elim (ℕ_discrete a o) [ yes e ↦ inl e | no e ↦ inr (omega (arith, times-other o a l e)) ]

pub times_none : {A : Type 0} (o : ℕ) → 0 < times o [] → A
unfolding times
times_none o h = absurd (omega arith)

pub times-append : (o : ℕ) (l m : List ℕ) → times o (l ++ m) ≡ times o l + times o m
unfolding times
times-append o [] m = omega arith
times-append o (a ∷ l) m = omega (arith, times-append o l m)

pub times_into : (o : ℕ) (l : List ℕ) (a : ℕ) (m : List ℕ) → times o (l ++ (a ∷ m)) ≡ times o (a ∷ (l ++ m))
unfolding times
times_into o l a m = omega (arith, times-append o l (a ∷ m), times-append o l m)

-- no number stands twice
abbrev pub NoRepeat : List ℕ → Type 0
NoRepeat l = (o : ℕ) → times o l ≤ 1

pub no_repeat_tail : (a : ℕ) (l : List ℕ) → NoRepeat (a ∷ l) → NoRepeat l
no_repeat_tail a l once o = omega (arith, once o, times_tail o a l)

-- two rows of the same numbers, each as often
abbrev pub Rearranged : List ℕ → List ℕ → Type 0
Rearranged l m = (o : ℕ) → times o l ≡ times o m

-- What holds of each number of a row

abbrev pub Each : (ℕ → Type 0) → List ℕ → Type 0
Each Q l = (v : ℕ) → 0 < times v l → Q v

pub each_cons : {Q : ℕ → Type 0} (a : ℕ) (l : List ℕ) → Q a → Each Q l → Each Q (a ∷ l)
each_cons {Q} a l here rest v h = ⊎_elim (λ e. subst Q e here) (rest v) (times-cases v a l h)

pub each_head : {Q : ℕ → Type 0} (a : ℕ) (l : List ℕ) → Each Q (a ∷ l) → Q a
each_head a l all = all a (omega (arith, times_here a a l refl))

pub each_tail : {Q : ℕ → Type 0} (a : ℕ) (l : List ℕ) → Each Q (a ∷ l) → Each Q l
each_tail a l all v h = all v (omega (arith, times_tail v a l))

pub each_append : {Q : ℕ → Type 0} (l m : List ℕ) → Each Q l → Each Q m → Each Q (l ++ m)
each_append l m left right v h =
    elim (eq-zero-or-pos (times v l)) [ inl none ↦ right v (omega (arith, times-append v l m)) | inr some ↦ left v some ]

pub each_entry : {Q : ℕ → Type 0} (l : List ℕ) → Each Q l → (i : ℕ) → i < length l → Q (get_or l i 0)
each_entry [] all i h = absurd (omega arith)
each_entry (a ∷ l) all zero h = each_head a l all
each_entry (a ∷ l) all (suc i) h = each_entry l (each_tail a l all) i (omega arith)

-- a number above each of a row
pub above : List ℕ → ℕ
above [] = 0
above (a ∷ l) = suc a + above l

pub each_below : (l : List ℕ) → Each (λ o. o < above l) l
unfolding above
each_below [] = λ v h. times_none v h
each_below (a ∷ l) = each_cons a l (omega arith) (λ v h. omega (arith, each_below l v h))

-- the first number of a row that passes a test, and the row parted there
pub record First (t : ℕ → Bool) (l : List ℕ) : Type 0 where
  pub before : List ℕ
  pub here : ℕ
  pub after : List ℕ
  pub whole : l ≡ before ++ (here ∷ after)
  pub passes : t here ≡ true
  pub none_before : Each (λ v. t v ≡ false) before

pub first_in : (t : ℕ → Bool) (l : List ℕ) → First t l ⊎ Each (λ v. t v ≡ false) l
first_in t [] = inr (λ v h. times_none v h)
first_in t (a ∷ l) = go (either (t a)) (first_in t l)
  where
    go : (t a ≡ true) ⊎ (t a ≡ false) → First t l ⊎ Each (λ v. t v ≡ false) l → First t (a ∷ l) ⊎ Each (λ v. t v ≡ false) (a ∷ l)
    go (inl e) later = inl (record { before = []; here = a; after = l; whole = refl; passes = e; none_before = λ v h. times_none v h })
    go (inr e) (inl f) =
        inl
        (record {
          before = a ∷ f.before;
          here = f.here;
          after = f.after;
          whole = ap (λ (k : List ℕ). a ∷ k) f.whole;
          passes = f.passes;
          none_before = each_cons a f.before e f.none_before;
        })
    go (inr e) (inr none) = inr (each_cons a l e none)

-- What an outlet pays

-- what all of l pay for standing left of a: `right_of` with the cost turned round
unfoldable pub left_of : Cost → ℕ → List ℕ → ℕ
left_of c a l = right_of (λ u v. c v u) a l

pub right_of-append : (c : Cost) (a : ℕ) (l m : List ℕ) → right_of c a (l ++ m) ≡ right_of c a l + right_of c a m
unfolding right_of
right_of-append c a [] m = omega arith
right_of-append c a (b ∷ l) m = omega (arith, right_of-append c a l m)

pub right_of_into : (c : Cost) (a : ℕ) (l : List ℕ) (b : ℕ) (m : List ℕ) → right_of c a (l ++ (b ∷ m)) ≡ c a b + right_of c a (l ++ m)
unfolding right_of
right_of_into c a l b m = omega (arith, right_of-append c a l (b ∷ m), right_of-append c a l m)

pub right_of_mono : (c d : Cost) (a b : ℕ) → ((v : ℕ) → c a v ≤ d b v) → (l : List ℕ) → right_of c a l ≤ right_of d b l
unfolding right_of
right_of_mono c d a b h [] = le_refl 0
right_of_mono c d a b h (v ∷ l) = omega (arith, h v, right_of_mono c d a b h l)

pub right_of_scale : (k : ℕ) (c : Cost) (a : ℕ) (l : List ℕ) → right_of (λ u v. k * c u v) a l ≡ k * right_of c a l
unfolding right_of
right_of_scale k c a [] = omega arith
right_of_scale k c a (v ∷ l) = omega (arith, right_of_scale k c a l)

-- outlet by outlet
pub right_of-times : (n : ℕ) (c : Cost) (a : ℕ) (l : List ℕ) → Each (λ o. o < n) l → right_of c a l ≡ sum (λ o. times o l * c a o) n
unfolding right_of times
right_of-times n c a [] below = sym (sum-none (λ o. 0 * c a o) n (λ o h. omega arith))
right_of-times n c a (b ∷ l) below =
    let now : ℕ → ℕ = λ o. only_if (eqb b o) (c a o) in
    let later : ℕ → ℕ = λ o. times o l * c a o in
    omega (
      arith,
      sum_at (c a) n b (each_head b l below),
      right_of-times n c a l (each_tail b l below),
      sum_add now later n,
      sum_cong (λ o. times o (b ∷ l) * c a o) (λ o. now o + later o) n (λ o h. omega (arith, only_if_one (eqb b o) (c a o))),
    )

-- so that it does not matter in which order the others stand,
pub right_of_rearranged : (c : Cost) (a : ℕ) (l m : List ℕ) → Rearranged l m → right_of c a l ≡ right_of c a m
right_of_rearranged c a l m same =
    right_of-times (above l) c a l (each_below l)
    ∙ sum_cong _ _ (above l) (λ o h. ap (λ (k : ℕ). k * c a o) (same o))
    ∙ sym (right_of-times (above l) c a m (λ v h. each_below l v (omega (arith, same v))))

-- and a row is as long as its numbers stand often
pub length-times : (n : ℕ) (l : List ℕ) → Each (λ o. o < n) l → length l ≡ sum (λ o. times o l) n
unfolding right_of
length-times n l below =
    paid l ∙ right_of-times n (λ a b. 1) 0 l below ∙ sum_cong _ _ n (λ o h. omega arith)
  where
    paid : (l : List ℕ) → length l ≡ right_of (λ a b. 1) 0 l
    paid [] = refl
    paid (a ∷ l) = omega (arith, paid l)

-- What a row pays in all

-- an outlet more in a row: it pays to those right of it, and those left of it pay to it
pub crossings_into : (c : Cost) (l : List ℕ) (a : ℕ) (m : List ℕ)
    → crossings c (l ++ (a ∷ m)) ≡ left_of c a l + right_of c a m + crossings c (l ++ m)
unfolding crossings right_of left_of
crossings_into c [] a m = omega arith
crossings_into c (b ∷ l) a m = omega (arith, right_of_into c b l a m, crossings_into c l a m)

-- a row's end rearranged: what changes is what the end pays within itself
pub crossings-behind : (c : Cost) (l m m' : List ℕ) → Rearranged m m'
    → crossings c (l ++ m) + crossings c m' ≡ crossings c (l ++ m') + crossings c m
unfolding crossings
crossings-behind c [] m m' same = omega arith
crossings-behind c (a ∷ l) m m' same =
    omega
    (arith, crossings-behind c l m m' same, right_of-append c a l m, right_of-append c a l m', right_of_rearranged c a m m' same)
