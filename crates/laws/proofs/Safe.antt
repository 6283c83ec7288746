-- The law of a safe relation (S): for every order there is one that extends the relation and has no more crossings. It is found by insertion from
-- the right: an outlet is put before a row with no pair against the relation; it, or one that should stand left of it, is moved past what is between.
use mathlib.Core.Path.{◌≡◌, refl, sym, ap, subst}
use mathlib.Core.Bool.{true, false}
use mathlib.Core.List.{List, [], ◌∷◌, ◌++◌}
use mathlib.Core.Logic.{⊎_elim}
use Prim.Native.Nat.{ℕ, zero, suc, ◌+◌, ◌≤◌, ◌<◌}
use native.Mathlib.Omega.{arith}
use native.Mathlib.Nat.{le_refl}
use lib.ListN.{length, length-append}
use Rattle.rules.specs.Crossing.{Profile, Relation, Cost, IsOrder, times, right_of, crossings, stands}
use Rattle.laws.proofs.Terms.{Strict, Extends}
use Rattle.laws.proofs.Tests.{never_both, not_passed}
use Rattle.laws.proofs.Lists.{Each, each_cons, each_append, Rearranged, First, first_in}
use Rattle.laws.proofs.Lists.{times_here, times-append, times_tail, times_into}
use Rattle.laws.proofs.Lists.{left_of, right_of-append, right_of_into, right_of_rearranged, crossings_into, crossings-behind}
use Rattle.laws.proofs.Orders.{order_rearranged}
use Rattle.laws.proofs.Stands.{StandsCons, head, tail, StandsIn, first, across, second}
use Rattle.laws.proofs.Stands.{stands-none, stands-cases, stands_head, stands_tail, stands_total, stands_parts, stands_whole}
use Rattle.laws.proofs.Moving.{Movable, Past}
use Rattle.laws.proofs.Blocks.{cost_of, cheaper, past}

-- A relation that can be kept to without paying for it. (That each of its pairs is the cheaper way follows: `cheaper` of `Blocks.antt`.)
pub record Safe (outlet : ℕ → Profile) (P : Relation) : Type 0 where
  pub strict : Strict P
  pub movable : (a b : ℕ) → P a b ≡ true → Movable (outlet a) (outlet b)

-- an order of n outlets that extends P and has no more crossings than l
pub record Extension (n : ℕ) (c : Cost) (P : Relation) (l : List ℕ) : Type 0 where
  pub order : List ℕ
  pub is_order : IsOrder n order
  pub extends : Extends n P order
  pub no_dearer : crossings c order ≤ crossings c l

-- no pair of the row stands against P
abbrev NoneAgainst : Relation → List ℕ → Type 0
NoneAgainst P l = (u v : ℕ) → stands l u v ≡ true → P v u ≡ false

-- and so with one put before it that P wants none of them left of, without one of its outlets, and without its beginning
ahead : (P : Relation) (a : ℕ) (l : List ℕ) → Each (λ v. P v a ≡ false) l → NoneAgainst P l → NoneAgainst P (a ∷ l)
ahead P a l none keeps u v e = go (stands-cases a l u v e)
  where
    go : StandsCons a l u v → P v u ≡ false
    go (head q h) = subst (λ (x : ℕ). P v x ≡ false) q (none v h)
    go (tail s) = keeps u v s

without : (P : Relation) (X : List ℕ) (b : ℕ) (Y : List ℕ) → NoneAgainst P (X ++ (b ∷ Y)) → NoneAgainst P (X ++ Y)
without P X b Y keeps u v e = keeps u v (stands_whole X (b ∷ Y) u v (go (stands_parts X Y u v e)))
  where
    go : StandsIn X Y u v → StandsIn X (b ∷ Y) u v
    go (first s) = first s
    go (across i j) = across i (omega (arith, times_tail v b Y))
    go (second s) = second (stands_tail b Y u v s)

behind : (P : Relation) (X : List ℕ) (b : ℕ) (Y : List ℕ) → NoneAgainst P (X ++ (b ∷ Y)) → NoneAgainst P Y
behind P X b Y keeps u v e = keeps u v (stands_whole X (b ∷ Y) u v (second (stands_tail b Y u v e)))

-- the same outlets in a row with no pair against P, no dearer
record Better (c : Cost) (P : Relation) (l : List ℕ) : Type 0 where
  row : List ℕ
  rearranged : Rearranged row l
  none_against : NoneAgainst P row
  no_dearer : crossings c row ≤ crossings c l

-- Let b, which P wants left of a, stand right of it, with X between, of which P wants none left of a.
module _ (c : Cost) (P : Relation) (strict : Strict P) (a b : ℕ) (X Y : List ℕ) (wanted : P b a ≡ true) (cheap : c b a ≤ c a b)
    (none_before : Each (λ v. P v a ≡ false) X) (keeps : NoneAgainst P (X ++ (b ∷ Y))) where
  from_x : (u v : ℕ) → 0 < times u X → 0 < times v (b ∷ Y) → P v u ≡ false
  from_x u v i j = keeps u v (stands_whole X (b ∷ Y) u v (across i j))

  from_b : Each (λ v. P v b ≡ false) Y
  from_b v j = keeps b v (stands_whole X (b ∷ Y) b v (second (stands_head b Y b v refl j)))

  not_back : P a b ≡ false
  not_back = not_passed (P a b) (λ e. strict.irreflexive a (strict.transitive a b a e wanted))

  -- b goes leftwards past X and a: those of X that P wanted left of b it would want left of a
  b_first : right_of c b X ≤ left_of c b X → Better c P (a ∷ (X ++ Y)) → Better c P (a ∷ (X ++ (b ∷ Y)))
  b_first h r =
      record {
        row = b ∷ r.row;
        rearranged = λ o. unfold times in omega (arith, r.rearranged o, times_into o X b Y);
        none_against = ahead P b r.row (λ v k. others v (omega (arith, r.rearranged v))) r.none_against;
        no_dearer =
            unfold crossings right_of in
            omega (
              arith,
              r.no_dearer,
              right_of_rearranged c b r.row (a ∷ (X ++ Y)) r.rearranged,
              right_of-append c b X Y,
              right_of_into c a X b Y,
              crossings_into c X b Y,
            );
      }
    where
      of_x : Each (λ v. P v b ≡ false) X
      of_x v i = not_passed (P v b) (λ e. never_both (strict.transitive v b a e wanted) (none_before v i))

      others : Each (λ v. P v b ≡ false) (a ∷ (X ++ Y))
      others = each_cons a (X ++ Y) not_back (each_append X Y of_x from_b)

  -- a goes rightwards past X and b: those of X that P wanted right of a it would want right of b
  a_behind : left_of c a X ≤ right_of c a X → Better c P (a ∷ Y) → Better c P (a ∷ (X ++ (b ∷ Y)))
  a_behind h r =
      record {
        row = X ++ (b ∷ r.row);
        rearranged = λ o. unfold times in omega (arith, r.rearranged o, times-append o X (b ∷ r.row), times-append o X (b ∷ Y));
        none_against = λ u v e. go u v (stands_parts X (b ∷ r.row) u v e);
        no_dearer =
            unfold crossings right_of in
            omega (
              arith,
              r.no_dearer,
              right_of_rearranged c b r.row (a ∷ Y) r.rearranged,
              right_of_into c a X b Y,
              right_of-append c a X Y,
              crossings_into c X b r.row,
              crossings_into c X b Y,
              crossings_into c X a Y,
              crossings-behind c X r.row (a ∷ Y) r.rearranged,
            );
      }
    where
      -- what holds of a and of each of Y holds of each of the row
      of_row : (Q : ℕ → Type 0) → Q a → Each Q Y → Each Q r.row
      of_row Q here rest v j = each_cons a Y here rest v (omega (arith, r.rearranged v))

      of_x : (u : ℕ) → 0 < times u X → Each (λ v. P v u ≡ false) (b ∷ r.row)
      of_x u i =
          let left : P b u ≡ false = from_x u b i (omega (arith, times_here b b Y refl)) in
          each_cons b r.row left
          (of_row (λ v. P v u ≡ false)
          (not_passed (P a u) (λ e. never_both (strict.transitive b a u wanted e) left))
          (λ v j. from_x u v i (omega (arith, times_tail v b Y))))

      go : (u v : ℕ) → StandsIn X (b ∷ r.row) u v → P v u ≡ false
      go u v (first s) = keeps u v (stands_whole X (b ∷ Y) u v (first s))
      go u v (across i j) = of_x u i v j
      go u v (second s) = ahead P b r.row (of_row (λ v. P v b ≡ false) not_back from_b) r.none_against u v s

-- The law over any cost for which P's pairs are the cheaper way and may be moved past any block
module _ (c : Cost) (P : Relation) (strict : Strict P) (cheap : (a b : ℕ) → P a b ≡ true → c a b ≤ c b a)
    (moves : (a b : ℕ) → P a b ≡ true → (X : List ℕ) → Past c a b X) where
  -- a comes before a row with no pair against P: past the first that P wants left of it, it goes on in a shorter row
  inserted : (m a : ℕ) (l : List ℕ) → length l < m → NoneAgainst P l → Better c P (a ∷ l)
  inserted zero a l h keeps = absurd (omega arith)
  inserted (suc m) a l h keeps = ⊎_elim (shorter (inserted m a)) as_it_stands (first_in (λ v. P v a) l)
    where
      as_it_stands : Each (λ v. P v a ≡ false) l → Better c P (a ∷ l)
      as_it_stands none = record { row = a ∷ l; rearranged = λ o. refl; none_against = ahead P a l none keeps; no_dearer = le_refl (crossings c (a ∷ l)) }

      shorter : ((k : List ℕ) → length k < m → NoneAgainst P k → Better c P (a ∷ k)) → First (λ v. P v a) l → Better c P (a ∷ l)
      shorter rest f =
          let X = f.before in
          let b = f.here in
          let Y = f.after in
          let kept : NoneAgainst P (X ++ (b ∷ Y)) = subst (NoneAgainst P) f.whole keeps in
          let long : length X + suc (length Y) < suc m = omega (arith, ap length f.whole, length-append X (b ∷ Y)) in
          let without_b : Better c P (a ∷ (X ++ Y)) = rest (X ++ Y) (omega (arith, length-append X Y)) (without P X b Y kept) in
          let behind_b : Better c P (a ∷ Y) = rest Y (omega arith) (behind P X b Y kept) in
          subst (λ (k : List ℕ). Better c P (a ∷ k)) (sym f.whole)
          (⊎_elim
          (λ k. b_first c P strict a b X Y f.passes (cheap b a f.passes) f.none_before kept k without_b)
          (λ k. a_behind c P strict a b X Y f.passes (cheap b a f.passes) f.none_before kept k behind_b)
          (moves b a f.passes X))

  bettered : (l : List ℕ) → Better c P l
  unfolding times crossings
  bettered [] = record { row = []; rearranged = λ o. refl; none_against = λ u v e. absurd (stands-none u v e); no_dearer = le_refl 0 }
  bettered (a ∷ l) =
      let r = bettered l in
      let s = inserted (suc (length r.row)) a r.row (le_refl (suc (length r.row))) r.none_against in
      record {
        row = s.row;
        rearranged = λ o. omega (arith, s.rearranged o, r.rearranged o);
        none_against = s.none_against;
        no_dearer = omega (arith, s.no_dearer, r.no_dearer, right_of_rearranged c a r.row l r.rearranged);
      }

  pub extension : (n : ℕ) (l : List ℕ) → IsOrder n l → Extension n c P l
  extension n l order =
      let r = bettered l in
      record {
        order = r.row;
        is_order = order_rearranged n l order r.row r.rearranged;
        extends = record { stood = stood r };
        no_dearer = r.no_dearer;
      }
    where
      stood : (r : Better c P l) (u v : ℕ) → u < n → v < n → P u v ≡ true → stands r.row u v ≡ true
      stood r u v hu hv e =
          let in_u : 0 < times u r.row = omega (arith, r.rearranged u, order.once u hu) in
          let in_v : 0 < times v r.row = omega (arith, r.rearranged v, order.once v hv) in
          ⊎_elim
          (λ s. s)
          (λ s. absurd (never_both e (r.none_against v u s)))
          (stands_total r.row u v (λ q. strict.irreflexive u (subst (λ (x : ℕ). P u x ≡ true) (sym q) e)) in_u in_v)

-- and over cross values.
pub safe : (outlet : ℕ → Profile) (P : Relation) → Safe outlet P → (n : ℕ) (l : List ℕ) → IsOrder n l → Extension n (cost_of outlet) P l
safe outlet P s n l order =
    extension (cost_of outlet) P s.strict
    (λ a b e. cheaper (outlet a) (outlet b) (s.movable a b e))
    (λ a b e X. past outlet a b (s.movable a b e) X)
    n l order
