-- A row of the rail's length is an order exactly if none of its entries is bad. First what makes an entry bad or not, then the theorem.
use mathlib.Core.Path.{◌≡◌, refl, sym, ◌∙◌, ap}
use mathlib.Core.Bool.{Bool, true, false, not, ◌||◌, false≢true}
use mathlib.Core.List.{List, [], ◌∷◌}
use Prim.Native.Nat.{ℕ, suc, ◌≤◌, ◌<◌}
use native.Mathlib.Decide.{ℕ_discrete}
use native.Mathlib.Omega.{arith}
use lib.Dec.{eqb}
use lib.ListN.{length, get_or}
use borrow.Author.Tests.{le-leb, lt-leb, leb-false, eq-eqb, ne_eqb, eqb-false, not-true, not-false}
use Rattle.std.specs.Prelude.{Option, Some, None, MatchOption, is_some}
use Rattle.rules.specs.Sum.{sum, every, least}
use Rattle.rules.specs.Crossing.{times, IsOrder}
use Rattle.rules.specs.Numbers.{not_an_order}
use Rattle.rules.proofs.Sums.{every_at, every-all, least-before, least_passes}
use Rattle.rules.proofs.Orders.{times_same, times-other, times-place, times_twice, sum_times_all, sum_full, entry_on_rail, test_order}
use Rattle.orders.specs.Entries.{off_rail, repeats, bad, first_bad}

or-false : (a b : Bool) → (a || b) ≡ false → (a ≡ false) × (b ≡ false)
or-false true b e = absurd (false≢true (sym e))
or-false false b e = (refl, e)

-- an entry of a row that is to be an order of n outlets
module _ (n : ℕ) (row : List ℕ) (place : ℕ) where
  -- the test that an earlier entry is another
  abbrev another : ℕ → Bool
  another earlier = not (eqb (get_or row earlier 0) (get_or row place 0))

  -- which holds where it holds of all of them
  apart : every another place ≡ true → (earlier : ℕ) → earlier < place → get_or row earlier 0 ≡ get_or row place 0 → ⊥
  apart all earlier h =
      let e : ℕ = get_or row earlier 0 in
      let x : ℕ = get_or row place 0 in
      eqb-false e x (not-true (eqb e x) (every_at another place all earlier h))

  pub bad_off : n ≤ get_or row place 0 → bad n row place ≡ true
  unfolding bad off_rail
  bad_off h = rw (le-leb n (get_or row place 0) h)

  pub bad-repeats : (earlier : ℕ) → earlier < place → get_or row earlier 0 ≡ get_or row place 0 → bad n row place ≡ true
  unfolding bad repeats
  bad-repeats earlier h e = rw (go (every another place) refl) (or_true (off_rail n row place))
    where
      or_true : (a : Bool) → (a || true) ≡ true
      or_true true = refl
      or_true false = refl

      go : (b : Bool) → every another place ≡ b → every another place ≡ false
      go true all = absurd (apart all earlier h e)
      go false all = all

  pub good : get_or row place 0 < n → ((earlier : ℕ) → earlier < place → get_or row earlier 0 ≡ get_or row place 0 → ⊥) → bad n row place ≡ false
  unfolding bad off_rail repeats
  good on first =
      rw (
        lt-leb n (get_or row place 0) on,
        every-all another place (λ earlier h. ap not (ne_eqb (get_or row earlier 0) (get_or row place 0) (first earlier h))),
      )

  -- and back
  good_on : bad n row place ≡ false → get_or row place 0 < n
  unfolding bad off_rail
  good_on e = leb-false n (get_or row place 0) (or-false (off_rail n row place) (repeats row place) e).0

  good_first : bad n row place ≡ false → (earlier : ℕ) → earlier < place → get_or row earlier 0 ≡ get_or row place 0 → ⊥
  unfolding bad repeats
  good_first e = apart (not-false (every another place) (or-false (off_rail n row place) (repeats row place) e).1)

-- a row in which no entry repeats an earlier one has each outlet once at most
entry_once_at_most : (l : List ℕ) → ((q p : ℕ) → q < p → p < length l → get_or l q 0 ≡ get_or l p 0 → ⊥) → (o : ℕ) → times o l ≤ 1
unfolding times
entry_once_at_most [] apart o = omega arith
entry_once_at_most (x ∷ l) apart o =
    let later : times o l ≤ 1 = entry_once_at_most l (λ q p h k e. apart (suc q) (suc p) (omega arith) (omega arith) e) o in
    elim (ℕ_discrete x o) [
      | yes e ↦ elim (ℕ_discrete (times o l) 0) [
        | yes none ↦ omega (arith, times_same o x l e)
        | no some ↦
            let again = times-place o l (omega arith) in
            absurd (apart 0 (suc again.0) (omega arith) (omega arith) (e ∙ sym again.2))
      ]
      | no n ↦ omega (arith, times-other o x l n)
    ]

module _ (n : ℕ) (row : List ℕ) where
  pub bad_not_order : first_bad n row < length row → not_an_order n row ≡ true
  unfolding first_bad
  bad_not_order h = go (not_an_order n row) refl
    where
      go : (b : Bool) → not_an_order n row ≡ b → not_an_order n row ≡ true
      go true e = e
      go false e =
          let order : IsOrder n row = test_order n row e in
          let p : ℕ = least (bad n row) (length row) in
          let on : get_or row p 0 < n = entry_on_rail n row order p h in
          let once : times (get_or row p 0) row ≡ 1 = order.once (get_or row p 0) on in
          let fine : bad n row p ≡ false = good n row p on (λ q k s. omega (arith, times_twice row q p k h s)) in
          absurd (false≢true (sym fine ∙ least_passes (bad n row) (length row) h))

  pub none_bad_order : length row ≡ n → length row ≤ first_bad n row → not_an_order n row ≡ false
  unfolding first_bad not_an_order
  none_bad_order e h =
      let fine : (p : ℕ) → p < length row → bad n row p ≡ false = λ p k. least-before (bad n row) (length row) p (omega arith) in
      let added : sum (λ o. times o row) n ≡ length row = sum_times_all row n (λ p k. good_on n row p (fine p k)) in
      let most : (o : ℕ) → times o row ≤ 1 = entry_once_at_most row (λ q p j k. good_first n row p (fine p k) q j) in
      rw (
        eq-eqb (length row) n e,
        every-all (λ o. eqb (times o row) 1) n (λ o k. eq-eqb (times o row) 1 (sum_full (λ u. times u row) n (λ u j. most u) (omega arith) o k)),
      )

  pub length_not_order : (length row ≡ n → ⊥) → not_an_order n row ≡ true
  unfolding not_an_order
  length_not_order d = rw (ne_eqb (length row) n d)

  -- so the place of the first bad entry tells it, for a row of the rail's length
  pub told_by_place : length row ≡ n → (r : Option ℕ)
      → MatchOption r (first_bad n row ≡ length row) (λ place. (place ≡ first_bad n row) × (place < length row)) → is_some r ≡ not_an_order n row
  told_by_place e None none = sym (none_bad_order e (omega arith))
  told_by_place e (Some place) found = sym (bad_not_order (omega arith))
