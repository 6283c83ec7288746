-- An order of n outlets has n entries, each below n, none twice. The other way round, n entries among which each outlet stands once are an order:
-- the test of number 7 says exactly what an order is.
use mathlib.Core.Bool.{true, false, ◌&&◌}
use mathlib.Core.List.{List}
use mathlib.Core.Logic.{◌↔◌}
use mathlib.Core.Path.{◌≡◌, ◌∙◌}
use Prim.Native.Nat.{ℕ, suc, ◌+◌, ◌≤◌, ◌<◌}
use native.Mathlib.Omega.{arith}
use native.Mathlib.Decide.{dec_lt}
use borrow.Author.Tests.{eqb-true, eq-eqb, not-false}
use lib.Dec.{eqb}
use lib.ListN.{length, get_or}
use Rattle.rules.specs.Sum.{sum, every}
use Rattle.rules.specs.Crossing.{IsOrder, times}
use Rattle.rules.specs.Numbers.{not_an_order}
use Rattle.rules.proofs.Sums.{and_left, and_right, sum_upto, sum_ones, every_at, every-all}
use Rattle.laws.proofs.Tests.{and_both, so_not}
use Rattle.laws.proofs.Lists.{NoRepeat, Rearranged, Each, each_entry, above, each_below, length-times}

module _ (n : ℕ) (l : List ℕ) (order : IsOrder n l) where
  pub order_below : Each (λ o. o < n) l
  order_below o h = elim (dec_lt o n) [ yes k ↦ k | no k ↦ absurd (omega (arith, order.nothing_else o (omega arith))) ]

  -- An order of n outlets has n entries,
  pub order_length : length l ≡ n
  order_length = length-times n l order_below ∙ sum_ones (λ o. times o l) n order.once

  -- each of them an outlet,
  pub entry_below : (i : ℕ) → i < length l → get_or l i 0 < n
  entry_below = each_entry l order_below

  -- and none twice.
  pub once_at_most : NoRepeat l
  once_at_most o =
      elim (dec_lt o n)
      [ yes h ↦ omega (arith, order.once o h) | no h ↦ omega (arith, order.nothing_else o (omega arith)) ]

  -- The same outlets in another row are an order too.
  pub order_rearranged : (m : List ℕ) → Rearranged m l → IsOrder n m
  order_rearranged m same =
      record { once = λ o h. same o ∙ order.once o h; nothing_else = λ o h. same o ∙ order.nothing_else o h }

-- A row of n entries in which each outlet stands once is an order: the outlets fill it, and leave nothing for another number.
pub is_order : (n : ℕ) (l : List ℕ) → length l ≡ n → ((o : ℕ) → o < n → times o l ≡ 1) → IsOrder n l
is_order n l long once = record { once = once; nothing_else = none }
  where
    none : (p : ℕ) → n ≤ p → times p l ≡ 0
    none p h =
        let count : ℕ → ℕ = λ o. times o l in
        let m : ℕ = suc p + above l in
        unfold sum in
        omega (
          arith,
          sum_ones count n once,
          sum_upto count n p h,
          sum_upto count (suc p) m (omega arith),
          length-times m l (λ o k. omega (arith, each_below l o k)),
        )

-- So number 7 refuses exactly what is not an order.
pub order_test : (n : ℕ) (l : List ℕ) → (not_an_order n l ≡ false) ↔ IsOrder n l
unfolding not_an_order
order_test n l = (
  λ e.
      let both : (eqb (length l) n && every (λ o. eqb (times o l) 1) n) ≡ true = not-false _ e in
      is_order n l (eqb-true (length l) n (and_left (eqb (length l) n) _ both))
      (λ o h. eqb-true (times o l) 1 (every_at _ n (and_right (eqb (length l) n) _ both) o h)),
  λ order.
      so_not _
      (and_both (eqb (length l) n) _ (eq-eqb (length l) n (order_length n l order))
      (every-all _ n (λ o h. eq-eqb (times o l) 1 (order.once o h)))),
)
