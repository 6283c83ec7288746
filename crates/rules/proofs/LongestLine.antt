-- The longest line has 119 bytes: 32 outlets, of which 22 have two digits, two digits of crossings and seven of cases. How long a line is, by its words.
use mathlib.Core.Path.{◌≡◌, refl, sym, ◌∙◌, ap}
use mathlib.Core.List.{List, [], ◌∷◌, ◌++◌, map}
use Prim.Native.Nat.{ℕ, suc, ◌+◌, ◌*◌, ◌^◌, ◌≤◌, ◌<◌}
use native.Mathlib.Omega.{arith}
use lib.Dec.{eqb}
use lib.ListN.{length, get_or, length-append}
use Rattle.rules.specs.Sum.{sum, every, only_if}
use Rattle.rules.specs.Crossing.{times, IsOrder}
use Rattle.rules.specs.Numbers.{not_an_order}
use Rattle.rules.specs.Text.{text}
use Rattle.rules.specs.Line.{Word, digits, decimal, behind, line_of, order_line, no_order_line, refused_line}
use Rattle.rules.proofs.Sums.{only_if_one, sum_add, sum_cong, sum-none, sum_at, sum_upto}
use Rattle.rules.proofs.Orders.{entry_on_rail, test_order}
use Rattle.rules.proofs.Largest.{count_up}
use Rattle.rules.proofs.Decimal.{decimal-length}

-- the bytes of an outlet in a line: a blank and its digits
abbrev outlet_bytes : ℕ → ℕ
outlet_bytes o = 1 + length (decimal o)

-- a value of each entry of a row, added up: the value of an outlet counts as often as it stands there,
row_sum : (ℕ → ℕ) → List ℕ → ℕ
row_sum f [] = 0
row_sum f (x ∷ l) = f x + row_sum f l

row_sum_times : (f : ℕ → ℕ) (l : List ℕ) (n : ℕ) → ((p : ℕ) → p < length l → get_or l p 0 < n) → row_sum f l ≡ sum (λ o. times o l * f o) n
unfolding row_sum times
row_sum_times f [] n h = sym (sum-none (λ o. 0 * f o) n (λ o l. omega arith))
row_sum_times f (x ∷ l) n h =
    omega (
      arith,
      sum_at f n x (h 0 (omega arith)),
      row_sum_times f l n (λ p k. h (suc p) (omega arith)),
      sum_add (λ o. only_if (eqb x o) (f o)) (λ o. times o l * f o) n,
      sum_cong (λ o. times o (x ∷ l) * f o) (λ o. only_if (eqb x o) (f o) + times o l * f o) n (λ o k. omega (arith, only_if_one (eqb x o) (f o))),
    )

-- over an order once,
row_sum_order : (f : ℕ → ℕ) (n : ℕ) (l : List ℕ) → IsOrder n l → row_sum f l ≡ sum f n
row_sum_order f n l order =
    row_sum_times f l n (entry_on_rail n l order)
    ∙ sum_cong (λ o. times o l * f o) f n (λ o h. omega (arith, ap (λ (k : ℕ). k * f o) (order.once o h)))

-- at most 86 bytes: ten outlets of one digit, 22 of two, and a blank before each.
order_bytes : (n : ℕ) (l : List ℕ) → n ≤ 32 → IsOrder n l → row_sum outlet_bytes l ≤ 86
order_bytes n l h order =
    let full : sum outlet_bytes 32 ≡ 86 = unfold sum digits decimal in refl in
    omega (arith, row_sum_order outlet_bytes n l order, sum_upto outlet_bytes n 32 h)

-- The words of a line, each behind its blank, after an order's outlets.
outlets_behind : (l : List ℕ) (words : List Word) → length (behind (map decimal l ++ words)) ≡ row_sum outlet_bytes l + length (behind words)
unfolding row_sum behind
outlets_behind [] words = omega arith
outlets_behind (x ∷ l) words = simp length-append (omega (arith, outlets_behind l words))

order_line-length : (l : List ℕ) (count cases : ℕ) → length (order_line l count cases) ≡ 24 + row_sum outlet_bytes l + length (decimal count) + length (decimal cases)
unfolding order_line line_of behind text
order_line-length l count cases =
    omega (arith, outlets_behind l (text "crossings" ∷ decimal count ∷ text "cases" ∷ decimal cases ∷ []), length-append (decimal count) (behind (text "cases" ∷ decimal cases ∷ [])), length-append (decimal cases) (behind []))

-- The longest line has 119 bytes: no order of up to 32 outlets, with at most 30 crossings and F(33) - 1 cases, has a longer one,
pub longest_at_most : (n : ℕ) (l : List ℕ) (count cases : ℕ) → n ≤ 32 → IsOrder n l → count ≤ 30 → cases ≤ 3524577 → length (order_line l count cases) ≤ 119
longest_at_most n l count cases h order hc hs =
    omega
    (arith, order_line-length l count cases, order_bytes n l h order, decimal-length 1 count (omega arith), decimal-length 6 cases (omega arith))

-- and 32 outlets in number order, with as many crossings and cases as that, have one so long.
pub longest_reached : IsOrder 32 (count_up 32 0) × (length (order_line (count_up 32 0) 30 3524577) ≡ 119)
unfolding count_up order_line line_of behind text digits decimal not_an_order every times only_if
longest_reached = (test_order 32 (count_up 32 0) refl, refl)

-- The lines of refusals are shorter, whatever 64-bit number they tell.
pub refused_line-length : (number : ℕ) → length (refused_line number) ≡ 9 + length (decimal number)
unfolding refused_line line_of behind text
refused_line-length number = omega (arith, length-append (decimal number) (behind []))

pub no_order_line-length : (cases : ℕ) → length (no_order_line cases) ≡ 17 + length (decimal cases)
unfolding no_order_line line_of behind text digits decimal
no_order_line-length cases = omega (arith, length-append (decimal cases) (behind []))

pub refused_at_most : (number : ℕ) → number < 2 ^ 64 → length (refused_line number) ≤ 119
refused_at_most number h = omega (arith, refused_line-length number, decimal-length 19 number (omega arith))

pub no_order_at_most : (cases : ℕ) → cases < 2 ^ 64 → length (no_order_line cases) ≤ 119
no_order_at_most cases h = omega (arith, no_order_line-length cases, decimal-length 19 cases (omega arith))
