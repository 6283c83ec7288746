-- What the outlets of a row pay together, the lowest first, and that rows of bits pay what the rules sum over the pairs of n outlets.
use mathlib.Core.Bool.{Bool, true, not, ◌&&◌, ◌||◌}
use mathlib.Core.List.{List}
use mathlib.Core.Path.{◌≡◌, refl, sym, ◌∙◌, ap}
use Prim.Native.Nat.{ℕ, zero, suc, ◌+◌, ◌-◌, ◌*◌, ◌^◌, ◌≤◌, ◌<◌}
use native.Mathlib.Omega.{arith}
use native.Mathlib.Nat.{zero-mul, mul-le-mul}
use native.Mathlib.Numerals.{add-one}
use lib.Bits.{bit_and}
use lib.Dec.{eqb, ltb}
use lib.ListN.{get_or}
use borrow.Author.Tests.{lt-ltb, ltb-true}
use Rattle.rules.specs.Sum.{sum, pair_sum, only_if}
use Rattle.rules.specs.Crossing.{Relation, Cost, bit}
use Rattle.rules.specs.Placement.{place, price, spent}
use Rattle.rules.specs.Walk.{unplaced, equal_costs}
use Rattle.rules.proofs.Sums.{and_left, sum_cong, sum-none, sum_rest, only_if_not, only_if_most, only_if_and, sum_only_if}
use Rattle.laws.proofs.Tests.{not_passed}
use Rattle.hoses.proofs.Bits.{bit-most, bit-none}
use Rattle.tables.specs.Tables.{cost_in, Costs, Passed}
use Rattle.placements.specs.Rows.{reads, Rows, Within, Brings}
use Rattle.placements.proofs.Masks.{Taken, has, has_without, bit_counts}
use Rattle.placements.proofs.Reading.{open_of, has_open, left_within, right_within}
use Rattle.placements.proofs.Closing.{new_left, new_right, closed_new}

-- what those in `which` have to pay, outlet x its share g x
unfoldable pub to_pay : (ℕ → ℕ) → ℕ → ℕ
to_pay g which = sum (λ x. bit which x * g x) 32

-- what was paid and what those left have to pay stays the same while the lowest one pays,
pub paid_on : (g : ℕ → ℕ) {left u later : ℕ} (r all paid : ℕ) → Taken left u later → r ≡ g u → paid + to_pay g left ≡ all
    → paid + r + to_pay g later ≡ all
unfolding to_pay
paid_on g r all paid t own before = omega (arith, t.shares g)

-- and where none is left, all is paid
pub paid-all : (g : ℕ → ℕ) (left all paid : ℕ) → left ≡ 0 → paid + to_pay g left ≡ all → paid ≡ all
unfolding to_pay
paid-all g left all paid none before =
    let nothing : to_pay g 0 ≡ 0 = sum-none _ 32 (λ x l. ap (λ (n : ℕ). n * g x) (bit-none x) ∙ zero-mul (g x)) in
    omega (arith, ap (to_pay g) none)

-- one that pays after those below it
pub sum_more : (f : ℕ → ℕ) (n : ℕ) → sum f (n + 1) ≡ sum f n + f n
unfolding sum
sum_more f n = ap (sum f) (add-one n)

-- n that pay at most k each
pub sum-most : (f : ℕ → ℕ) (k n : ℕ) → ((x : ℕ) → f x ≤ k) → sum f n ≤ n * k
unfolding sum
sum-most f k zero h = omega arith
sum-most f k (suc n) h = omega (arith, h n, sum-most f k n h)

pub to_pay_most : (g : ℕ → ℕ) (k which : ℕ) → ((x : ℕ) → g x ≤ k) → to_pay g which ≤ 32 * k
unfolding to_pay
to_pay_most g k which h =
    sum-most (λ x. bit which x * g x) k 32
    (λ x. let one : bit which x * g x ≤ 1 * k = mul-le-mul (bit-most which x) (h x) in omega arith)

-- a row of a table of costs, and 32 rows of it
pub row-most : (costs : List ℕ) → Costs costs → (u which : ℕ) → to_pay (cost_in costs u) which ≤ 64512
unfolding cost_in
row-most costs table u which = to_pay_most (cost_in costs u) 2016 which (λ v. table.most (32 * u + v))

pub rows-most : (costs : List ℕ) → Costs costs → (row : ℕ → ℕ) (n : ℕ) → n ≤ 32 → sum (λ u. to_pay (cost_in costs u) (row u)) n ≤ 2064384
rows-most costs table row n small =
    omega (arith, sum-most (λ u. to_pay (cost_in costs u) (row u)) 64512 n (λ u. row-most costs table u (row u)))

-- where none in `which` is beyond n, those below n pay
pub to_pay_within : (g : ℕ → ℕ) (which n : ℕ) (t : ℕ → Bool) → n ≤ 32 → ((x : ℕ) → has which x ≡ t x) → ((x : ℕ) → t x ≡ true → x < n)
    → to_pay g which ≡ sum (λ x. only_if (t x) (g x)) n
unfolding to_pay
to_pay_within g which n t h same within =
    sum_cong (λ x. bit which x * g x) (λ x. only_if (t x) (g x)) 32
    (λ x l. bit_counts which x (g x) ∙ ap (λ (b : Bool). only_if b (g x)) (same x))
    ∙ sum_rest (λ x. only_if (t x) (g x)) n 32 h (λ x l m. only_if_not (g x) (not_passed (t x) (λ p. omega (arith, within x p))))

-- ---- rows of n outlets, and what they place

-- right & !rows[2 * u]
abbrev pub new_of : ℕ → List ℕ → ℕ → ℕ
new_of right rows u = bit_and right ((2 ^ 32 - 1) - get_or rows (2 * u) 0)

-- what u pays: for those on its right, for those above it that are unplaced with it, and for those that are new on its right
abbrev pub placed_pays : List ℕ → List ℕ → ℕ → ℕ
placed_pays rows costs u = to_pay (cost_in costs u) (get_or rows (2 * u) 0)

abbrev pub unplaced_pays : ℕ → Cost → List ℕ → ℕ → ℕ
unplaced_pays n c rows u = sum (λ v. only_if (ltb u v && unplaced (reads rows) u v) (c u v)) n

abbrev pub new_pays : List ℕ → List ℕ → ℕ → ℕ → ℕ
new_pays rows costs right u = to_pay (cost_in costs u) (new_of right rows u)

-- together the outlets pay for all unplaced pairs
pub unplaced_rows : (n : ℕ) (c : Cost) (rows : List ℕ) → sum (unplaced_pays n c rows) n ≡ equal_costs n c (reads rows)
unfolding equal_costs pair_sum
unplaced_rows n c rows = refl

-- by a table none of them pays more than 32 times one pair's most
pub unplaced-most : (costs rows : List ℕ) → Costs costs → (n m : ℕ) → n ≤ 32 → sum (unplaced_pays n (cost_in costs) rows) m ≤ m * 64512
unfolding cost_in
unplaced-most costs rows table n m few =
    sum-most (unplaced_pays n (cost_in costs) rows) 64512 m
    (λ u.
    let each = sum-most (λ v. only_if (ltb u v && unplaced (reads rows) u v) (cost_in costs u v)) 2016 n
    (λ v. omega (arith, only_if_most (ltb u v && unplaced (reads rows) u v) (cost_in costs u v), table.most (32 * u + v))) in
    omega (arith, each))

module _ (n : ℕ) (c : Cost) (small : n ≤ 32) where
  -- each outlet below n pays for those in its row
  pub rows_pay : (row : ℕ → ℕ) (t : Relation) → ((u v : ℕ) → u < n → has (row u) v ≡ t u v) → ((u v : ℕ) → t u v ≡ true → v < n)
      → sum (λ u. to_pay (c u) (row u)) n ≡ pair_sum (λ u v. only_if (t u v) (c u v)) n
  unfolding pair_sum
  rows_pay row t same within =
      sum_cong (λ u. to_pay (c u) (row u)) (λ u. sum (λ v. only_if (t u v) (c u v)) n) n
      (λ u l. to_pay_within (c u) (row u) n (t u) small (λ v. same u v l) (within u))

  pub spent_rows : (rows : List ℕ) → Within n rows → sum (λ u. to_pay (c u) (get_or rows (2 * u) 0)) n ≡ spent n c (reads rows)
  unfolding spent reads
  spent_rows rows w = rows_pay (λ u. get_or rows (2 * u) 0) (reads rows) (λ u v l. refl) w.second

  -- so does u for those of a set of the outlets above it that are unplaced with it
  pub unplaced_row : (rows : List ℕ) (u mask : ℕ) → Rows rows → mask < 2 ^ 32 → Passed mask n (λ v. ltb u v)
      → to_pay (c u) (open_of mask rows u) ≡ unplaced_pays n c rows u
  unplaced_row rows u mask held fits above =
      to_pay_within (c u) (open_of mask rows u) n (λ v. (ltb v n && ltb u v) && unplaced (reads rows) u v) small
      (λ v. has_open mask rows u v fits held ∙ ap (λ (t : Bool). t && unplaced (reads rows) u v) (above v))
      (λ v e. ltb-true v n (and_left (ltb v n) _ (and_left (ltb v n && ltb u v) _ e)))
      ∙ sum_cong _ _ n (λ v l. ap (λ (t : Bool). only_if ((t && ltb u v) && unplaced (reads rows) u v) (c u v)) (lt-ltb v n l))

  -- The new ones on the left pay for those new on the right that did not stand right of them.
  pub price_rows : {rows : List ℕ} {a b left right : ℕ} → Brings rows a b left right → Rows rows → Within n rows → a < n → b < n
      → to_pay (λ u. to_pay (c u) (new_of right rows u)) left ≡ price n c (reads rows) (place (reads rows) a b)
  unfolding price pair_sum reads
  price_rows {rows} {a} {b} {left} {right} brings held w ha hb =
      to_pay_within (λ u. to_pay (c u) (new_of right rows u)) left n (new_left (reads rows) a b) small brings.lefts
      (λ u e. left_within n rows a u w ha (and_left (eqb u a || reads rows u a) _ e))
      ∙ sum_cong _ _ n (λ u l. each u)
    where
      new : (u v : ℕ) → has (new_of right rows u) v ≡ (new_right (reads rows) a b v && not (reads rows u v))
      new u v =
          has_without 32 right (get_or rows (2 * u) 0) v brings.right_fits (held.fit (2 * u))
          ∙ ap (λ (t : Bool). t && not (reads rows u v)) (brings.rights v)

      each : (u : ℕ) → only_if (new_left (reads rows) a b u) (to_pay (c u) (new_of right rows u))
          ≡ sum (λ v. only_if (place (reads rows) a b u v && not (reads rows u v)) (c u v)) n
      each u =
          ap (only_if (new_left (reads rows) a b u))
          (to_pay_within (c u) (new_of right rows u) n (λ v. new_right (reads rows) a b v && not (reads rows u v)) small (new u)
          (λ v e. right_within n rows b v w hb (and_left (eqb v b || reads rows b v) _ (and_left (new_right (reads rows) a b v) _ e))))
          ∙ sym (sum_only_if (new_left (reads rows) a b u) (λ v. only_if (new_right (reads rows) a b v && not (reads rows u v)) (c u v)) n)
          ∙ sum_cong _ _ n (λ v l.
          sym (only_if_and (new_left (reads rows) a b u) (new_right (reads rows) a b v && not (reads rows u v)) (c u v))
          ∙ ap (λ (t : Bool). only_if t (c u v)) (sym (closed_new (reads rows) a b held.strict u v)))
