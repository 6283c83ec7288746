-- The largest counts of document 01: one pair gives at most 2,016 crossings, a full rail at most 496 x 2,016 = 999,936, and both are reached.
use mathlib.Core.Path.{◌≡◌, refl}
use mathlib.Core.List.{List, [], ◌∷◌}
use Prim.Native.Nat.{ℕ, zero, suc, ◌*◌, ◌-◌, ◌^◌, ◌≤◌, ◌<◌}
use native.Mathlib.Omega.{arith}
use native.Mathlib.Nat.{mul-le-mul}
use lib.ListN.{length, get_or, replicate, get_or-replicate}
use Rattle.rules.specs.Sum.{sum}
use Rattle.rules.specs.Crossing.{Cost, Profile, bit, profile, places, cross, right_of, crossings}
use Rattle.rules.specs.Rail.{outlet, cost}
use Rattle.rules.proofs.Sums.{sum_mono, sum_upto, sum_ones}

-- where a place has at most one hose, at most x hoses lie left of place x
at_most_one : (q : Profile) → ((x : ℕ) → q x ≤ 1) → (n : ℕ) → sum q n ≤ n
at_most_one q h n = omega (arith, sum_mono q (λ x. 1) n (λ x l. h x), sum_ones (λ x. 1) n (λ x l. refl))

-- 0 + 1 + .. + (n - 1): the pairs of n things
pairs_of : ℕ → ℕ
pairs_of n = sum (λ x. x) n

one_each : (m x : ℕ) → profile m x ≤ 1
unfolding profile bit
one_each m x = omega arith

-- One pair gives at most 2,016
pub pair_at_most : (a b : ℕ) → cross (profile a) (profile b) ≤ 2016
unfolding cross places sum
pair_at_most a b =
    sum_mono (λ x. profile a x * sum (profile b) x) (λ x. x) 64
    (λ x l.
    let left : sum (profile b) x ≤ x = at_most_one (profile b) (one_each b) x in
    let one : profile a x * sum (profile b) x ≤ 1 * x = mul-le-mul (one_each a x) left in
    omega arith)

-- (both outlets on all 64 bins).
pub pair_reached : cross (profile (2 ^ 64 - 1)) (profile (2 ^ 64 - 1)) ≡ 2016
unfolding cross places sum profile bit
pair_reached = refl

-- what each pair costs at most, or exactly, among the outlets below n, a row of them pays so often as it has pairs
Below : ℕ → List ℕ → Type 0
Below n [] = Unit {0}
Below n (a ∷ l) = (a < n) × Below n l

right_of≤ : (c : Cost) (m : ℕ) → ((a b : ℕ) → c a b ≤ m) → (a : ℕ) (l : List ℕ) → right_of c a l ≤ m * length l
unfolding right_of
right_of≤ c m h a [] = omega arith
right_of≤ c m h a (b ∷ l) = omega (arith, h a b, right_of≤ c m h a l)

crossings≤ : (c : Cost) (m : ℕ) → ((a b : ℕ) → c a b ≤ m) → (l : List ℕ) → crossings c l ≤ m * pairs_of (length l)
unfolding crossings pairs_of sum
crossings≤ c m h [] = omega arith
crossings≤ c m h (a ∷ l) = omega (arith, right_of≤ c m h a l, crossings≤ c m h l)

right_of≡ : (c : Cost) (m n : ℕ) → ((a b : ℕ) → a < n → b < n → c a b ≡ m) → (a : ℕ) → a < n → (l : List ℕ) → Below n l → right_of c a l ≡ m * length l
unfolding right_of Below
right_of≡ c m n h a ha [] w = omega arith
right_of≡ c m n h a ha (b ∷ l) w = omega (arith, h a b ha w.0, right_of≡ c m n h a ha l w.1)

crossings≡ : (c : Cost) (m n : ℕ) → ((a b : ℕ) → a < n → b < n → c a b ≡ m) → (l : List ℕ) → Below n l → crossings c l ≡ m * pairs_of (length l)
unfolding crossings pairs_of sum Below
crossings≡ c m n h [] w = omega arith
crossings≡ c m n h (a ∷ l) w = omega (arith, right_of≡ c m n h a w.0 l w.1, crossings≡ c m n h l w.1)

-- A full rail gives at most 999,936, in whatever order its outlets stand
pub rail_at_most : (rail order : List ℕ) → length order ≤ 32 → crossings (cost rail) order ≤ 999936
unfolding cost outlet
rail_at_most rail order h =
    let pairs : pairs_of (length order) ≤ 496 = unfold pairs_of sum in sum_upto (λ x. x) (length order) 32 h in
    omega
    (arith, crossings≤ (cost rail) 2016 (λ a b. pair_at_most (get_or rail a 0) (get_or rail b 0)) order)

-- (32 outlets, each on all 64 bins, in number order).
pub full : List ℕ
full = replicate 32 (2 ^ 64 - 1)

unfoldable pub count_up : ℕ → ℕ → List ℕ
count_up zero at = []
count_up (suc n) at = at ∷ count_up n (suc at)

full_pair : (a b : ℕ) → a < 32 → b < 32 → cost full a b ≡ 2016
unfolding cost outlet full
full_pair a b ha hb =
    rw (get_or-replicate 32 a (2 ^ 64 - 1) 0 ha, get_or-replicate 32 b (2 ^ 64 - 1) 0 hb)
    pair_reached

counted_below : Below 32 (count_up 32 0)
unfolding Below count_up
counted_below = omega arith

pub rail_reached : crossings (cost full) (count_up 32 0) ≡ 999936
unfolding count_up pairs_of sum
rail_reached = crossings≡ (cost full) 2016 32 full_pair (count_up 32 0) counted_below
