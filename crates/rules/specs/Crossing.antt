-- What a crossing is (document 01, 'The row, the rail and their sizes' and 'What a crossing is'), over profiles: how many hoses an outlet has at each place.
-- Today a place is a bin, and an outlet has one hose there or none; nothing but `profile` says so.
use Rattle.std.specs.Prelude.{Bool, false, ◌&&◌, ◌||◌, List, [], ◌∷◌, ◌≡◌, ℕ, ◌+◌, ◌*◌, ◌/◌, ◌%◌, ◌^◌, ◌<◌, ◌≤◌, ltb, eqb}
use Rattle.rules.specs.Sum.{sum, pair_sum, only_if}

-- A set of bins is held as one 64-bit number, bit b for bin b.
unfoldable pub bit : ℕ → ℕ → ℕ
bit m b = m / 2 ^ b % 2

-- An outlet's bins one after the other, and the set of them.
abbrev pub Bins : Type 0
Bins = List ℕ

unfoldable pub set_of : Bins → ℕ
set_of [] = 0
set_of (b ∷ l) = 2 ^ b + set_of l

abbrev pub Profile : Type 0
Profile = ℕ → ℕ

unfoldable pub profile : ℕ → Profile
profile m x = bit m x

unfoldable pub places : ℕ
places = 64

-- The number of hoses at an outlet is the count of ones in its set.
unfoldable pub hoses : Profile → ℕ
hoses p = sum p places

-- Says of two outlets that the first stands left of the second.
abbrev pub Relation : Type 0
Relation = ℕ → ℕ → Bool

-- Hoses (x, a) and (y, b) cross exactly when x < y and b stands left of a.
unfoldable pub crosses : Relation → ℕ → ℕ → ℕ → ℕ → Bool
crosses left x a y b = ltb x y && left b a

-- cross(a, b) is the number of pairs of a bin x of a and a bin y of b with y < x: the crossings between their hoses when a stands left of b.
unfoldable pub cross : Profile → Profile → ℕ
cross a b = sum (λ x. a x * sum b x) places

-- An order of n outlets has each number below n once, and nothing else.
unfoldable pub times : ℕ → List ℕ → ℕ
times o [] = 0
times o (x ∷ l) = only_if (eqb x o) 1 + times o l

pub record IsOrder (n : ℕ) (l : List ℕ) : Type 0 where
  pub once : (o : ℕ) → o < n → times o l ≡ 1
  pub nothing_else : (o : ℕ) → n ≤ o → times o l ≡ 0

-- What it costs that one outlet stands left of another.
abbrev pub Cost : Type 0
Cost = ℕ → ℕ → ℕ

-- what a pays for standing left of all of l
unfoldable pub right_of : Cost → ℕ → List ℕ → ℕ
right_of c a [] = 0
right_of c a (b ∷ l) = c a b + right_of c a l

-- An order's crossings are the sum of cross(a, b) over every pair with a left of b.
unfoldable pub crossings : Cost → List ℕ → ℕ
crossings c [] = 0
crossings c (a ∷ l) = right_of c a l + crossings c l

-- The same count hose against hose, for the buyer who walks along the rail: which outlet stands left of which in an order,
unfoldable pub stands : List ℕ → Relation
stands [] u v = false
stands (a ∷ l) u v = (eqb a u && ltb 0 (times v l)) || stands l u v

-- and the pairs of hoses (x, a) and (y, b) of n outlets that cross.
unfoldable pub hose_crossings : ℕ → (ℕ → Profile) → Relation → ℕ
hose_crossings n outlet left =
    pair_sum
    (λ b a. sum (λ y. sum (λ x. only_if (crosses left x a y b) (outlet b y * outlet a x)) places) places)
    n
