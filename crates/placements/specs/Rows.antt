-- The relation of the rules, read off 64 rows of bits: row 2u holds the outlets that stand right of u, row 2u + 1 those that stand left of it.
use Rattle.std.specs.Prelude.{Bool, true, false, not, ◌&&◌, ◌||◌, List, ◌≡◌, ℕ, ◌+◌, ◌-◌, ◌*◌, ◌^◌, ◌<◌, ◌≤◌, min, max, eqb, length, get_or}
use Rattle.std.specs.Int.Bits.{bit_or}
use Rattle.rules.specs.Crossing.{Relation, Cost, bit}
use Rattle.rules.specs.Placement.{place, price, spent}
use Rattle.rules.specs.Walk.{chosen, partner, equal_costs}
use Rattle.rules.specs.Rail.{root}
use Rattle.tables.specs.Tables.{Masks}
use Rattle.laws.proofs.Terms.{Strict}
use Rattle.laws.proofs.Placing.{UnplacedPair}

unfoldable pub reads : List ℕ → Relation
reads rows u v = eqb (bit (get_or rows (2 * u) 0) v) 1

-- whoever stands right of another has that one on its left
abbrev pub Turned : List ℕ → Type 0
Turned rows = (u v : ℕ) → bit (get_or rows (2 * u + 1) 0) v ≡ bit (get_or rows (2 * v) 0) u

-- rows that hold a relation of placements both ways
pub record Rows (rows : List ℕ) : Type 0 where
  pub size : length rows ≡ 64
  pub fit : (i : ℕ) → get_or rows i 0 < 2 ^ 32
  pub turned : Turned rows
  pub strict : Strict (reads rows)

-- a pair of outlets that may be placed: two of the 32, neither of which stands left of the other
pub record Unplaced (rows : List ℕ) (a b : ℕ) : Type 0 where
  pub first : a < 32
  pub second : b < 32
  pub different : a ≡ b → ⊥
  pub ahead : reads rows a b ≡ false
  pub behind : reads rows b a ≡ false

-- rows of which those of the outlets in `which`, on one side, have grown by what is in `more`
pub record Grown (rows : List ℕ) (which more side : ℕ) (rows' : List ℕ) : Type 0 where
  pub size : length rows' ≡ length rows
  pub grew : (u : ℕ) → u < 32 → bit which u ≡ 1 → get_or rows' (2 * u + side) 0 ≡ bit_or (get_or rows (2 * u + side) 0) more
  pub kept : (u : ℕ) → u < 32 → bit which u ≡ 0 → get_or rows' (2 * u + side) 0 ≡ get_or rows (2 * u + side) 0
  pub other : (u : ℕ) → u < 32 → get_or rows' (2 * u + (1 - side)) 0 ≡ get_or rows (2 * u + (1 - side)) 0

-- every pair that the rows place is one of n outlets
pub record Within (n : ℕ) (rows : List ℕ) : Type 0 where
  pub first : (u v : ℕ) → reads rows u v ≡ true → u < n
  pub second : (u v : ℕ) → reads rows u v ≡ true → v < n

-- who comes to stand left of somebody new where a is placed left of b, and who right of somebody new
pub record Brings (rows : List ℕ) (a b left right : ℕ) : Type 0 where
  pub pair : Unplaced rows a b
  pub left_fits : left < 2 ^ 32
  pub right_fits : right < 2 ^ 32
  pub lefts : (u : ℕ) → eqb (bit left u) 1 ≡ ((eqb u a || reads rows u a) && not (reads rows u b))
  pub rights : (v : ℕ) → eqb (bit right v) 1 ≡ ((eqb v b || reads rows b v) && not (reads rows a v))

-- rows with a placed left of b and all that follows
pub record PlacedIn (rows : List ℕ) (a b : ℕ) (rows' : List ℕ) : Type 0 where
  pub held : Rows rows'
  pub relation : reads rows' ≡ place (reads rows) a b

-- rows in which a has come to stand left of b, in the rows of both
pub record Put (rows : List ℕ) (a b : ℕ) (rows' : List ℕ) : Type 0 where
  pub size : length rows' ≡ length rows
  pub fit : ((i : ℕ) → get_or rows i 0 < 2 ^ 32) → (i : ℕ) → get_or rows' i 0 < 2 ^ 32
  pub turned : Turned rows → Turned rows'
  pub placed : reads rows' a b ≡ true
  pub kept : (u v : ℕ) → (u ≡ a → v ≡ b → ⊥) → reads rows' u v ≡ reads rows u v

-- the place of the pair of u and v where pairs go by the larger number, then by the smaller
abbrev pub pair_at : ℕ → ℕ → ℕ
pair_at u v = 32 * max u v + min u v

-- rows that hold the base placements of the pairs before a place
pub record BaseTo (rail : List ℕ) (place : ℕ) (rows : List ℕ) : Type 0 where
  pub size : length rows ≡ 64
  pub fit : (i : ℕ) → get_or rows i 0 < 2 ^ 32
  pub turned : Turned rows
  pub before : (u v : ℕ) → pair_at u v < place → reads rows u v ≡ root rail u v
  pub after : (u v : ℕ) → place ≤ pair_at u v → reads rows u v ≡ false

-- rows that hold the base placements of a rail
pub record BaseOf (rail rows : List ℕ) : Type 0 where
  pub held : Rows rows
  pub within : Within (length rail) rows
  pub base : (u v : ℕ) → u < length rail → v < length rail → reads rows u v ≡ root rail u v

-- what it costs, among any n outlets that the rows are of, to place a left of b
pub record Priced (rows : List ℕ) (c : Cost) (a b paid : ℕ) : Type 0 where
  pub priced : (n : ℕ) → n ≤ 32 → Within n rows → a < n → b < n → paid ≡ price n c (reads rows) (place (reads rows) a b)
  pub most : paid ≤ 2064384

pub record Spent (n : ℕ) (rows : List ℕ) (c : Cost) (paid : ℕ) : Type 0 where
  pub all : paid ≡ spent n c (reads rows)
  pub most : paid ≤ 2064384

-- what the unplaced pairs cost, the smaller number left; or something above `most` where they cost more
pub record EqualWithin (n : ℕ) (rows : List ℕ) (c : Cost) (most paid : ℕ) : Type 0 where
  pub within : paid ≤ most → paid ≡ equal_costs n c (reads rows)
  pub beyond : most < paid → most < equal_costs n c (reads rows)

-- the pair that a case takes, by the masks of the costs
pub record ChosenIn (n : ℕ) (masks rows : List ℕ) (from a : ℕ) : Type 0 where
  pub chosen : (c : Cost) → Masks n c masks → ((i : ℕ) → i < from → partner n c (reads rows) i ≡ n) → a ≡ chosen n c (reads rows)

pub record PartnerIn (masks rows : List ℕ) (a b : ℕ) : Type 0 where
  pub partner : (n : ℕ) (c : Cost) → n ≤ 32 → Masks n c masks → a < n → partner n c (reads rows) a < n → b ≡ partner n c (reads rows) a

-- two outlets of n that a relation leaves unplaced
pub record SomeUnplaced (n : ℕ) (R : Relation) : Type 0 where
  pub u : ℕ
  pub v : ℕ
  pub pair : UnplacedPair n R u v

-- where the answer is yes, a placement leaves some
pub record LeavesUnplaced (n : ℕ) (rows : List ℕ) (left right : ℕ) (answer : Bool) : Type 0 where
  pub leaves : answer ≡ true → (a b : ℕ) → Brings rows a b left right → SomeUnplaced n (place (reads rows) a b)
