-- An opened case as code has it: its rows, its rest, the tables of the rail; and what it answers: the walk's cases and end of the rules.
use Rattle.std.specs.Prelude.{Bool, true, false, List, ◌≡◌, ℕ, ◌^◌, ◌<◌, ◌≤◌, ltb}
use Rattle.rules.specs.Crossing.{Cost}
use Rattle.rules.specs.Walk.{End, found, nothing, Outcome, counted, made, partner, chosen, settled, trial, both_ways, opened}
use Rattle.rules.specs.Placement.{place, price}
use Rattle.laws.proofs.Terms.{Paid}
use Rattle.tables.specs.Tables.{cost_in}
use Rattle.tables.specs.declared.Tables.{Tables}
use Rattle.placements.specs.Rows.{reads, Rows, Unplaced, Within, Brings, LeavesUnplaced}

-- the number of outlets, and the cost of each two of them
abbrev pub outlets_of : Tables → ℕ
outlets_of t = t.costs.now.outlets

abbrev pub cost_of : Tables → Cost
cost_of t = cost_in t.costs.now.pairs

-- A case with a rest to spend. No outlet before `from` is of an unplaced pair whose cross values differ, so that the choice need not look there again.
pub record Case (t : Tables) (rows : List ℕ) (from rest : ℕ) : Type 0 where
  pub little : rest ≤ 30
  pub held : Rows rows
  pub within : Within (outlets_of t) rows
  pub paid : Paid (outlets_of t) (cost_of t) (reads rows)
  pub passed : from ≤ outlets_of t
  pub none : (i : ℕ) → i < from → partner (outlets_of t) (cost_of t) (reads rows) i ≡ outlets_of t

-- a case with the pair that it takes
pub record CaseOf (t : Tables) (rows : List ℕ) (from a b rest : ℕ) : Type 0 where
  pub opened : Case t rows from rest
  pub first : a < outlets_of t
  pub second : b < outlets_of t
  pub unplaced : Unplaced rows a b

-- x left of y is the cheaper way of the pair a, b, by the test that the walk makes
pub data Cheaper (c : Cost) (a b : ℕ) : ℕ → ℕ → Type 0 where
  as_numbered : ltb (c a b) (c b a) ≡ true → Cheaper c a b a b
  turned : ltb (c a b) (c b a) ≡ false → Cheaper c a b b a

-- whether an order was found
unfoldable pub has_order : End → Bool
has_order (found l) = true
has_order nothing = false

-- an order that was found is the one that the rows in the room make, which leave no differing pair unplaced
pub record FoundIn (t : Tables) (room order : List ℕ) : Type 0 where
  pub held : Rows room
  pub within : Within (outlets_of t) room
  pub made : order ≡ made (outlets_of t) (reads room)
  pub settled : chosen (outlets_of t) (cost_of t) (reads room) ≡ outlets_of t

-- what a function answers of an outcome: its cases, whether an order was found, and the rows of one that was
pub record Tells (t : Tables) (o : Outcome) (cases : ℕ) (some : Bool) (room : List ℕ) : Type 0 where
  pub count : cases ≡ o.cases
  pub found_one : some ≡ has_order o.end
  pub rows : (l : List ℕ) → o.end ≡ found l → FoundIn t room l

-- The answer of an opened case, by any number of levels above its rest,
pub record Opened (t : Tables) (rows : List ℕ) (rest cases : ℕ) (some : Bool) (room : List ℕ) : Type 0 where
  pub tells : (m : ℕ) → rest < m → Tells t (opened (outlets_of t) (cost_of t) m (reads rows) rest) cases some room

-- of one that takes no pair,
pub record Settled (t : Tables) (rows : List ℕ) (rest cases : ℕ) (some : Bool) (room : List ℕ) : Type 0 where
  pub tells : Tells t (counted (settled (outlets_of t) (cost_of t) (reads rows) rest)) cases some room

-- and of the two placements of its pair, the case itself counted.
pub record Tried (t : Tables) (rows : List ℕ) (a b rest cases : ℕ) (some : Bool) (room : List ℕ) : Type 0 where
  pub tells : (m : ℕ) → rest ≤ m → Tells t (counted (both_ways (outlets_of t) (cost_of t) (opened (outlets_of t) (cost_of t) m) (reads rows) rest a b)) cases some room

-- What one way comes to: its trial's outcome is told.
pub record Trial (t : Tables) (rows : List ℕ) (a b rest cases : ℕ) (some : Bool) (room : List ℕ) : Type 0 where
  pub tells : (m : ℕ) → rest ≤ m → Tells t (trial (outlets_of t) (cost_of t) (opened (outlets_of t) (cost_of t) m) (reads rows) rest a b) cases some room
  pub small : cases < 2 ^ 22

-- what placing a left of b takes from the rest, among any n outlets that the rows are of, and whom it brings,
pub record PriceWithin (costs rows : List ℕ) (a b rest cost left right : ℕ) : Type 0 where
  pub enough : cost ≤ rest
  pub exact : (n : ℕ) → n ≤ 32 → Within n rows → a < n → b < n → cost ≡ price n (cost_in costs) (reads rows) (place (reads rows) a b)
  pub brings : Brings rows a b left right

-- or that it takes more
pub record PriceBeyond (costs rows : List ℕ) (a b rest : ℕ) : Type 0 where
  pub more : (n : ℕ) → n ≤ 32 → Within n rows → a < n → b < n → rest < price n (cost_in costs) (reads rows) (place (reads rows) a b)

-- a placement of the pair of a case, within its rest
pub record Paying (t : Tables) (rows : List ℕ) (from a b rest cost left right : ℕ) : Type 0 where
  pub taken : CaseOf t rows from a b rest
  pub priced : PriceWithin t.costs.now.pairs rows a b rest cost left right

-- where the answer is yes, a placement takes the whole rest and leaves a pair unplaced
pub record LeafIn (t : Tables) (rows : List ℕ) (rest cost left right : ℕ) (answer : Bool) : Type 0 where
  pub all : answer ≡ true → rest ≤ cost
  pub some : LeavesUnplaced (outlets_of t) rows left right answer
