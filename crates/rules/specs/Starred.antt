-- The starred rows of 'Rails worked by hand' as data, and the test that the rules answer a row as it stands there.
-- `proofs/Starred.antt` has the theorem that every row passes.
use Rattle.std.specs.Prelude.{Bool, true, false, ◌&&◌, List, [], ◌∷◌, map, ℕ, eqb, ltb}
use Rattle.rules.specs.Crossing.{Bins, set_of, crossings}
use Rattle.rules.specs.Walk.{Outcome, End, found, nothing}
use Rattle.rules.specs.Rail.{cost, searched}

-- a row of the table: the rail and its budget, then what is answered
pub record Row : Type 0 where
  pub bins : ℕ
  pub outlets : List Bins
  pub k : ℕ
  pub number : ℕ
  pub order : List ℕ
  pub count : ℕ
  pub cases : ℕ

abbrev pub row : ℕ → List Bins → ℕ → ℕ → List ℕ → ℕ → ℕ → Row
row bins outlets k number order count cases =
    record { bins = bins; outlets = outlets; k = k; number = number; order = order; count = count; cases = cases }

abbrev pub bare : List Bins
bare = [] ∷ (0 ∷ []) ∷ []

abbrev pub swap : List Bins
swap = (1 ∷ []) ∷ (0 ∷ []) ∷ []

abbrev pub twin : List Bins
twin = (0 ∷ 1 ∷ []) ∷ (0 ∷ 1 ∷ []) ∷ []

abbrev pub fork : List Bins
fork = (0 ∷ 2 ∷ []) ∷ (1 ∷ []) ∷ []

abbrev pub trident : List Bins
trident = (0 ∷ 2 ∷ 3 ∷ []) ∷ (1 ∷ []) ∷ []

abbrev pub three : List Bins
three = (0 ∷ 2 ∷ 3 ∷ []) ∷ (1 ∷ []) ∷ (0 ∷ 3 ∷ []) ∷ []

abbrev pub chain : List Bins
chain = (0 ∷ 2 ∷ 3 ∷ []) ∷ (1 ∷ []) ∷ (2 ∷ []) ∷ []

-- in each row: bins, outlets, k; then the number, the order, its crossings, the cases
unfoldable pub rails : List Row
rails =
    row 0 [] 0 0 [] 0 1
    ∷ row 1 bare 0 0 (1 ∷ 0 ∷ []) 0 1
    ∷ row 2 swap 0 0 (1 ∷ 0 ∷ []) 0 1
    ∷ row 2 twin 0 6 [] 0 0
    ∷ row 2 twin 1 0 (0 ∷ 1 ∷ []) 1 1
    ∷ row 3 fork 0 6 [] 0 1
    ∷ row 3 fork 1 0 (0 ∷ 1 ∷ []) 1 1
    ∷ row 4 trident 0 6 [] 0 1
    ∷ row 4 trident 1 0 (1 ∷ 0 ∷ []) 1 2
    ∷ row 4 three 3 6 [] 0 3
    ∷ row 4 three 4 0 (1 ∷ 0 ∷ 2 ∷ []) 4 2
    ∷ row 4 chain 1 6 [] 0 2
    ∷ row 4 chain 2 0 (1 ∷ 0 ∷ 2 ∷ []) 2 2
    ∷ []

-- One rail more: placing 0 left of 1 also places 0 left of 2, and the second crossing is what k = 2 has not. No starred rail opens a case in
-- which a pair placed by transitivity decides.
abbrev pub follow : List Bins
follow = (0 ∷ 1 ∷ []) ∷ (0 ∷ 2 ∷ []) ∷ (0 ∷ 2 ∷ []) ∷ []

unfoldable pub further : List Row
further = row 3 follow 2 6 [] 0 1 ∷ row 3 follow 3 0 (0 ∷ 1 ∷ 2 ∷ []) 3 2 ∷ []

-- every bin of an outlet is one of the row's
unfoldable pub within : ℕ → Bins → Bool
within bins [] = true
within bins (b ∷ l) = ltb b bins && within bins l

unfoldable pub all_within : ℕ → List Bins → Bool
all_within bins [] = true
all_within bins (o ∷ l) = within bins o && all_within bins l

unfoldable pub same_order : List ℕ → List ℕ → Bool
same_order [] [] = true
same_order [] (b ∷ m) = false
same_order (a ∷ l) [] = false
same_order (a ∷ l) (b ∷ m) = eqb a b && same_order l m

-- the walk's end is what the row says: an order, and it has the crossings; or nothing
unfoldable pub same_end : Row → End → Bool
same_end r (found l) =
    eqb r.number 0 && (same_order r.order l && eqb r.count (crossings (cost (map set_of r.outlets)) l))
same_end r nothing = eqb r.number 6 && (same_order r.order [] && eqb r.count 0)

unfoldable pub same_outcome : Row → Outcome → Bool
same_outcome r o = eqb r.cases o.cases && same_end r o.end

unfoldable pub answered : Row → Bool
answered r = all_within r.bins r.outlets && same_outcome r (searched (map set_of r.outlets) r.k)

unfoldable pub all_answered : List Row → Bool
all_answered [] = true
all_answered (r ∷ l) = answered r && all_answered l
