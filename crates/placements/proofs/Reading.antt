-- What rows of bits read, one row at a time: the outlets right of one, left of one, and unplaced with one; and what a placement reads among n outlets.
use mathlib.Core.Bool.{Bool, true, false, not, ◌&&◌, ◌||◌}
use mathlib.Core.List.{List}
use mathlib.Core.Logic.{◌⊎◌, inl, inr}
use mathlib.Core.Path.{◌≡◌, refl, sym, ◌∙◌, ap}
use Prim.Native.Nat.{ℕ, ◌+◌, ◌-◌, ◌*◌, ◌^◌, ◌<◌}
use native.Mathlib.Omega.{arith}
use lib.Bits.{bit_and, bit_or, or_lt}
use lib.Dec.{eqb}
use lib.ListN.{get_or}
use Rattle.rules.specs.Crossing.{Relation}
use Rattle.rules.specs.Placement.{place}
use Rattle.rules.specs.Walk.{unplaced}
use Rattle.rules.proofs.Sums.{and_left, and_right}
use Rattle.laws.proofs.Tests.{or_cases, eq_or_cases}
use Rattle.placements.specs.Rows.{reads, Rows, Within, PlacedIn}
use Rattle.placements.specs.declared.closure.Side.{Side}
use Rattle.placements.specs.declared.closure.Side.TheVariants.{Right, Left}
use Rattle.placements.specs.Sides.{side_number, stands_on}
use Rattle.placements.proofs.Masks.{has, has_and, has_or, has_not, has_without}

pub has_right : (rows : List ℕ) (u v : ℕ) → has (get_or rows (2 * u) 0) v ≡ reads rows u v
unfolding reads
has_right rows u v = refl

pub has_left : (rows : List ℕ) → Rows rows → (u v : ℕ) → has (get_or rows (2 * u + 1) 0) v ≡ reads rows v u
unfolding reads
has_left rows held u v = ap (λ (n : ℕ). eqb n 1) (held.turned u v)

-- on either side
pub has_beside : (rows : List ℕ) → Rows rows → (side : Side) → (u w : ℕ) → has (get_or rows (2 * u + side_number side) 0) w ≡ stands_on side rows w u
has_beside rows held Right u w = let even : 2 * u + 0 ≡ 2 * u = omega arith in rw even (has_right rows u w)
has_beside rows held Left u w = has_left rows held u w

-- mask & !(rows[2 * u] | rows[2 * u + 1])
abbrev pub open_of : ℕ → List ℕ → ℕ → ℕ
open_of mask rows u = bit_and mask ((2 ^ 32 - 1) - bit_or (get_or rows (2 * u) 0) (get_or rows (2 * u + 1) 0))

neither : (s t : Bool) → not (s || t) ≡ (not s && not t)
neither true t = refl
neither false t = refl

unplaced_with : (rows : List ℕ) (u v : ℕ) → Rows rows → not (has (bit_or (get_or rows (2 * u) 0) (get_or rows (2 * u + 1) 0)) v) ≡ unplaced (reads rows) u v
unfolding unplaced reads
unplaced_with rows u v held =
    ap not
    (has_or (get_or rows (2 * u) 0) (get_or rows (2 * u + 1) 0) v ∙ ap (λ (t : Bool). has (get_or rows (2 * u) 0) v || t) (has_left rows held u v))
    ∙ neither (reads rows u v) (reads rows v u)

pub has_open : (mask : ℕ) (rows : List ℕ) (u v : ℕ) → mask < 2 ^ 32 → Rows rows → has (open_of mask rows u) v ≡ (has mask v && unplaced (reads rows) u v)
has_open mask rows u v fits held =
    has_without 32 mask (bit_or (get_or rows (2 * u) 0) (get_or rows (2 * u + 1) 0)) v fits
    (or_lt 32 _ _ (held.fit (2 * u)) (held.fit (2 * u + 1)))
    ∙ ap (λ (t : Bool). has mask v && t) (unplaced_with rows u v held)

-- the same of the first 32 bits of any mask
pub has_open_below : (mask : ℕ) (rows : List ℕ) (u v : ℕ) → v < 32 → Rows rows → has (open_of mask rows u) v ≡ (has mask v && unplaced (reads rows) u v)
has_open_below mask rows u v h held =
    has_and mask ((2 ^ 32 - 1) - bit_or (get_or rows (2 * u) 0) (get_or rows (2 * u + 1) 0)) v
    ∙ ap (λ (t : Bool). has mask v && t)
    (has_not 32 _ v (or_lt 32 _ _ (held.fit (2 * u)) (held.fit (2 * u + 1))) h ∙ unplaced_with rows u v held)

-- whoever is a or stands left of it is among the n outlets, and so is whoever is b or stands right of it;
pub left_within : (n : ℕ) (rows : List ℕ) (a u : ℕ) → Within n rows → a < n → (eqb u a || reads rows u a) ≡ true → u < n
left_within n rows a u w h e = elim (eq_or_cases u a (reads rows u a) e) [ inl s ↦ omega arith | inr p ↦ w.first u a p ]

pub right_within : (n : ℕ) (rows : List ℕ) (b v : ℕ) → Within n rows → b < n → (eqb v b || reads rows b v) ≡ true → v < n
right_within n rows b v w h e = elim (eq_or_cases v b (reads rows b v) e) [ inl s ↦ omega arith | inr p ↦ w.second b v p ]

-- so a placement of two of them stays among them
pub within_placed : (n : ℕ) (rows : List ℕ) (a b : ℕ) (rows' : List ℕ) → Within n rows → a < n → b < n → PlacedIn rows a b rows' → Within n rows'
unfolding place
within_placed n rows a b rows' w ha hb placed =
    record {
      first = λ u v e.
          elim (cases u v e) [ inl p ↦ w.first u v p | inr q ↦ left_within n rows a u w ha (and_left (eqb u a || reads rows u a) _ q) ];
      second = λ u v e.
          elim (cases u v e) [ inl p ↦ w.second u v p | inr q ↦ right_within n rows b v w hb (and_right (eqb u a || reads rows u a) _ q) ];
    }
  where
    cases : (u v : ℕ) → reads rows' u v ≡ true → (reads rows u v ≡ true) ⊎ (((eqb u a || reads rows u a) && (eqb v b || reads rows b v)) ≡ true)
    cases u v e = or_cases (reads rows u v) _ (ap (λ (R : Relation). R u v) (sym placed.relation) ∙ e)
