-- What a placement leaves unplaced: an outlet that it does not touch is unplaced with whoever it was unplaced with before.
use mathlib.Core.Bool.{Bool, true, false, not, ◌&&◌, ◌||◌, and-false}
use mathlib.Core.List.{List}
use mathlib.Core.Path.{◌≡◌, sym, ◌∙◌, ap, ap₂}
use Prim.Native.Nat.{ℕ, ◌+◌, ◌-◌, ◌*◌, ◌%◌, ◌^◌, ◌≤◌, ◌<◌}
use native.Mathlib.Omega.{arith}
use borrow.Author.Tests.{eq-eqb, eqb-false, ltb-true, not-true}
use lib.Bits.{bit_and, bit_or, and_le_l, or_lt}
use lib.Count.{count_trailing_zeros}
use lib.Dec.{ltb}
use lib.ListN.{get_or}
use lib.Pow.{pow-lt}
use Rattle.rules.specs.Crossing.{Relation}
use Rattle.rules.specs.Placement.{place}
use Rattle.rules.specs.Walk.{unplaced}
use Rattle.rules.proofs.Sums.{and_left, and_right}
use Rattle.laws.proofs.Terms.{Strict}
use Rattle.laws.proofs.Tests.{or_first, or_second, never_both, not_passed}
use Rattle.laws.proofs.Placing.{unplaced_if, unplaced_not, unplaced_back}
use Rattle.hoses.proofs.Bits.{shl_one, lowest_within, lowest_set}
use Rattle.tables.specs.Tables.{Passed}
use Rattle.placements.specs.Rows.{reads, Rows, Brings, SomeUnplaced, LeavesUnplaced}
use Rattle.placements.proofs.Masks.{has, has_or, has_one, has_without}
use Rattle.placements.proofs.Reading.{has_left}
use Rattle.placements.proofs.Closing.{new_left, new_right, closed}

-- what is not in x | y is in neither
outside : (x y v : ℕ) → has (bit_or x y) v ≡ false → (has x v ≡ false) × (has y v ≡ false)
outside x y v e =
    let none : (has x v || has y v) ≡ false = sym (has_or x y v) ∙ e in
    (not_passed _ (λ p. never_both (or_first (has x v) _ p) none), not_passed _ (λ p. never_both (or_second (has x v) _ p) none))

-- v is new on neither side
pub stays : (R : Relation) (a b : ℕ) → Strict R → (u v : ℕ) → unplaced R u v ≡ true → new_left R a b v ≡ false → new_right R a b v ≡ false
    → unplaced (place R a b) u v ≡ true
stays R a b strict u v free left right =
    unplaced_if (place R a b) u v
    (closed R a b strict u v ∙ ap₂ (λ (s t : Bool). s || (new_left R a b u && t)) (unplaced_not R u v free) right ∙ and-false (new_left R a b u))
    (closed R a b strict v u ∙ ap₂ (λ (s t : Bool). s || (t && new_right R a b u)) (unplaced_not R v u (unplaced_back R u v free)) left)

-- rows[2 * u] | rows[2 * u + 1] | (left | right) | 1 << u
abbrev pub touched_of : List ℕ → ℕ → ℕ → ℕ → ℕ
touched_of rows left right u =
    bit_or (bit_or (bit_or (get_or rows (2 * u) 0) (get_or rows (2 * u + 1) 0)) (bit_or left right)) ((1 * 2 ^ u) % 2 ^ 32)

-- mask & !that
abbrev pub left_of : ℕ → List ℕ → ℕ → ℕ → ℕ → ℕ
left_of mask rows left right u = bit_and mask ((2 ^ 32 - 1) - touched_of rows left right u)

-- where that is not nothing of outlets above the first, it has one that u is unplaced with and stays so
module _ (n mask : ℕ) (rows : List ℕ) (left right u : ℕ) (fits : mask < 2 ^ 32) (of : Passed mask n (λ v. ltb 0 v)) (few : n ≤ 32) (held : Rows rows) (below : u < n)
    (some : left_of mask rows left right u ≡ 0 → ⊥) where
  module _ (a b : ℕ) (brings : Brings rows a b left right) where
    abbrev set : ℕ
    set = left_of mask rows left right u

    abbrev v : ℕ
    v = count_trailing_zeros 32 set

    within : v < 32
    within = lowest_within 32 set (omega arith) (omega (arith, fits, and_le_l mask ((2 ^ 32 - 1) - touched_of rows left right u)))

    one : (1 * 2 ^ u) % 2 ^ 32 ≡ 2 ^ u
    one = shl_one 32 u (omega arith)

    touched_fits : touched_of rows left right u < 2 ^ 32
    touched_fits =
        let small : u < 32 = omega arith in
        or_lt 32 _ _ (or_lt 32 _ _ (or_lt 32 _ _ (held.fit (2 * u)) (held.fit (2 * u + 1))) (or_lt 32 left right brings.left_fits brings.right_fits))
        (rw one (pow-lt small))

    there : (has mask v && not (has (touched_of rows left right u) v)) ≡ true
    there =
        sym (has_without 32 mask (touched_of rows left right u) v fits touched_fits)
        ∙ eq-eqb _ 1 (lowest_set 32 set within)

    some_left : SomeUnplaced n (place (reads rows) a b)
    unfolding reads
    some_left =
        let masked : (ltb v n && ltb 0 v) ≡ true = sym (of v) ∙ and_left (has mask v) _ there in
        let other = outside _ _ v (not-true (has (touched_of rows left right u) v) (and_right (has mask v) _ there)) in
        let rest = outside _ _ v other.0 in
        let placed = outside _ _ v rest.0 in
        let new = outside left right v rest.1 in
        record {
          u = u;
          v = v;
          pair =
              record {
                x_below = below;
                y_below = ltb-true v n (and_left (ltb v n) _ masked);
                apart = λ e. eqb-false v u (sym (has_one u v) ∙ ap (λ (m : ℕ). has m v) (sym one) ∙ other.1) (sym e);
                free =
                    stays (reads rows) a b held.strict u v (unplaced_if (reads rows) u v placed.0 (sym (has_left rows held u v) ∙ placed.1))
                    (sym (brings.lefts v) ∙ new.0)
                    (sym (brings.rights v) ∙ new.1);
              };
        }

  pub leaves_here : LeavesUnplaced n rows left right true
  leaves_here = record { leaves = λ e a b brings. some_left a b brings }
