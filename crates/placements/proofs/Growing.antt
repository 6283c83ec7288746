-- Rows that grow: one outlet after the other, what their bits then are, and that rows grown by the new ones on both sides hold the placement.
use mathlib.Core.Bool.{Bool, ◌&&◌, ◌||◌}
use mathlib.Core.List.{List}
use mathlib.Core.Path.{◌≡◌, refl, sym, ◌∙◌, ap, ap₂, subst⁻¹, fun_ext}
use Prim.Native.Nat.{ℕ, ◌+◌, ◌-◌, ◌*◌, ◌/◌, ◌%◌, ◌^◌, ◌≤◌, ◌<◌, min, max}
use native.Mathlib.Omega.{arith}
use native.Mathlib.Decide.{ℕ_discrete, dec_lt}
use lib.Bits.{bit_or, or_lt}
use lib.Dec.{eqb}
use lib.ListN.{length, get_or, set, length-set, get_or-eq_default}
use lib.Seq.{get_or-set_same, get_or-set_other}
use Rattle.rules.specs.Crossing.{Relation, bit}
use Rattle.rules.specs.Placement.{place}
use Rattle.laws.proofs.Terms.{Strict}
use Rattle.laws.proofs.Placing.{strict}
use Rattle.hoses.proofs.Bits.{bit-most, bit-none, bit-beyond, bit-or}
use Rattle.placements.specs.Rows.{reads, Rows, Grown, Brings, PlacedIn}
use Rattle.placements.specs.declared.closure.Side.{Side}
use Rattle.placements.specs.declared.closure.Side.TheVariants.{Right, Left}
use Rattle.placements.specs.Sides.{side_number}
use Rattle.placements.proofs.Masks.{Taken, has, either_bit, both_bits}
use Rattle.placements.proofs.Closing.{closed}

-- ---- one outlet after the other

pub two_sides : (side : Side) → side_number side < 2
two_sides Right = omega arith
two_sides Left = omega arith

pub grown_none : (rows : List ℕ) (more side : ℕ) → Grown rows 0 more side rows
grown_none rows more side =
    record {
      size = refl;
      grew = λ u h e. absurd (omega (arith, bit-none u));
      kept = λ u h e. refl;
      other = λ u h. refl;
    }

-- what is left to grow then was left before
pub grown_step : (rows : List ℕ) {which low later : ℕ} (more side : ℕ) (final : List ℕ) → Taken which low later → side < 2 → length rows ≡ 64
    → Grown (set rows (2 * low + side) (bit_or (get_or rows (2 * low + side) 0) more)) later more side final → Grown rows which more side final
grown_step rows {which} {low} {later} more side final t sides size rest =
    record {
      size = rest.size ∙ length-set rows (2 * low + side) _;
      grew = λ u h e.
          elim (ℕ_discrete u low) [
            | yes s ↦ here u s
            | no d ↦ rest.grew u h (t.apart u d ∙ e) ∙ ap (λ (n : ℕ). bit_or n more) (apart u d)
          ];
      kept = λ u h e. let d : u ≡ low → ⊥ = unset u e in rest.kept u h (t.apart u d ∙ e) ∙ apart u d;
      other = λ u h. rest.other u h ∙ elsewhere (2 * u + (1 - side)) (λ e. omega arith);
    }
  where
    elsewhere : (i : ℕ) → (i ≡ 2 * low + side → ⊥) → get_or (set rows (2 * low + side) (bit_or (get_or rows (2 * low + side) 0) more)) i 0 ≡ get_or rows i 0
    elsewhere i d = get_or-set_other rows (2 * low + side) i _ 0 d

    apart : (u : ℕ) → (u ≡ low → ⊥) → get_or (set rows (2 * low + side) (bit_or (get_or rows (2 * low + side) 0) more)) (2 * u + side) 0 ≡ get_or rows (2 * u + side) 0
    apart u d = elsewhere (2 * u + side) (λ e. d (omega arith))

    unset : (u : ℕ) → bit which u ≡ 0 → u ≡ low → ⊥
    unset u e s = omega (arith, ap (bit which) s, t.set)

    here : (u : ℕ) → u ≡ low → get_or final (2 * u + side) 0 ≡ bit_or (get_or rows (2 * u + side) 0) more
    here u s =
        subst⁻¹ (λ (w : ℕ). get_or final (2 * w + side) 0 ≡ bit_or (get_or rows (2 * w + side) 0) more) s
        (rest.kept low t.outlet t.unset ∙ get_or-set_same rows (2 * low + side) _ 0 (omega (arith, t.outlet)))

-- ---- what grown rows hold

-- there is no row beyond the 64
beyond : (rows : List ℕ) (i : ℕ) → length rows ≡ 64 → 64 ≤ i → get_or rows i 0 ≡ 0
beyond rows i size h = get_or-eq_default rows 0 (let l : length rows ≤ i = omega arith in l)

module _ {rows : List ℕ} {which more side : ℕ} {rows' : List ℕ} (g : Grown rows which more side rows') (size : length rows ≡ 64) where
  grown_size : length rows' ≡ 64
  grown_size = g.size ∙ size

  -- the bits of the rows that grew, also beyond the 32 outlets, where there are none
  pub grown_bit : which < 2 ^ 32 → (u v : ℕ)
      → bit (get_or rows' (2 * u + side) 0) v ≡ max (bit (get_or rows (2 * u + side) 0) v) (min (bit which u) (bit more v))
  grown_bit within u v = elim (dec_lt u 32) [ yes l ↦ inside l (ℕ_discrete (bit which u) 0) | no l ↦ outside (omega arith) ]
    where
      inside : u < 32 → Dec (bit which u ≡ 0)
          → bit (get_or rows' (2 * u + side) 0) v ≡ max (bit (get_or rows (2 * u + side) 0) v) (min (bit which u) (bit more v))
      inside l (yes e) = omega (arith, ap (λ (m : ℕ). bit m v) (g.kept u l e))
      inside l (no d) =
          let set : bit which u ≡ 1 = omega (arith, bit-most which u) in
          omega (arith, ap (λ (m : ℕ). bit m v) (g.grew u l set), bit-or (get_or rows (2 * u + side) 0) more v, bit-most more v)

      outside : 32 ≤ u → bit (get_or rows' (2 * u + side) 0) v ≡ max (bit (get_or rows (2 * u + side) 0) v) (min (bit which u) (bit more v))
      outside l =
          omega (
            arith,
            ap (λ (m : ℕ). bit m v) (beyond rows' (2 * u + side) grown_size (omega arith)),
            ap (λ (m : ℕ). bit m v) (beyond rows (2 * u + side) size (omega arith)),
            bit-beyond which 32 u within l,
          )

  -- and those on the other side are as they were
  pub grown_other : (u : ℕ) → get_or rows' (2 * u + (1 - side)) 0 ≡ get_or rows (2 * u + (1 - side)) 0
  grown_other u =
      elim (dec_lt u 32) [
        | yes l ↦ g.other u l
        | no l ↦ beyond rows' (2 * u + (1 - side)) grown_size (omega arith) ∙ sym (beyond rows (2 * u + (1 - side)) size (omega arith))
      ]

  pub grown_fit : side < 2 → more < 2 ^ 32 → ((i : ℕ) → get_or rows i 0 < 2 ^ 32) → (i : ℕ) → get_or rows' i 0 < 2 ^ 32
  grown_fit sides within fit i = elim (dec_lt i 64) [ yes l ↦ inside l (ℕ_discrete (i % 2) side) | no l ↦ outside (omega arith) ]
    where
      outside : 64 ≤ i → get_or rows' i 0 < 2 ^ 32
      outside l = omega (arith, beyond rows' i grown_size l)

      own : i / 2 < 32 → Dec (bit which (i / 2) ≡ 0) → get_or rows' (2 * (i / 2) + side) 0 < 2 ^ 32
      own l (yes e) = omega (arith, g.kept (i / 2) l e, fit (2 * (i / 2) + side))
      own l (no d) =
          let set : bit which (i / 2) ≡ 1 = omega (arith, bit-most which (i / 2)) in
          omega (arith, g.grew (i / 2) l set, or_lt 32 (get_or rows (2 * (i / 2) + side) 0) more (fit (2 * (i / 2) + side)) within)

      inside : i < 64 → Dec (i % 2 ≡ side) → get_or rows' i 0 < 2 ^ 32
      inside l (yes e) =
          subst⁻¹ (λ (j : ℕ). get_or rows' j 0 < 2 ^ 32) (let s : i ≡ 2 * (i / 2) + side = omega arith in s)
          (own (omega arith) (ℕ_discrete (bit which (i / 2)) 0))
      inside l (no d) =
          subst⁻¹ (λ (j : ℕ). get_or rows' j 0 < 2 ^ 32) (let s : i ≡ 2 * (i / 2) + (1 - side) = omega arith in s)
          (omega (arith, g.other (i / 2) (omega arith), fit (2 * (i / 2) + (1 - side))))

-- ---- the placement

module _ {rows rows' rows'' : List ℕ} {a b left right : ℕ} (held : Rows rows) (brings : Brings rows a b left right)
    (on_right : Grown rows left right 0 rows') (on_left : Grown rows' right left 1 rows'') where
  -- both sides have grown by the pairs of a new one on the left and a new one on the right
  right_bit : (u v : ℕ) → bit (get_or rows'' (2 * u) 0) v ≡ max (bit (get_or rows (2 * u) 0) v) (min (bit left u) (bit right v))
  right_bit u v =
      let even : 2 * u ≡ 2 * u + 0 = omega arith in
      ap (λ (i : ℕ). bit (get_or rows'' i 0) v) even ∙ ap (λ (m : ℕ). bit m v) (grown_other on_left (grown_size on_right held.size) u)
      ∙ grown_bit on_right held.size brings.left_fits u v
      ∙ ap (λ (i : ℕ). max (bit (get_or rows i 0) v) (min (bit left u) (bit right v))) (sym even)

  left_bit : (u v : ℕ) → bit (get_or rows'' (2 * u + 1) 0) v ≡ max (bit (get_or rows (2 * u + 1) 0) v) (min (bit right u) (bit left v))
  left_bit u v =
      grown_bit on_left (grown_size on_right held.size) brings.right_fits u v
      ∙ ap (λ (m : ℕ). max (bit m v) (min (bit right u) (bit left v))) (grown_other on_right held.size u)

  relation : reads rows'' ≡ place (reads rows) a b
  unfolding reads
  relation =
      fun_ext (λ u. fun_ext (λ v.
      ap (λ (n : ℕ). eqb n 1) (right_bit u v)
      ∙ either_bit (bit (get_or rows (2 * u) 0) v) (min (bit left u) (bit right v)) (bit-most (get_or rows (2 * u) 0) v) (omega (arith, bit-most left u))
      ∙ ap (λ (t : Bool). has (get_or rows (2 * u) 0) v || t)
      (both_bits (bit left u) (bit right v) (bit-most left u) (bit-most right v) ∙ ap₂ ◌&&◌ (brings.lefts u) (brings.rights v))
      ∙ sym (closed (reads rows) a b held.strict u v)))

  pub placed_rows : PlacedIn rows a b rows''
  placed_rows =
      record {
        held = record {
          size = on_left.size ∙ grown_size on_right held.size;
          fit = grown_fit on_left (grown_size on_right held.size) (omega arith) brings.left_fits (grown_fit on_right held.size (omega arith) brings.right_fits held.fit);
          turned = λ u v. omega (arith, left_bit u v, right_bit v u, held.turned u v);
          strict = subst⁻¹ (λ (R : Relation). Strict R) relation (strict (reads rows) a b held.strict brings.pair.different brings.pair.behind);
        };
        relation = relation;
      }
