-- The order made from left to right, over a set of bits of those that stand: who is free to stand next, and what is still to be made.
use mathlib.Core.Bool.{Bool, true, false, not, ◌&&◌, ◌||◌, and_comm, and-false}
use mathlib.Core.List.{List, [], ◌∷◌, ◌++◌, append_assoc, append-nil}
use mathlib.Core.Path.{◌≡◌, refl, sym, ◌∙◌, ap, ap₂, subst⁻¹, fun_ext}
use Prim.Native.Nat.{ℕ, suc, ◌+◌, ◌-◌, ◌*◌, ◌/◌, ◌^◌, ◌≤◌, ◌<◌}
use native.Mathlib.Omega.{arith}
use native.Mathlib.Numerals.{add-one}
use native.Mathlib.Nat.{lt_of_le_of_lt}
use native.Mathlib.Decide.{dec_lt}
use lib.Bits.{bit_and, bit_or, and_le_l}
use lib.Dec.{eqb}
use lib.ListN.{length, get_or, take, drop, set, take-append-drop}
use lib.Seq.{take-suc-set}
use borrow.Author.Tests.{not-true, eq-eqb, ne_eqb}
use Rattle.rules.specs.Crossing.{bit, times}
use Rattle.rules.specs.Sum.{every}
use Rattle.rules.specs.Walk.{next_to_stand, made_from, made}
use Rattle.rules.proofs.Sums.{and_right, least_is, least-none, every_at, every-all}
use Rattle.laws.proofs.Terms.{Strict}
use Rattle.laws.proofs.Lists.{times-append, times_here}
use Rattle.laws.proofs.Made.{made_order}
use Rattle.laws.proofs.Tests.{never_both, not_passed, not_so, and_both}
use Rattle.hoses.proofs.Bits.{bit-most, bit_tested}
use Rattle.placements.specs.Rows.{reads, Rows, Within}
use Rattle.placements.proofs.Masks.{has, has_or, has_one, has_without, has_none, has_nothing}
use Rattle.placements.proofs.Reading.{has_left}

-- u does not stand yet and has to stand left of o
abbrev waits : List ℕ → ℕ → ℕ → ℕ → Bool
waits rows standing o u = not (has standing u) && reads rows u o

-- o does not stand yet, and none that does not has to stand left of it
abbrev pub free : ℕ → List ℕ → ℕ → ℕ → Bool
free n rows standing o = not (has standing o) && every (λ u. not (waits rows standing o u)) n

module _ {n : ℕ} {rows : List ℕ} (given : (n ≤ 32) × Rows rows × Within n rows) {standing : ℕ} (fits : standing < 2 ^ 32) where
  -- rows[2 * o + 1] & !standing: those of o's left row that do not stand yet
  ahead : ℕ → ℕ
  ahead o = bit_and (get_or rows (2 * o + 1) 0) ((2 ^ 32 - 1) - standing)

  has_ahead : (o u : ℕ) → has (ahead o) u ≡ waits rows standing o u
  unfolding ahead
  has_ahead o u =
      has_without 32 (get_or rows (2 * o + 1) 0) standing u (given.1.fit (2 * o + 1)) fits
      ∙ and_comm (has (get_or rows (2 * o + 1) 0) u) (not (has standing u))
      ∙ ap (λ (t : Bool). not (has standing u) && t) (has_left rows given.1 o u)

  none_ahead : (o : ℕ) → ahead o ≡ 0 → every (λ u. not (waits rows standing o u)) n ≡ true
  none_ahead o e =
      every-all _ n
      (λ u h. not_so (waits rows standing o u) (sym (has_ahead o u) ∙ ap (λ (m : ℕ). has m u) e ∙ has_nothing u))

  some-ahead : (o : ℕ) → (ahead o ≡ 0 → ⊥) → every (λ u. not (waits rows standing o u)) n ≡ false
  unfolding ahead
  some-ahead o some =
      not_passed _
      (λ e.
      some
      (has_none 32 (ahead o) (lt_of_le_of_lt (and_le_l (get_or rows (2 * o + 1) 0) ((2 ^ 32 - 1) - standing)) (given.1.fit (2 * o + 1)))
      (λ u h.
      not_passed (has (ahead o) u)
      (λ t.
      let w : waits rows standing o u ≡ true = sym (has_ahead o u) ∙ t in
      let below : u < n = given.2.first u o (and_right (not (has standing u)) (reads rows u o) w) in
      never_both w (not-true (waits rows standing o u) (every_at (λ z. not (waits rows standing o z)) n e u below))))))

  -- o is free exactly if its bit is not set and none is ahead of it
  pub is_free : (o : ℕ) → bit_and (standing / 2 ^ o) 1 ≡ 0 → bit_and (get_or rows (2 * o + 1) 0) ((2 ^ 32 - 1) - standing) ≡ 0
      → free n rows standing o ≡ true
  unfolding ahead
  is_free o unset none =
      and_both (not (has standing o)) _ (not_so (has standing o) (ne_eqb (bit standing o) 1 (λ e. omega (arith, bit_tested standing o))))
      (none_ahead o none)

  pub stands_already : (o : ℕ) → (bit_and (standing / 2 ^ o) 1 ≡ 0 → ⊥) → free n rows standing o ≡ false
  stands_already o set =
      let passes : has standing o ≡ true = eq-eqb (bit standing o) 1 (omega (arith, bit_tested standing o, bit-most standing o)) in
      ap (λ (t : Bool). not t && every (λ u. not (waits rows standing o u)) n) passes

  pub has_to_wait : (o : ℕ) → (bit_and (get_or rows (2 * o + 1) 0) ((2 ^ 32 - 1) - standing) ≡ 0 → ⊥) → free n rows standing o ≡ false
  unfolding ahead
  has_to_wait o some =
      ap (λ (t : Bool). not (has standing o) && t) (some-ahead o some) ∙ and-false (not (has standing o))

  -- so the first free one is the next
  pub next_here : (o : ℕ) → o < n → free n rows standing o ≡ true → ((i : ℕ) → i < o → free n rows standing i ≡ false)
      → o ≡ next_to_stand n (reads rows) (has standing)
  unfolding next_to_stand
  next_here o h here before = sym (least_is (free n rows standing) n o h here before)

  pub next-none : ((i : ℕ) → i < n → free n rows standing i ≡ false) → n ≡ next_to_stand n (reads rows) (has standing)
  unfolding next_to_stand
  next-none before = sym (least-none (free n rows standing) n before)

-- ---- the order in the making

-- those that stand once o stands too
one_more : (t b : Bool) → elim t [ true ↦ true | false ↦ b ] ≡ (b || t)
one_more true true = refl
one_more true false = refl
one_more false true = refl
one_more false false = refl

joined : (standing o u : ℕ) → elim (eqb u o) [ true ↦ true | false ↦ has standing u ] ≡ has (bit_or standing (2 ^ o)) u
joined standing o u =
    one_more (eqb u o) (has standing u) ∙ sym (has_or standing (2 ^ o) u ∙ ap (λ (t : Bool). has standing u || t) (has_one o u))

module _ (n : ℕ) (rows : List ℕ) where
  -- who stands next
  abbrev pub following : ℕ → ℕ
  following standing = next_to_stand n (reads rows) (has standing)

  -- what i outlets in is still to be made
  abbrev to_come : ℕ → ℕ → List ℕ
  to_come i standing = made_from (n - i) n (reads rows) (has standing)

  -- the front of a room, and then what is still to be made, are the order
  abbrev pub Making : ℕ → List ℕ → ℕ → Type 0
  Making i room standing = made n (reads rows) ≡ take i room ++ to_come i standing

  pub made_begin : (room : List ℕ) → Making 0 room 0
  unfolding made
  made_begin room =
      let count : n ≡ n - 0 = omega arith in
      ap (made_from n n (reads rows)) (fun_ext (λ u. sym (has_nothing u)))
      ∙ ap (λ (m : ℕ). made_from m n (reads rows) (has 0)) count

  module _ (i standing : ℕ) (some : i < n) where
    -- the next one stands, and then those after it
    joins : ℕ
    joins = bit_or standing (2 ^ following standing)

    to_come_step : to_come i standing ≡ following standing ∷ to_come (i + 1) joins
    unfolding made_from joins
    to_come_step =
        let count : n - i ≡ suc (n - (i + 1)) = omega arith in
        ap (λ (m : ℕ). made_from m n (reads rows) (has standing)) count
        ∙ ap (λ (s : ℕ → Bool). following standing ∷ made_from (n - (i + 1)) n (reads rows) s) (fun_ext (joined standing (following standing)))

    module _ (room : List ℕ) (making : Making i room standing) where
      step : made n (reads rows) ≡ take i room ++ (following standing ∷ to_come (i + 1) joins)
      step = making ∙ ap (λ (l : List ℕ). take i room ++ l) to_come_step

      -- It is one of the n outlets, since the order has no other number;
      pub following_below : Strict (reads rows) → following standing < n
      following_below strict = go (dec_lt (following standing) n)
        where
          go : Dec (following standing < n) → following standing < n
          go (yes l) = l
          go (no l) =
              absurd
              (omega (
                arith,
                (made_order n (reads rows) strict).nothing_else (following standing) (omega arith),
                ap (times (following standing)) step,
                times-append (following standing) (take i room) (following standing ∷ to_come (i + 1) joins),
                times_here (following standing) (following standing) (to_come (i + 1) joins) refl,
              ))

      -- and it goes into the room.
      stored : i < length room → Making (i + 1) (set room i (following standing)) joins
      stored l =
          let o : ℕ = following standing in
          let front : take (i + 1) (set room i o) ≡ take i room ++ (o ∷ []) = rw (add-one, take-suc-set room i o) in
          step ∙ sym (append_assoc (take i room) (o ∷ []) (to_come (i + 1) joins))
          ∙ ap (λ (f : List ℕ). f ++ to_come (i + 1) joins) (sym front)

      pub made_more : (o mask : ℕ) → o ≡ following standing → mask ≡ 2 ^ o → i < length room → Making (i + 1) (set room i o) (bit_or standing mask)
      unfolding joins
      made_more o mask e f l =
          subst⁻¹ (λ (m : ℕ). Making (i + 1) (set room i o) (bit_or standing m)) f
          (subst⁻¹ (λ (u : ℕ). Making (i + 1) (set room i u) (bit_or standing (2 ^ u))) e (stored l))

  -- Once all stand, the front of the room is the order.
  pub made_whole : (i standing : ℕ) (room before : List ℕ) → i ≡ n → Making i room standing → drop n room ≡ drop n before
      → room ≡ made n (reads rows) ++ drop n before
  unfolding made_from
  made_whole i standing room before e making kept =
      let none : n - i ≡ 0 = omega arith in
      let whole : made n (reads rows) ≡ take i room = making ∙ ap (λ (m : ℕ). take i room ++ made_from m n (reads rows) (has standing)) none ∙ append-nil (take i room) in
      sym (take-append-drop n room) ∙ ap₂ ◌++◌ (sym (whole ∙ ap (λ (k : ℕ). take k room) e)) kept
