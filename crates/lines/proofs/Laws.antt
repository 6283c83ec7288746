-- What is put: a number as the library has it, an order's outlets, one part behind another, and the parts of a line.
use mathlib.Core.Path.{◌≡◌, refl, sym, ◌∙◌, ap}
use mathlib.Core.Bool.{false}
use mathlib.Core.List.{List, [], ◌∷◌, ◌++◌, map, append_assoc, append-nil}
use Prim.Native.Nat.{ℕ, zero, suc, ◌+◌, ◌-◌, ◌/◌, ◌%◌, ◌^◌, ◌≤◌, ◌<◌}
use native.Mathlib.Decide.{dec_lt}
use native.Mathlib.Omega.{arith}
use native.Mathlib.Numerals.{add-one}
use lib.ListN.{length, get_or, take, drop, length-append, take-append-drop}
use lib.Seq.{take-suc}
use borrow.Rule.Slice.PartMut.{put_mid}
use borrow.Author.Tests.{lt-ltb, eq-eqb, ne_eqb}
use Rattle.std.proofs.Common.{Err}
use Rattle.std.specs.Fmt as std
use Rattle.std.specs.Fmt.{digit_glyph, digits_onto}
use Rattle.rules.specs.Line.{Word, blank, digit, digits, decimal, behind, line_of, order_line, no_order_line, refused_line, answer_line}
use Rattle.rules.specs.Text.{text}
use Rattle.rules.proofs.Decimal.{decimal_one, decimal_more}
use Rattle.sheets.specs.Writing.{in_front}
use Rattle.sheets.proofs.WriteLaws.{put_behind}
use Rattle.refusals.specs.declared.Refusal.{Refusal}
use Rattle.refusals.specs.declared.Refusal.TheVariants.{NoOrder}
use Rattle.refusals.specs.Numbers.{number_of}
use Rattle.lines.specs.Parts.{pieces, outlet_piece, crossings_part, last_part}
use Rattle.lines.specs.Told.{line_told}

-- The library's decimal is the rules': its digits stand in front of what was given.
glyph : (d : ℕ) → d < 10 → digit_glyph false d ≡ digit d
glyph d h = rw (lt-ltb d 10 h)

onto_one : (most n : ℕ) (others : List ℕ) → n < 10 → digits_onto (suc most) 10 false n others ≡ digit n ∷ others
onto_one most n others h =
    let last : n % 10 ≡ n = omega arith in
    rw (eq-eqb (n / 10) 0 (omega arith), glyph (n % 10) (omega arith), last)

onto_more : (most n : ℕ) (others : List ℕ) → 10 ≤ n
    → digits_onto (suc most) 10 false n others ≡ digits_onto most 10 false (n / 10) (digit (n % 10) ∷ others)
onto_more most n others h = rw (ne_eqb (n / 10) 0 (λ z. omega arith), glyph (n % 10) (omega arith))

onto : (most n : ℕ) (others : List ℕ) → n < 10 ^ suc most → digits_onto (suc most) 10 false n others ≡ decimal n ++ others
onto zero n others h = onto_one zero n others (omega arith) ∙ rw (decimal_one n (omega arith))
onto (suc most) n others h =
    elim (dec_lt n 10) [
      | yes one ↦ onto_one (suc most) n others one ∙ rw (decimal_one n one)
      | no more ↦
          onto_more (suc most) n others (omega arith)
          ∙ onto most (n / 10) (digit (n % 10) ∷ others) (omega arith)
          ∙ rw (decimal_more n (omega arith)) (sym (append_assoc (decimal (n / 10)) (digit (n % 10) ∷ []) others))
    ]

pub same_decimal : (n : ℕ) → n < 2 ^ 64 → std.decimal n ≡ decimal n
unfolding std.digits
same_decimal n h = onto 63 n [] (omega arith) ∙ append-nil (decimal n)

-- a row of pieces, and one more
pieces_append : (piece : ℕ → List ℕ) (xs ys : List ℕ) → pieces piece (xs ++ ys) ≡ pieces piece xs ++ pieces piece ys
unfolding pieces
pieces_append piece [] ys = refl
pieces_append piece (x ∷ xs) ys =
    ap (λ l. piece x ++ l) (pieces_append piece xs ys) ∙ sym (append_assoc (piece x) (pieces piece xs) (pieces piece ys))

module _ (piece : ℕ → List ℕ) (row : List ℕ) (i : ℕ) (h : i < length row) where
  pub pieces_more : pieces piece (take (i + 1) row) ≡ pieces piece (take i row) ++ piece (get_or row i 0)
  unfolding pieces
  pieces_more =
      ap (pieces piece) (rw (add-one i) (take-suc row i 0 h)) ∙ pieces_append piece (take i row) (get_or row i 0 ∷ [])
      ∙ ap (λ l. pieces piece (take i row) ++ l) (append-nil (piece (get_or row i 0)))

  -- it fits where all of them fit
  pub piece_fits : length (pieces piece (take i row)) + length (piece (get_or row i 0)) ≤ length (pieces piece row)
  piece_fits =
      let first : List ℕ = take (i + 1) row in
      let rest : List ℕ = drop (i + 1) row in
      let whole = ap (pieces piece) (take-append-drop (i + 1) row) in
      let all : pieces piece first ++ pieces piece rest ≡ pieces piece row = sym (pieces_append piece first rest) ∙ whole in
      omega (arith, simp length-append at (ap length pieces_more), simp length-append at (ap length all))

-- What is put in front of the room that a part left stands behind that part.
pub then_put : (front part room now written : List ℕ) (at k : ℕ) → now ≡ in_front front room → at ≡ length front → k ≡ length now - at
    → length (front ++ part) ≤ length room
    → written ≡ in_front part (take k (drop at now)) → put_mid at k now written ≡ in_front (front ++ part) room
then_put front part room now written at k e a left fits w =
    put_behind front part room now written at k e a left (omega (arith, length-append front part)) w

-- The lines as the parts that are put.
pub refused_parts : (number : ℕ) → refused_line number ≡ last_part (text "refused ") number
unfolding refused_line line_of behind text
refused_parts number = refl

pub no_order_parts : (cases : ℕ) → no_order_line cases ≡ last_part (text "refused 6 cases ") cases
unfolding no_order_line line_of behind text digits decimal
no_order_parts cases = refl

outlets_parts : (order : List ℕ) (words : List Word) → behind (map decimal order ++ words) ≡ pieces outlet_piece order ++ behind words
unfolding behind pieces
outlets_parts [] words = refl
outlets_parts (o ∷ order) words = ap (λ (l : List ℕ). blank ∷ (decimal o ++ l)) (outlets_parts order words) ∙ simp append_assoc

regroup : (a b c d e : List ℕ) → a ++ (b ++ (c ++ (d ++ e))) ≡ ((a ++ b) ++ (c ++ d)) ++ e
regroup a b c d e = simp append_assoc

pub order_parts : (order : List ℕ) (count cases : ℕ) → order_line order count cases ≡ crossings_part order count ++ last_part (text " cases ") cases
unfolding order_line line_of behind text
order_parts order count cases =
    ap (λ (l : List ℕ). text "order" ++ l) (outlets_parts order (text "crossings" ∷ decimal count ∷ text "cases" ∷ decimal cases ∷ []))
    ∙ regroup (text "order") (pieces outlet_piece order) (text " crossings ") (decimal count) (last_part (text " cases ") cases)

pub order_long : (order : List ℕ) (count cases : ℕ)
    → length (order_line order count cases) ≡ length (crossings_part order count) + length (last_part (text " cases ") cases)
order_long order count cases =
    ap length (order_parts order count cases) ∙ length-append (crossings_part order count) (last_part (text " cases ") cases)

pub ruleset order_put = (then_put, order_parts, order_long)

-- A refusal that tells no cases tells its number alone.
pub told_refused : (refusal : Refusal) (order : List ℕ) → ((cases : ℕ) → refusal ≡ NoOrder cases → ⊥)
    → line_told (Err refusal) order ≡ refused_line (number_of refusal)
unfolding answer_line
told_refused (NoOrder cases) order other = absurd (other cases refl)
told_refused _ order other = refl
