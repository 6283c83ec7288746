-- What the writer's loops keep: bytes in front of a room, the bins of what is left of a set, the records of the outlets passed; and what writing answers.
use mathlib.Core.Path.{◌≡◌, refl, sym, ◌∙◌, ap}
use mathlib.Core.Bool.{Bool, true, false, not, ◌&&◌, false≢true}
use mathlib.Core.List.{List, [], ◌∷◌, ◌++◌, append_assoc, append-nil}
use Prim.Native.Nat.{ℕ, suc, ◌+◌, ◌-◌, ◌^◌, ◌≤◌, ◌<◌}
use native.Mathlib.Omega.{arith}
use native.Mathlib.Nat.{le_trans, zero-add}
use native.Mathlib.Numerals.{add-one}
use lib.Dec.{ltb, eqb}
use lib.ListN.{length, get_or, take, drop, set, length-append, length-drop, length-set, drop_of_length-le, take-append-drop}
use lib.Seq.{sets, sets-eq, length-sets, take-suc, take_at, drop_at, drop-cons, drop-drop}
use borrow.Rule.Slice.PartMut.{put_mid}
use Rattle.std.proofs.Common.{take_all}
use lib.Bits.{bit_and, and_le_l}
use lib.Count.{count_trailing_zeros}
use borrow.Author.Tests.{lt-ltb, le-ltb, ltb-false, eqb-true}
use Rattle.rules.specs.Crossing.{profile, hoses}
use Rattle.rules.specs.Numbers.{first_of, too_many_bins, too_many_outlets, bad_budget, stray_hoses, room_too_short, job_checks}
use Rattle.rules.specs.Sheet.{two, record_of, head_of, bins_of, outlet_records, sheet_of}
use Rattle.rules.specs.Write.{SheetWritten, write_checks}
use Rattle.rules.proofs.Sheet.{record_of-length, outlet_records≤, sheet_of-length}
use Rattle.refusals.specs.declared.Refusal.{Refusal}
use Rattle.refusals.specs.Numbers.{number_of}
use Rattle.refusals.proofs.Refuses.{positive}
use Rattle.rules.proofs.Checks.{first_more, first_rest}
use Rattle.sheets.specs.Writing.{in_front}
use Rattle.sheets.proofs.BinLaws.{lowest_first, no_bins, as_many_bins, at_most64}

-- one run of stores after another
pub sets_append : (l : List ℕ) (i : ℕ) (vs ws : List ℕ) → sets l i (vs ++ ws) ≡ sets (sets l i vs) (i + length vs) ws
sets_append l i [] ws = let same : i ≡ i + 0 = omega arith in ap (λ (k : ℕ). sets l k ws) same
sets_append l i (v ∷ vs) ws =
    let same : suc i + length vs ≡ i + suc (length vs) = omega arith in
    sets_append (set l i v) (suc i) vs ws ∙ ap (λ (k : ℕ). sets (sets (set l i v) (suc i) vs) k ws) same

pub sets_in_front : (bytes room : List ℕ) → length bytes ≤ length room → sets room 0 bytes ≡ in_front bytes room
sets_in_front bytes room fits = sets-eq bytes room 0 (omega arith) ∙ ap (λ (i : ℕ). bytes ++ drop i room) (zero-add (length bytes))

-- what is put in front of the room that bytes have left stands behind those
pub put_behind : (front bytes room now written : List ℕ) (a k : ℕ) → now ≡ in_front front room → a ≡ length front → k ≡ length now - a → length front + length bytes ≤ length room → written ≡ in_front bytes (take k (drop a now)) → put_mid a k now written ≡ in_front (front ++ bytes) room
put_behind front bytes room now written a k en ea ek fits ew =
    let rest : drop a now ≡ drop (length front) room = rw (en, ea) (drop_at front (drop (length front) room) (length front) refl) in
    let first : take a now ≡ front = rw (en, ea) (take_at front (drop (length front) room) (length front) refl) in
    let long : length now ≡ length room = omega (arith, simp (length-append, length-drop) at (ap length en)) in
    let left : length (drop (length front) room) ≤ k = simp length-drop (omega arith) in
    let all : take k (drop a now) ≡ drop (length front) room = rw rest (take_all k _ left) in
    let none : drop k (drop a now) ≡ [] = rw rest (drop_of_length-le _ left) in
    rw (first, none, ew, all, drop-drop (length bytes) (length front) room, append-nil, length-append front bytes) (sym (append_assoc front bytes _))

-- What holds where some bins of a set stand from `at` on, those of `left` are still to come, and the next goes to i.
pub record Bins (before : List ℕ) (at whole : ℕ) (room : List ℕ) (left i : ℕ) : Type 0 where
  pub long : length room ≡ length before
  pub within : left ≤ whole
  pub ends : i + length (bins_of left) ≡ at + length (bins_of whole)
  pub stored : sets room i (bins_of left) ≡ sets before at (bins_of whole)

pub none_stored : (before : List ℕ) (at whole : ℕ) → Bins before at whole before whole at
none_stored before at whole = record { long = refl; within = omega arith; ends = refl; stored = refl }

module _ (before : List ℕ) (at whole : ℕ) (room : List ℕ) (left i : ℕ) (B : Bins before at whole room left i) where
  pub bin_ahead : (left ≡ 0 → ⊥) → whole < 2 ^ 64 → i < at + length (bins_of whole)
  bin_ahead n h = omega (arith, ap length (lowest_first left (omega arith) (omega (arith, B.within))), B.ends)

  pub one_stored : (left ≡ 0 → ⊥) → whole < 2 ^ 64 → Bins before at whole (set room i (count_trailing_zeros 64 left)) (bit_and left (left - 1)) (i + 1)
  one_stored n h =
      let e : bins_of left ≡ count_trailing_zeros 64 left ∷ bins_of (bit_and left (left - 1)) = lowest_first left (omega arith) (omega (arith, B.within)) in
      record {
        long = length-set room i (count_trailing_zeros 64 left) ∙ B.long;
        within = le_trans (and_le_l left (left - 1)) B.within;
        ends = omega (arith, ap length e, B.ends);
        stored = rw (add-one i) (sym (ap (sets room i) e) ∙ B.stored);
      }

  pub all_stored : left ≡ 0 → (i ≡ at + length (bins_of whole)) × (room ≡ sets before at (bins_of whole))
  all_stored z =
      let e : bins_of left ≡ [] = ap bins_of z ∙ no_bins in
      (omega (arith, ap length e, B.ends), sym (ap (sets room i) e) ∙ B.stored)

-- an outlet's record: its length, its kind, its bins
pub record_stored : (room one other last : List ℕ) (at set n : ℕ) → n ≡ hoses (profile set) → one ≡ sets room at (two n) → other ≡ sets one (at + 2) (two 2) → last ≡ sets other (at + 4) (bins_of set) → last ≡ sets room at (record_of 2 (bins_of set))
unfolding record_of two
record_stored room one other last at set n e a b c =
    let same : n ≡ length (bins_of set) = e ∙ sym (as_many_bins set) in
    let four : at + 2 + 2 ≡ at + 4 = omega arith in
    c
    ∙ ap (λ (l : List ℕ). sets l (at + 4) (bins_of set)) (b ∙ ap (λ (l : List ℕ). sets l (at + 2) (two 2)) (a ∙ ap (λ (k : ℕ). sets room at (two k)) same))
    ∙ sym (sets_append room at (two (length (bins_of set))) (two 2 ++ bins_of set) ∙ sets_append (sets room at (two (length (bins_of set)))) (at + 2) (two 2) (bins_of set) ∙ ap (λ (k : ℕ). sets (sets (sets room at (two (length (bins_of set)))) (at + 2) (two 2)) k (bins_of set)) four)

-- What holds where i of the outlets' records stand from `from` on, and the next goes to `at`.
pub record Stored (before : List ℕ) (from : ℕ) (outlets room : List ℕ) (at i : ℕ) : Type 0 where
  pub long : length room ≡ length before
  pub up_to : i ≤ length outlets
  pub ends : at + length (outlet_records (drop i outlets)) ≡ from + length (outlet_records outlets)
  pub stored : sets room at (outlet_records (drop i outlets)) ≡ sets before from (outlet_records outlets)

pub no_record_left : (before : List ℕ) (from : ℕ) (outlets : List ℕ) → Stored before from outlets before from 0
no_record_left before from outlets = record { long = refl; up_to = omega arith; ends = refl; stored = refl }

-- the records that are left begin with the next outlet's
pub ahead : (outlets : List ℕ) (i : ℕ) → i < length outlets → outlet_records (drop i outlets) ≡ record_of 2 (bins_of (get_or outlets i 0)) ++ outlet_records (drop (i + 1) outlets)
unfolding outlet_records
ahead outlets i h = ap outlet_records (drop-cons outlets i 0 h) ∙ sym (rw (add-one i) refl)

-- its length, and what is left after it
pub ahead_length : (outlets : List ℕ) (i : ℕ) → i < length outlets → length (outlet_records (drop i outlets)) ≡ 4 + hoses (profile (get_or outlets i 0)) + length (outlet_records (drop (i + 1) outlets))
ahead_length outlets i h =
    omega (arith, simp length-append at (ap length (ahead outlets i h)), record_of-length 2 (bins_of (get_or outlets i 0)), as_many_bins (get_or outlets i 0))

pub no_outlet_ahead : (outlets : List ℕ) (i : ℕ) → length outlets ≤ i → outlet_records (drop i outlets) ≡ []
unfolding outlet_records
no_outlet_ahead outlets i h = ap outlet_records (drop_of_length-le outlets h)

module _ (before : List ℕ) (from : ℕ) (outlets room : List ℕ) (at i : ℕ) (S : Stored before from outlets room at i) where
  pub record_ahead : i < length outlets → at + length (record_of 2 (bins_of (get_or outlets i 0))) ≤ from + length (outlet_records outlets)
  record_ahead h = omega (arith, simp length-append at (ap length (ahead outlets i h)), S.ends)

  pub one_record : i < length outlets → (last : List ℕ) (next : ℕ) → last ≡ sets room at (record_of 2 (bins_of (get_or outlets i 0))) → next ≡ at + length (record_of 2 (bins_of (get_or outlets i 0))) → Stored before from outlets last next (i + 1)
  one_record h last next e n =
      let here : List ℕ = record_of 2 (bins_of (get_or outlets i 0)) in
      let rest : List ℕ = outlet_records (drop (i + 1) outlets) in
      record {
        long = ap length e ∙ length-sets room at here ∙ S.long;
        up_to = omega arith;
        ends = omega (arith, simp length-append at (ap length (ahead outlets i h)), S.ends);
        stored = rw (e, n) (sym (ap (sets room at) (ahead outlets i h) ∙ sets_append room at here rest) ∙ S.stored);
      }

  pub all_records : length outlets ≤ i → room ≡ sets before from (outlet_records outlets)
  all_records h = sym (ap (sets room at) (no_outlet_ahead outlets i h)) ∙ S.stored

-- the records of some outlets and of those after them
records_append : (xs ys : List ℕ) → outlet_records (xs ++ ys) ≡ outlet_records xs ++ outlet_records ys
unfolding outlet_records
records_append [] ys = refl
records_append (x ∷ xs) ys = ap (λ (l : List ℕ). record_of 2 (bins_of x) ++ l) (records_append xs ys) ∙ sym (append_assoc (record_of 2 (bins_of x)) (outlet_records xs) (outlet_records ys))

-- one record more
pub records_more : (outlets : List ℕ) (i : ℕ) → i < length outlets → outlet_records (take (i + 1) outlets) ≡ outlet_records (take i outlets) ++ record_of 2 (bins_of (get_or outlets i 0))
unfolding outlet_records
records_more outlets i h = ap outlet_records (rw (add-one i) (take-suc outlets i 0 h)) ∙ records_append (take i outlets) (get_or outlets i 0 ∷ []) ∙ ap (λ (l : List ℕ). outlet_records (take i outlets) ++ l) (append-nil (record_of 2 (bins_of (get_or outlets i 0))))

pub length_more : (outlets : List ℕ) (i : ℕ) → i < length outlets → length (outlet_records (take (i + 1) outlets)) ≡ length (outlet_records (take i outlets)) + (4 + hoses (profile (get_or outlets i 0)))
length_more outlets i h = omega (arith, simp length-append at (ap length (records_more outlets i h)), record_of-length 2 (bins_of (get_or outlets i 0)), as_many_bins (get_or outlets i 0))

-- it fits in front of the room that all records fit in
pub more_within : (outlets : List ℕ) (i : ℕ) → i < length outlets → length (outlet_records (take i outlets)) + (4 + hoses (profile (get_or outlets i 0))) ≤ length (outlet_records outlets)
more_within outlets i h = omega (arith, length_more outlets i h, simp length-append at (ap length (sym (records_append (take (i + 1) outlets) (drop (i + 1) outlets)) ∙ ap outlet_records (take-append-drop (i + 1) outlets))))

pub longest : (outlets : List ℕ) → length outlets ≤ 32 → length (outlet_records outlets) ≤ 2176
longest outlets h = omega (arith, outlet_records≤ outlets)

-- a record's length
pub record_long : (set : ℕ) → length (record_of 2 (bins_of set)) ≡ 4 + hoses (profile set)
record_long set = omega (arith, record_of-length 2 (bins_of set), as_many_bins set)

-- for the writer's functions: how long it all is
pub ruleset lengths = (record_long, as_many_bins, at_most64, length_more, more_within, longest)

-- a budget that passes its check is one byte
pub budget_fits : (k : ℕ) → bad_budget k ≡ false → k < 256
unfolding bad_budget
budget_fits k e = by (ltb 30 k) (eqb k 255) refl refl e
  where
    by : (above other : Bool) → ltb 30 k ≡ above → eqb k 255 ≡ other → (above && not other) ≡ false → k < 256
    by false other a o g = omega (arith, ltb-false 30 k a)
    by true true a o g = omega (arith, eqb-true k 255 o)
    by true false a o g = absurd (false≢true (sym g))

head_long : (bins outlets k : ℕ) → 7 ≡ length (head_of bins outlets k)
unfolding head_of
head_long bins outlets k = sym (record_of-length 1 (bins ∷ outlets ∷ k ∷ []))

-- What writing answers: refused by the job's own checks, or by its room, or done.
module _ (bins : ℕ) (outlets : List ℕ) (k : ℕ) (before : List ℕ) where
  pub refused_by_job : (job_checks bins outlets k ≡ 0 → ⊥) → write_checks bins outlets k before ≡ job_checks bins outlets k
  unfolding job_checks write_checks
  refused_by_job n = first_more ((too_many_bins bins, 1) ∷ (too_many_outlets outlets, 2) ∷ (bad_budget k, 3) ∷ (stray_hoses bins outlets, 4) ∷ []) ((room_too_short (length (sheet_of bins outlets k)) (length before), 5) ∷ []) n

  pub job_refused : (refusal : Refusal) → number_of refusal ≡ job_checks bins outlets k → number_of refusal ≡ write_checks bins outlets k before
  job_refused refusal e = e ∙ sym (refused_by_job (λ z. omega (arith, positive refusal)))

  by_room : job_checks bins outlets k ≡ 0 → write_checks bins outlets k before ≡ first_of ((room_too_short (length (sheet_of bins outlets k)) (length before), 5) ∷ [])
  unfolding job_checks write_checks
  by_room e = first_rest ((too_many_bins bins, 1) ∷ (too_many_outlets outlets, 2) ∷ (bad_budget k, 3) ∷ (stray_hoses bins outlets, 4) ∷ []) ((room_too_short (length (sheet_of bins outlets k)) (length before), 5) ∷ []) (omega arith) e

  pub refused_by_room : job_checks bins outlets k ≡ 0 → length before < length (sheet_of bins outlets k) → write_checks bins outlets k before ≡ 5
  unfolding first_of room_too_short
  refused_by_room e h = by_room e ∙ rw (lt-ltb (length before) (length (sheet_of bins outlets k)) h)

  pub passes_to_write : job_checks bins outlets k ≡ 0 → length (sheet_of bins outlets k) ≤ length before → write_checks bins outlets k before ≡ 0
  unfolding first_of room_too_short
  passes_to_write e h = by_room e ∙ rw (le-ltb (length before) (length (sheet_of bins outlets k)) h)

  pub write_refused : (refusal : Refusal) → number_of refusal ≡ write_checks bins outlets k before → SheetWritten bins outlets k before (record { number = number_of refusal; length = 0; room = before })
  write_refused refusal e =
      let no : (write_checks bins outlets k before ≡ 0 → ⊥) = λ z. omega (arith, positive refusal) in
      record { refused = λ _. rw e; done = λ z. absurd (no z); long = λ z. absurd (no z); filled = λ z. absurd (no z) }

  pub write_done : job_checks bins outlets k ≡ 0 → length (sheet_of bins outlets k) ≤ length before → (n : ℕ) → n ≡ 7 + length (outlet_records outlets) → (head last : List ℕ) → head ≡ sets before 0 (head_of bins (length outlets) k) → last ≡ sets head 7 (outlet_records outlets) → SheetWritten bins outlets k before (record { number = 0; length = n; room = last })
  unfolding sheet_of
  write_done e h n en head last eh el =
      let front : List ℕ = head_of bins (length outlets) k in
      let sheet : List ℕ = sheet_of bins outlets k in
      let seven : 0 + length front ≡ 7 = omega (arith, head_long bins (length outlets) k) in
      let stored : last ≡ sets before 0 sheet = el ∙ ap (λ (l : List ℕ). sets l 7 (outlet_records outlets)) eh ∙ sym (sets_append before 0 front (outlet_records outlets) ∙ ap (λ (i : ℕ). sets (sets before 0 front) i (outlet_records outlets)) seven) in
      record {
        refused = λ no. absurd (no (passes_to_write e h));
        done = λ _. refl;
        long = λ _. en ∙ sym (sheet_of-length bins outlets k);
        filled = λ _. stored ∙ sets_in_front sheet before h;
      }
