-- What the reader's steps and loops come to, and what reading answers.
use mathlib.Core.Path.{◌≡◌, refl, sym, ◌∙◌, ap}
use mathlib.Core.List.{List, ◌++◌, append-nil}
use Prim.Native.Nat.{ℕ, zero, suc, ◌+◌, ◌-◌, ◌<◌, ◌≤◌}
use native.Mathlib.Nat.{sub-zero}
use native.Mathlib.Numerals.{add-one}
use native.Mathlib.Omega.{arith}
use borrow.Author.Tests.{lt-ltb, le-ltb}
use lib.ListN.{length, take, drop, set, length-set}
use lib.Seq.{take-suc-set, append_snoc, length-take-le}
use Rattle.std.proofs.Common.{take_all}
use Rattle.refusals.specs.declared.Refusal.{Refusal}
use Rattle.refusals.proofs.Refuses.{positive}
use Rattle.refusals.specs.Numbers.{number_of}
use Rattle.rules.specs.Crossing.{set_of}
use Rattle.rules.specs.Numbers.{first_of}
use Rattle.rules.specs.Next.{body_at, after, record_checks}
use Rattle.rules.specs.Read.{then, head_bins, head_outlets, head_budget, head_numbers, head_checks, outlet_checks, outlets_checks, outlets_end, outlet_sets, sheet_checks, sheet_end, sheet_sets, read_checks, SheetRead}
use Rattle.sheets.proofs.RecordLaws.{record_fits, body_starts, head_fits}
use Rattle.sheets.proofs.HeadLaws.{GoodHead, is_good_head}
use Rattle.rules.proofs.Read.{then-first, then_later, then-passed}

-- so a refusal is the answer, whatever were looked at then,
pub then_refused : (refusal : Refusal) (later : ℕ) → then (number_of refusal) later ≡ number_of refusal
then_refused refusal later = then-first (number_of refusal) later (λ z. omega (arith, positive refusal))

-- and where nothing is refused, what is looked at then is
pub then_next : (later : ℕ) → then 0 later ≡ later
unfolding then
then_next later = refl

-- What holds where i of n outlet records from a place on are read into a row, and the next stands at `place`.
pub record Records (bins n : ℕ) (s : List ℕ) (from i place : ℕ) (row : List ℕ) : Type 0 where
  pub up_to : i ≤ n
  pub long : length row ≡ n
  pub checks : outlets_checks bins (n - i) s place ≡ outlets_checks bins n s from
  pub ends : outlets_end (n - i) s place ≡ outlets_end n s from
  pub sets : take i row ++ outlet_sets (n - i) s place ≡ outlet_sets n s from

pub none_read : (bins n : ℕ) (s : List ℕ) (from : ℕ) (row : List ℕ) → length row ≡ n → Records bins n s from 0 from row
none_read bins n s from row e = record { up_to = omega arith; long = e; checks = rw sub-zero; ends = rw sub-zero; sets = rw sub-zero }

module _ (bins n : ℕ) (s : List ℕ) (from i place : ℕ) (row : List ℕ) (R : Records bins n s from i place row) where
  -- of the records that are left, the next
  left : i < n → n - i ≡ suc (n - (i + 1))
  left h = omega arith

  pub record_refused : i < n → (refusal : Refusal) → number_of refusal ≡ outlet_checks bins s place → number_of refusal ≡ outlets_checks bins n s from
  unfolding outlets_checks
  record_refused h refusal e = sym (sym R.checks ∙ ap (λ (m : ℕ). outlets_checks bins m s place) (left h) ∙ (rw (sym e) (then_refused refusal _)))

  pub one_read : (value next : ℕ) → value ≡ set_of (body_at s place) → next ≡ after s place → i < n → 0 ≡ outlet_checks bins s place → Records bins n s from (i + 1) next (set row i value)
  unfolding outlets_checks outlets_end outlet_sets
  one_read value next ev en h e =
      let inside : i < length row = omega (arith, R.long) in
      rw (ev, en)
      (record {
        up_to = omega arith;
        long = length-set row i (set_of (body_at s place)) ∙ R.long;
        checks = sym (ap (λ (m : ℕ). outlets_checks bins m s place) (left h) ∙ then_later _ _ (sym e)) ∙ R.checks;
        ends = sym (ap (λ (m : ℕ). outlets_end m s place) (left h)) ∙ R.ends;
        sets =
            rw (add-one i, take-suc-set row i (set_of (body_at s place)) inside, append_snoc)
            (ap (λ (l : List ℕ). take i row ++ l) (sym (rw (left h, add-one i) refl)) ∙ R.sets);
      })

  pub all_read : n ≤ i → (0 ≡ outlets_checks bins n s from) × (place ≡ outlets_end n s from) × (row ≡ outlet_sets n s from)
  unfolding outlets_checks outlets_end outlet_sets
  all_read h =
      let none : n - i ≡ 0 = omega arith in
      let whole : take i row ≡ row = take_all i row (omega (arith, R.long, R.up_to)) in
      (sym (ap (λ (m : ℕ). outlets_checks bins m s place) none) ∙ R.checks, sym (ap (λ (m : ℕ). outlets_end m s place) none) ∙ R.ends, rw append-nil at (rw (none, whole) at R.sets))

pub length-outlet_sets : (n : ℕ) (s : List ℕ) (p : ℕ) → length (outlet_sets n s p) ≡ n
unfolding outlet_sets
length-outlet_sets zero s p = refl
length-outlet_sets (suc n) s p = ap suc (length-outlet_sets n s (after s p))

-- what is known of a head that is taken
head_within : (room : ℕ) (s : List ℕ) (p : ℕ) → 0 ≡ head_checks room s p → GoodHead room (head_bins s p) (head_outlets s p) (head_budget s p)
unfolding head_checks
head_within room s p e = is_good_head room (head_bins s p) (head_outlets s p) (head_budget s p) (then-passed (record_checks 1 s p) (head_numbers room (head_bins s p) (head_outlets s p) (head_budget s p)) (sym e)).1

pub few_bins : (room : ℕ) (s : List ℕ) (p : ℕ) → 0 ≡ head_checks room s p → head_bins s p ≤ 64
few_bins room s p e = (head_within room s p e).few_bins

pub few_outlets : (room : ℕ) (s : List ℕ) (p : ℕ) → 0 ≡ head_checks room s p → head_outlets s p ≤ 32
few_outlets room s p e = (head_within room s p e).few_outlets

-- and of a sheet
head_first : (room : ℕ) (s : List ℕ) (p : ℕ) → 0 ≡ sheet_checks room s p → 0 ≡ head_checks room s p
unfolding sheet_checks
head_first room s p e = sym (then-passed (head_checks room s p) (outlets_checks (head_bins s p) (head_outlets s p) s (after s p)) (sym e)).0

pub few_in_sheet : (room : ℕ) (s : List ℕ) (p : ℕ) → 0 ≡ sheet_checks room s p → head_outlets s p ≤ 32
few_in_sheet room s p e = few_outlets room s p (head_first room s p e)

pub room_for_sheet : (room : ℕ) (s : List ℕ) (p : ℕ) → 0 ≡ sheet_checks room s p → head_outlets s p ≤ room
room_for_sheet room s p e = (head_within room s p (head_first room s p e)).long_room

-- for the reader's functions: one thing looked at after another, and what is known of a record and of a head that pass
pub ruleset steps = (then_refused, then_next, record_fits, body_starts, head_fits, few_bins, few_outlets)

-- and for the copy of the row into the room
pub ruleset row_copied = (few_in_sheet, room_for_sheet, length-take-le)

-- what reading answers: a refusal, also by 12, or the job
module _ (s before : List ℕ) where
  pub read_refused : (refusal : Refusal) → number_of refusal ≡ read_checks (length before) s → SheetRead s before (record { number = number_of refusal; bins = 0; outlets = 0; budget = 0; room = before })
  read_refused refusal e =
      let no : (read_checks (length before) s ≡ 0 → ⊥) = λ z. omega (arith, positive refusal) in
      record {
        refused = λ _. rw e;
        done = λ z. absurd (no z);
        bins = λ z. absurd (no z);
        outlets = λ z. absurd (no z);
        budget = λ z. absurd (no z);
        filled = λ z. absurd (no z);
      }

  pub refused_inside : (refusal : Refusal) → number_of refusal ≡ sheet_checks (length before) s 0 → number_of refusal ≡ read_checks (length before) s
  unfolding read_checks
  refused_inside refusal e = sym (rw (sym e) (then_refused refusal _))

  pub bytes_after : 0 ≡ sheet_checks (length before) s 0 → sheet_end s 0 < length s → 12 ≡ read_checks (length before) s
  unfolding read_checks first_of
  bytes_after z h = sym (then_later _ _ (sym z) ∙ rw (lt-ltb (sheet_end s 0) (length s) h))

  nothing_after : 0 ≡ sheet_checks (length before) s 0 → length s ≤ sheet_end s 0 → read_checks (length before) s ≡ 0
  unfolding read_checks first_of
  nothing_after z h = then_later _ _ (sym z) ∙ rw (le-ltb (sheet_end s 0) (length s) h)

  pub read_done : 0 ≡ sheet_checks (length before) s 0 → length s ≤ sheet_end s 0 → (room : List ℕ) → room ≡ sheet_sets s 0 ++ drop (head_outlets s 0) before → SheetRead s before (record { number = 0; bins = head_bins s 0; outlets = head_outlets s 0; budget = head_budget s 0; room = room })
  read_done z h room e =
      record {
        refused = λ no. absurd (no (nothing_after z h));
        done = λ _. refl;
        bins = λ _. refl;
        outlets = λ _. refl;
        budget = λ _. refl;
        filled = λ _. e;
      }

-- for the loop along the records
pub ruleset record_steps = (none_read, record_refused, one_read, all_read)
