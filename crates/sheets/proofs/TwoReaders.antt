-- The two readers agree: where the plain reader takes a sheet, the walk from place 0 answers its head, its outlet records one after the
-- other, and then the end.
use mathlib.Core.Path.{◌≡◌, refl, sym, ◌∙◌, ap}
use mathlib.Core.Bool.{true, false, false≢true}
use mathlib.Core.List.{List, [], ◌∷◌}
use Prim.Native.Nat.{ℕ, zero, suc, ◌+◌, ◌≤◌, ◌<◌}
use native.Mathlib.Omega.{arith}
use lib.Dec.{ltb}
use lib.ListN.{length, get_or, take, drop}
use borrow.Author.Tests.{ltb-false}
use Rattle.rules.specs.Crossing.{set_of}
use Rattle.rules.specs.Numbers.{first_of}
use Rattle.rules.specs.Next.{length_at, body_at, after, record_checks, kind_due, at_end, NextRecord}
use Rattle.rules.specs.Read.{head_outlets, head_checks, head_bins, head_budget, head_numbers, entry_checks, outlet_checks, outlets_checks, outlets_end, outlet_sets, sheet_checks, sheet_end, sheet_sets, read_checks}
use Rattle.rules.proofs.Checks.{first-none}
use Rattle.rules.proofs.Read.{then-passed}
use Rattle.sheets.proofs.RecordLaws.{is_whole, head_due, outlet_due, head_is_three, at_the_end, not_the_end}

-- the walk's answer where a record passes, and at the end
walk_finds : (s : List ℕ) (kind p : ℕ) → kind_due p ≡ kind → record_checks kind s p ≡ 0 → NextRecord s p (record { number = 0; kind = kind; start = p + 4; length = length_at s p; next = after s p })
walk_finds s kind p d e =
    let w = is_whole kind s p e in
    let here : at_end s p ≡ false = not_the_end s p (λ z. omega (arith, w.four)) in
    let passes : record_checks (kind_due p) s p ≡ 0 = ap (λ (k : ℕ). record_checks k s p) d ∙ e in
    record { end = λ f. absurd (false≢true (sym here ∙ f)); refused = λ _ n. absurd (n passes); found = λ _ _. rw d }

walk_ends : (s : List ℕ) (p : ℕ) → 0 < length s → p ≡ length s → NextRecord s p (record { number = 0; kind = 0; start = 0; length = 0; next = p })
walk_ends s p h e =
    let here : at_end s p ≡ true = at_the_end s p h e in
    record { end = λ _. refl; refused = λ f. absurd (false≢true (sym f ∙ here)); found = λ f. absurd (false≢true (sym f ∙ here)) }

-- where i outlet records end, the next begins
one_further : (i : ℕ) (s : List ℕ) (p : ℕ) → outlets_end (suc i) s p ≡ after s (outlets_end i s p)
unfolding outlets_end
one_further zero s p = refl
one_further (suc i) s p = one_further i s (after s p)

-- outlet i of n: its record passes, and its set is that of its body
outlet_of : (bins n i : ℕ) (s : List ℕ) (p : ℕ) → outlets_checks bins n s p ≡ 0 → i < n → (record_checks 2 s (outlets_end i s p) ≡ 0) × (get_or (outlet_sets n s p) i 0 ≡ set_of (body_at s (outlets_end i s p)))
unfolding outlets_checks outlet_checks outlets_end outlet_sets
outlet_of bins zero i s p e h = absurd (omega arith)
outlet_of bins (suc n) zero s p e h =
    let t = then-passed (outlet_checks bins s p) (outlets_checks bins n s (after s p)) e in
    ((then-passed (record_checks 2 s p) (entry_checks bins 0 (body_at s p)) t.0).0, refl)
outlet_of bins (suc n) (suc i) s p e h =
    let t = then-passed (outlet_checks bins s p) (outlets_checks bins n s (after s p)) e in
    outlet_of bins n i s (after s p) t.1 (omega arith)

-- records only go on, and do not pass the end
goes_on : (i : ℕ) (s : List ℕ) (p : ℕ) → p ≤ outlets_end i s p
unfolding outlets_end after
goes_on zero s p = omega arith
goes_on (suc i) s p = omega (arith, goes_on i s (after s p))

stays_within : (bins n : ℕ) (s : List ℕ) (p : ℕ) → outlets_checks bins n s p ≡ 0 → p ≤ length s → outlets_end n s p ≤ length s
unfolding outlets_checks outlet_checks outlets_end
stays_within bins zero s p e h = h
stays_within bins (suc n) s p e h =
    let t = then-passed (outlet_checks bins s p) (outlets_checks bins n s (after s p)) e in
    stays_within bins n s (after s p) t.1 (is_whole 2 s p (then-passed (record_checks 2 s p) (entry_checks bins 0 (body_at s p)) t.0).0).fits

-- What the walk answers over a sheet that the plain reader takes. Outlet i's record stands where i outlet records after the head's seven bytes end.
pub record Walked (s : List ℕ) : Type 0 where
  pub head : NextRecord s 0 (record { number = 0; kind = 1; start = 4; length = 3; next = 7 })
  pub outlet : (i : ℕ) → i < head_outlets s 0 → NextRecord s (outlets_end i s 7) (record { number = 0; kind = 2; start = outlets_end i s 7 + 4; length = length_at s (outlets_end i s 7); next = outlets_end (suc i) s 7 })
  -- its body has the bins of the set that the plain reader answers
  pub bins : (i : ℕ) → i < head_outlets s 0 → get_or (sheet_sets s 0) i 0 ≡ set_of (take (length_at s (outlets_end i s 7)) (drop (outlets_end i s 7 + 4) s))
  pub end : NextRecord s (outlets_end (head_outlets s 0) s 7) (record { number = 0; kind = 0; start = 0; length = 0; next = outlets_end (head_outlets s 0) s 7 })

seven_after : (s : List ℕ) → length_at s 0 ≡ 3 → after s 0 ≡ 7
unfolding after
seven_after s e = omega arith

body_of : (bins n i : ℕ) (s : List ℕ) → outlets_checks bins n s 7 ≡ 0 → i < n → get_or (outlet_sets n s 7) i 0 ≡ set_of (take (length_at s (outlets_end i s 7)) (drop (outlets_end i s 7 + 4) s))
unfolding body_at
body_of bins n i s e h = (outlet_of bins n i s 7 e h).1

pub walks_along : (room : ℕ) (s : List ℕ) → read_checks room s ≡ 0 → Walked s
unfolding read_checks sheet_checks head_checks sheet_end sheet_sets
walks_along room s e =
    let t = then-passed (sheet_checks room s 0) (first_of ((ltb (sheet_end s 0) (length s), 12) ∷ [])) e in
    let last = ltb-false (sheet_end s 0) (length s) (first-none (ltb (sheet_end s 0) (length s)) 12 [] (omega arith) t.1).0 in
    let o = then-passed (head_checks room s 0) (outlets_checks (head_bins s 0) (head_outlets s 0) s (after s 0)) t.0 in
    let h = then-passed (record_checks 1 s 0) (head_numbers room (head_bins s 0) (head_outlets s 0) (head_budget s 0)) o.0 in
    let w = is_whole 1 s 0 h.0 in
    let three : ◌≡◌ {A = ℕ} (length_at s 0) 3 = head_is_three (length_at s 0) w.good_length in
    let seven : ◌≡◌ {A = ℕ} (after s 0) 7 = seven_after s three in
    let checks : outlets_checks (head_bins s 0) (head_outlets s 0) s 7 ≡ 0 = rw seven at o.1 in
    let first : NextRecord s 0 (record { number = 0; kind = 1; start = 4; length = length_at s 0; next = after s 0 }) = walk_finds s 1 0 (head_due 0 refl) h.0 in
    record {
      head = rw (three, seven) at first;
      outlet = λ i k. rw (one_further i s 7) (walk_finds s 2 (outlets_end i s 7) (outlet_due (outlets_end i s 7) (λ z. omega (arith, goes_on i s 7))) (outlet_of (head_bins s 0) (head_outlets s 0) i s 7 checks k).0);
      bins = λ i k. ap (λ (p : ℕ). get_or (outlet_sets (head_outlets s 0) s p) i 0) seven ∙ body_of (head_bins s 0) (head_outlets s 0) i s checks k;
      end = walk_ends s (outlets_end (head_outlets s 0) s 7) (omega (arith, w.four)) (omega (arith, stays_within (head_bins s 0) (head_outlets s 0) s 7 checks (omega (arith, w.fits, seven)), last, ap (λ (p : ℕ). outlets_end (head_outlets s 0) s p) seven));
    }
