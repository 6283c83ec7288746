-- The round trips as a buyer sees them (demand 2): of whatever the operations answer, since one answer fits each.
use mathlib.Core.Path.{◌≡◌, refl, sym, ◌∙◌, ap, ap₂}
use mathlib.Core.List.{List, ◌++◌}
use Prim.Native.Nat.{ℕ, ◌≤◌}
use native.Mathlib.Decide.{ℕ_discrete}
use native.Mathlib.Omega.{arith}
use lib.ListN.{length, take, drop}
use lib.Seq.{take_at}
use Rattle.rules.specs.Numbers.{job_checks}
use Rattle.rules.specs.Sheet.{sheet_of}
use Rattle.rules.specs.Next.{after}
use Rattle.rules.specs.Read.{head_bins, head_outlets, head_budget, sheet_sets, read_checks, Job, SheetRead}
use Rattle.rules.specs.Write.{write_checks, Written, SheetWritten}
use Rattle.rules.proofs.Read as reading
use Rattle.rules.proofs.Write as writing
use Rattle.sheets.proofs.ReadLaws.{length-outlet_sets}
use Rattle.sheets.proofs.WriteLaws.{refused_by_job, passes_to_write}
use Rattle.sheets.proofs.RoundTrip.{Sets, Bytes, written_is_read, read_is_written}

-- what a number 0 tells of a writing and of a reading
module _ (bins : ℕ) (outlets : List ℕ) (k : ℕ) (room : List ℕ) (w : Written) (W : SheetWritten bins outlets k room w) (z : w.number ≡ 0) where
  written : write_checks bins outlets k room ≡ 0
  written =
      elim (ℕ_discrete (write_checks bins outlets k room) 0) [
        | yes e ↦ e
        | no n ↦ absurd (n (sym (ap (λ (q : Written). q.number) (W.refused n)) ∙ z))
      ]

  checked : job_checks bins outlets k ≡ 0
  checked =
      elim (ℕ_discrete (job_checks bins outlets k) 0) [
        | yes e ↦ e
        | no n ↦ absurd (n (sym (refused_by_job bins outlets k room n) ∙ written))
      ]

pub taken : (s before : List ℕ) (r : Job) → SheetRead s before r → r.number ≡ 0 → read_checks (length before) s ≡ 0
taken s before r R z =
    elim (ℕ_discrete (read_checks (length before) s) 0) [
      | yes e ↦ e
      | no n ↦ absurd (n (sym (ap (λ (q : Job). q.number) (R.refused n)) ∙ z))
    ]

-- A sheet written and read again is the same job: the bytes that were written, read into any room that is long enough. A budget that is
-- not written, 255, comes back as 255, and a written 0 as 0.
pub written_then_read : (bins : ℕ) (outlets : List ℕ) (k : ℕ) (room : List ℕ) (w : Written) → Sets outlets → SheetWritten bins outlets k room w → w.number ≡ 0 → (before : List ℕ) (r : Job) → length outlets ≤ length before → SheetRead (take w.length w.room) before r → r ≡ record { number = 0; bins = bins; outlets = length outlets; budget = k; room = outlets ++ drop (length outlets) before }
written_then_read bins outlets k room w words W z before r fits R =
    let e = written bins outlets k room w W z in
    let sheet : take w.length w.room ≡ sheet_of bins outlets k = ap₂ (λ (n : ℕ) (l : List ℕ). take n l) (W.long e) (W.filled e) ∙ take_at (sheet_of bins outlets k) _ (length (sheet_of bins outlets k)) refl in
    reading.only_one (sheet_of bins outlets k) before r _ (rw sheet at R) (written_is_read bins outlets k (checked bins outlets k room w W z) words before fits)

-- A sheet taken and written again is the same bytes: the job that was read, written into any room that is long enough.
pub read_then_written : (s : List ℕ) → Bytes s → (before : List ℕ) (r : Job) → SheetRead s before r → r.number ≡ 0 → (room : List ℕ) (w : Written) → length s ≤ length room → SheetWritten r.bins (take r.outlets r.room) r.budget room w → w ≡ record { number = 0; length = length s; room = s ++ drop (length s) room }
unfolding sheet_sets
read_then_written s bytes before r R z room w fits W =
    let e = taken s before r R z in
    let b = read_is_written s bytes (length before) e in
    let sets : take r.outlets r.room ≡ sheet_sets s 0 = ap₂ (λ (n : ℕ) (l : List ℕ). take n l) (R.outlets e) (R.filled e) ∙ take_at (sheet_sets s 0) _ (head_outlets s 0) (length-outlet_sets (head_outlets s 0) s (after s 0)) in
    let A : SheetWritten (head_bins s 0) (sheet_sets s 0) (head_budget s 0) room w = rw (R.bins e, sets, R.budget e) at W in
    let passes = passes_to_write (head_bins s 0) (sheet_sets s 0) (head_budget s 0) room b.0 (omega (arith, ap length b.1)) in
    writing.same_written w _ (A.done passes) (A.long passes ∙ ap length b.1) (A.filled passes ∙ ap (λ (l : List ℕ). l ++ drop (length l) room) b.1)
