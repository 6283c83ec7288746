-- The lines of document 01 as the checker computes them. One line fits a sheet, and one answer fits the making of it: two that do are equal.
use mathlib.Core.Path.{◌≡◌, refl, sym, ◌∙◌, ap, subst}
use mathlib.Core.List.{List, [], ◌∷◌, ◌++◌}
use Prim.Native.Nat.{ℕ}
use native.Mathlib.Decide.{ℕ_discrete}
use lib.ListN.{length, take, drop}
use Rattle.rules.specs.Read.{Job}
use Rattle.rules.specs.Search.{Found}
use Rattle.rules.specs.Text.{text}
use Rattle.rules.specs.Line.{digits, decimal, behind, line_of, order_line, no_order_line, refused_line, answer_line, own_room, JobLine, SheetLine, Lined, LineMade}
use Rattle.rules.proofs.Read as Read
use Rattle.rules.proofs.Search as Search

-- Success, no outlets, number 6, others
pub of_three : order_line (1 ∷ 0 ∷ 2 ∷ []) 4 2 ≡ text "order 1 0 2 crossings 4 cases 2\n"
unfolding text digits decimal behind line_of order_line
of_three = refl

pub of_no_outlets : order_line [] 0 1 ≡ text "order crossings 0 cases 1\n"
unfolding text digits decimal behind line_of order_line
of_no_outlets = refl

pub of_no_order : no_order_line 3 ≡ text "refused 6 cases 3\n"
unfolding text digits decimal behind line_of no_order_line
of_no_order = refl

pub of_refused : refused_line 12 ≡ text "refused 12\n"
unfolding text digits decimal behind line_of refused_line
of_refused = refl

-- a job has one line, since its search has one answer,
one_job_line : (job : Job) (a b : List ℕ) → JobLine job a → JobLine job b → a ≡ b
one_job_line job a b A B =
    A.says
    ∙ ap (λ (f : Found). answer_line f.number (take job.outlets f.room) f.count f.cases) (Search.only_one job.bins (take job.outlets job.room) job.budget own_room A.found B.found A.searched B.searched)
    ∙ sym B.says

-- and a sheet has one, since it is read in one way
pub one_line : (s a b : List ℕ) → SheetLine s a → SheetLine s b → a ≡ b
one_line s a b A B = by_number (ℕ_discrete A.job.number 0)
  where
    same : A.job ≡ B.job
    same = Read.only_one s own_room A.job B.job A.read B.read

    by_number : Dec (A.job.number ≡ 0) → a ≡ b
    by_number (yes z) = one_job_line B.job a b (subst (λ (j : Job). JobLine j a) same (A.searched z)) (B.searched (sym (ap (λ (j : Job). j.number) same) ∙ z))
    by_number (no n) = A.refused n ∙ ap (λ (j : Job). refused_line j.number) same ∙ sym (B.refused (λ z. n (ap (λ (j : Job). j.number) same ∙ z)))

pub only_one : (s before : List ℕ) (q r : Lined) → LineMade s before q → LineMade s before r → q ≡ r
only_one s before q r Q R =
    let same : Q.line ≡ R.line = one_line s Q.line R.line Q.of_sheet R.of_sheet in
    same_lined
    (Q.long ∙ ap length same ∙ sym R.long)
    (Q.front ∙ ap (λ (l : List ℕ). l ++ drop (length l) before) same ∙ sym R.front)
  where
    same_lined : q.length ≡ r.length → q.room ≡ r.room → q ≡ r
    same_lined l m i = record { length = l i; room = m i }
