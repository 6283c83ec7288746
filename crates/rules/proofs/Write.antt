-- One answer fits a writing: two that do are equal, the lent room with them.
use mathlib.Core.Path.{◌≡◌, sym, ◌∙◌}
use mathlib.Core.List.{List}
use Prim.Native.Nat.{ℕ}
use native.Mathlib.Decide.{ℕ_discrete}
use Rattle.rules.specs.Write.{Written, SheetWritten, write_checks}

-- answers are equal where their parts are
pub same_written : (q r : Written) → q.number ≡ r.number → q.length ≡ r.length → q.room ≡ r.room → q ≡ r
same_written q r n l m i = record { number = n i; length = l i; room = m i }

module _ (bins : ℕ) (outlets : List ℕ) (k : ℕ) (before : List ℕ) (q r : Written)
    (Q : SheetWritten bins outlets k before q) (R : SheetWritten bins outlets k before r) where
  pub only_one : q ≡ r
  only_one = by_checks (ℕ_discrete (write_checks bins outlets k before) 0)
    where
      by_checks : Dec (write_checks bins outlets k before ≡ 0) → q ≡ r
      by_checks (no n) = Q.refused n ∙ sym (R.refused n)
      by_checks (yes e) = same_written q r (Q.done e ∙ sym (R.done e)) (Q.long e ∙ sym (R.long e)) (Q.filled e ∙ sym (R.filled e))
