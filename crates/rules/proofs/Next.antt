-- One answer fits at each place of a sheet: two that do are equal.
use mathlib.Core.Path.{◌≡◌, refl, sym, ◌∙◌}
use mathlib.Core.Bool.{Bool, true, false}
use mathlib.Core.List.{List}
use Prim.Native.Nat.{ℕ}
use native.Mathlib.Decide.{ℕ_discrete}
use Rattle.rules.specs.Next.{Record, NextRecord, at_end, record_checks, kind_due}

pub only_one : (s : List ℕ) (place : ℕ) (q r : Record) → NextRecord s place q → NextRecord s place r → q ≡ r
only_one s place q r Q R = by_end (at_end s place) refl
  where
    by_checks : at_end s place ≡ false → Dec (record_checks (kind_due place) s place ≡ 0) → q ≡ r
    by_checks e (yes c) = Q.found e c ∙ sym (R.found e c)
    by_checks e (no n) = Q.refused e n ∙ sym (R.refused e n)

    by_end : (b : Bool) → at_end s place ≡ b → q ≡ r
    by_end true e = Q.end e ∙ sym (R.end e)
    by_end false e = by_checks e (ℕ_discrete (record_checks (kind_due place) s place) 0)
