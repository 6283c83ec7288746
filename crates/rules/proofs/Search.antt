-- One answer fits a search: two that do are equal, the lent room with them.
use mathlib.Core.Path.{◌≡◌, sym, ◌∙◌, ap}
use mathlib.Core.List.{List, ◌++◌}
use Prim.Native.Nat.{ℕ}
use native.Mathlib.Decide.{ℕ_discrete}
use lib.ListN.{length, drop}
use Rattle.rules.specs.Crossing.{crossings}
use Rattle.rules.specs.Rail.{cost}
use Rattle.rules.specs.Search.{Found, Searched, Handed, search_checks}

-- answers are equal where their parts are
same_found : (r s : Found) → r.number ≡ s.number → r.count ≡ s.count → r.cases ≡ s.cases → r.room ≡ s.room → r ≡ s
same_found r s n x c m i = record { number = n i; count = x i; cases = c i; room = m i }

module _ (bins : ℕ) (outlets : List ℕ) (k : ℕ) (before : List ℕ) (r s : Found)
    (R : Searched bins outlets k before r) (S : Searched bins outlets k before s) where
  -- a yes and a yes hand over the same order, since the walk has one end
  both_yes : (e : search_checks bins outlets k before ≡ 0) (y : r.number ≡ 0) → s.number ≡ 0 → r ≡ s
  both_yes e y z =
      let a : Handed outlets k before r = R.order e y in
      let b : Handed outlets k before s = S.order e z in
      let same : a.order ≡ b.order = cc in
      same_found r s (cc) (a.counted ∙ ap (crossings (cost outlets)) same ∙ sym b.counted) ((R.opened e).0 ∙ sym (S.opened e).0) (a.front ∙ ap (λ (l : List ℕ). l ++ drop (length outlets) before) same ∙ sym b.front)

  pub only_one : r ≡ s
  only_one = by_checks (ℕ_discrete (search_checks bins outlets k before) 0)
    where
      by_number : (search_checks bins outlets k before ≡ 0) → Dec (r.number ≡ 0) → Dec (s.number ≡ 0) → r ≡ s
      by_number e (yes y) (yes z) = both_yes e y z
      by_number e (yes y) (no n) = absurd (n ((S.yes e).1 ((R.yes e).0 y)))
      by_number e (no n) (yes z) = absurd (n ((R.yes e).1 ((S.yes e).0 z)))
      by_number e (no n) (no m) =
          let a = R.no e n in
          let b = S.no e m in
          same_found r s (cc) (cc) ((R.opened e).0 ∙ sym (S.opened e).0) (cc)

      by_checks : Dec (search_checks bins outlets k before ≡ 0) → r ≡ s
      by_checks (no n) = R.refused n ∙ sym (S.refused n)
      by_checks (yes e) = by_number e (ℕ_discrete r.number 0) (ℕ_discrete s.number 0)
