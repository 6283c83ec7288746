-- Checks one after another: the first ones decide where one of them holds, and where none does, those that are left.
use mathlib.Core.Path.{◌≡◌, refl, ◌∙◌}
use mathlib.Core.Bool.{Bool, true, false}
use mathlib.Core.List.{List, [], ◌∷◌, ◌++◌}
use Prim.Native.Nat.{ℕ, ◌≤◌, ◌<◌}
use native.Mathlib.Omega.{arith}
use lib.Dec.{ltb}
use lib.ListN.{length}
use borrow.Author.Tests.{ltb-false, lt-ltb, le-ltb}
use Rattle.rules.specs.Numbers.{first_of, too_many_bins, too_many_outlets, bad_budget, stray_hoses, room_too_short, not_an_order, job_checks}
use Rattle.rules.specs.Count.{rail_checks, count_checks}

-- one check, by what it says
pub first-yes : (t : Bool) (k : ℕ) (later : List (Bool × ℕ)) → t ≡ true → first_of ((t, k) ∷ later) ≡ k
unfolding first_of
first-yes t k later e = rw e

pub first-no : (t : Bool) (k : ℕ) (later : List (Bool × ℕ)) → t ≡ false → first_of ((t, k) ∷ later) ≡ first_of later
unfolding first_of
first-no t k later e = rw e

-- no check bears the number 0, which says that none holds
abbrev pub Numbered : List (Bool × ℕ) → Type 0
Numbered [] = Unit {0}
Numbered (check ∷ later) = (0 < check.1) × Numbered later

pub first_more : (l m : List (Bool × ℕ)) → (first_of l ≡ 0 → ⊥) → first_of (l ++ m) ≡ first_of l
unfolding first_of
first_more [] m n = absurd (n refl)
first_more (check ∷ l) m n = go check.0 check.1 n (first_more l m)
  where
    go : (t : Bool) (k : ℕ) → (first_of ((t, k) ∷ l) ≡ 0 → ⊥) → ((first_of l ≡ 0 → ⊥) → first_of (l ++ m) ≡ first_of l)
        → first_of ((t, k) ∷ (l ++ m)) ≡ first_of ((t, k) ∷ l)
    go true k n ih = refl
    go false k n ih = ih n

pub first_rest : (l m : List (Bool × ℕ)) → Numbered l → first_of l ≡ 0 → first_of (l ++ m) ≡ first_of m
unfolding first_of
first_rest [] m h e = refl
first_rest (check ∷ l) m h e = go check.0 check.1 h.0 e (first_rest l m h.1)
  where
    go : (t : Bool) (k : ℕ) → 0 < k → first_of ((t, k) ∷ l) ≡ 0 → (first_of l ≡ 0 → first_of (l ++ m) ≡ first_of m)
        → first_of ((t, k) ∷ (l ++ m)) ≡ first_of m
    go true k p e ih = absurd (omega arith)
    go false k p e ih = ih e

pub first-none : (t : Bool) (k : ℕ) (later : List (Bool × ℕ)) → 0 < k → first_of ((t, k) ∷ later) ≡ 0 → (t ≡ false) × (first_of later ≡ 0)
unfolding first_of
first-none true k later p e = absurd (omega arith)
first-none false k later p e = (refl, e)

-- what is known of a job that no check refuses
pub record JobFits (bins : ℕ) (outlets : List ℕ) (k : ℕ) : Type 0 where
  pub bins64 : bins ≤ 64
  pub outlets32 : length outlets ≤ 32
  pub budget30 : bad_budget k ≡ false
  pub hoses_within : stray_hoses bins outlets ≡ false

pub job_fits : (bins : ℕ) (outlets : List ℕ) (k : ℕ) → job_checks bins outlets k ≡ 0 → JobFits bins outlets k
unfolding job_checks too_many_bins too_many_outlets
job_fits bins outlets k e =
    let one = first-none (too_many_bins bins) 1 ((too_many_outlets outlets, 2) ∷ (bad_budget k, 3) ∷ (stray_hoses bins outlets, 4) ∷ []) (omega arith) e in
    let two = first-none (too_many_outlets outlets) 2 ((bad_budget k, 3) ∷ (stray_hoses bins outlets, 4) ∷ []) (omega arith) one.1 in
    let three = first-none (bad_budget k) 3 ((stray_hoses bins outlets, 4) ∷ []) (omega arith) two.1 in
    let four = first-none (stray_hoses bins outlets) 4 [] (omega arith) three.1 in
    record
    { bins64 = ltb-false 64 bins one.0; outlets32 = ltb-false 32 (length outlets) two.0; budget30 = three.0; hoses_within = four.0 }

-- A rail with no budget is checked as with the budget 0, which no check refuses.
pub no-budget : (bins : ℕ) (outlets : List ℕ) → job_checks bins outlets 0 ≡ rail_checks bins outlets
unfolding job_checks rail_checks bad_budget first_of
no-budget bins outlets = refl

-- The count's checks: the rail's, and then the order's.
abbrev of_rail : ℕ → List ℕ → List (Bool × ℕ)
of_rail bins outlets = (too_many_bins bins, 1) ∷ (too_many_outlets outlets, 2) ∷ (stray_hoses bins outlets, 4) ∷ []

module _ (bins : ℕ) (outlets order : List ℕ) where
  pub count_rail : (rail_checks bins outlets ≡ 0 → ⊥) → count_checks bins outlets order ≡ rail_checks bins outlets
  unfolding rail_checks count_checks
  count_rail n = first_more (of_rail bins outlets) ((not_an_order (length outlets) order, 7) ∷ []) n

  pub count-order : rail_checks bins outlets ≡ 0 → count_checks bins outlets order ≡ first_of ((not_an_order (length outlets) order, 7) ∷ [])
  unfolding rail_checks count_checks
  count-order e = first_rest (of_rail bins outlets) ((not_an_order (length outlets) order, 7) ∷ []) (omega arith) e

-- A job's checks, and then 5 for a lent room that is shorter than what it needs: those of the search, and of writing a sheet.
abbrev pub of_job : ℕ → List ℕ → ℕ → List (Bool × ℕ)
of_job bins outlets k =
    (too_many_bins bins, 1) ∷ (too_many_outlets outlets, 2) ∷ (bad_budget k, 3) ∷ (stray_hoses bins outlets, 4) ∷ []

abbrev pub room_checks : ℕ → List ℕ → ℕ → ℕ → ℕ → ℕ
room_checks bins outlets k needed room = first_of (of_job bins outlets k ++ ((room_too_short needed room, 5) ∷ []))

module _ (bins : ℕ) (outlets : List ℕ) (k needed room : ℕ) where
  pub job-first : (job_checks bins outlets k ≡ 0 → ⊥) → room_checks bins outlets k needed room ≡ job_checks bins outlets k
  unfolding job_checks
  job-first n = first_more (of_job bins outlets k) ((room_too_short needed room, 5) ∷ []) n

  then-room : job_checks bins outlets k ≡ 0 → room_checks bins outlets k needed room ≡ first_of ((room_too_short needed room, 5) ∷ [])
  unfolding job_checks
  then-room e = first_rest (of_job bins outlets k) ((room_too_short needed room, 5) ∷ []) (omega arith) e

  pub room_short : job_checks bins outlets k ≡ 0 → room < needed → room_checks bins outlets k needed room ≡ 5
  unfolding room_too_short
  room_short e h = then-room e ∙ first-yes (ltb room needed) 5 [] (lt-ltb room needed h)

  pub room_enough : job_checks bins outlets k ≡ 0 → needed ≤ room → room_checks bins outlets k needed room ≡ 0
  unfolding room_too_short first_of
  room_enough e h = then-room e ∙ first-no (ltb room needed) 5 [] (le-ltb room needed h)
