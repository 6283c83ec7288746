-- Every line fits into 119 bytes: what a sheet that was read, and a search that found an order, tell of its numbers.
use mathlib.Core.Path.{◌≡◌, refl, sym, ◌∙◌, ap}
use mathlib.Core.List.{List}
use Prim.Native.Nat.{ℕ, ◌+◌, ◌≤◌}
use native.Mathlib.Omega.{arith}
use native.Mathlib.Decide.{ℕ_discrete}
use lib.ListN.{length, take, length-append}
use lib.Seq.{take_at, length-take-le}
use Rattle.std.proofs.Common.{Result, Ok, Err}
use Rattle.refusals.specs.declared.Refusal.{Refusal}
use Rattle.refusals.specs.declared.Refusal.TheVariants.{NoOrder}
use Rattle.refusals.specs.Numbers.{number_of}
use Rattle.search.specs.declared.Found.{Found}
use Rattle.search.specs.Told.{search_told}
use Rattle.sheets.specs.declared.reading.Job.{Job}
use Rattle.sheets.specs.Told.{read_told}
use Rattle.rules.specs.Numbers.{job_checks}
use Rattle.rules.specs.Next.{after}
use Rattle.rules.specs.Rail.{budget}
use Rattle.rules.specs.Read.{SheetRead, head_outlets, sheet_sets}
use Rattle.rules.specs.Search as rules
use Rattle.rules.specs.Search.{Handed, Searched, search_checks}
use Rattle.rules.specs.Line.{order_line, answer_line, own_room}
use Rattle.rules.proofs.Checks.{JobFits, job_fits as checked, job-first}
use Rattle.rules.proofs.Orders.{order-length}
use Rattle.rules.proofs.LongestLine.{longest_at_most, refused_at_most, no_order_at_most}
use Rattle.laws.proofs.Promises.{found_is_within}
use Rattle.laws.proofs.Bound.{grows, values}
use Rattle.search.proofs.Answers.{budget_small}
use Rattle.sheets.proofs.BothWays.{taken}
use Rattle.sheets.proofs.ReadLaws.{length-outlet_sets}
use Rattle.lines.specs.Told.{line_told}

-- a job that passes the checks has few outlets and a small budget
fits : (bins : ℕ) (rail : List ℕ) (k : ℕ) → search_checks bins rail k own_room ≡ 0 → JobFits bins rail k
unfolding search_checks
fits bins rail k passes =
    elim (ℕ_discrete (job_checks bins rail k) 0) [
      | yes e ↦ checked bins rail k e
      | no n ↦ absurd (n (sym (job-first bins rail k (length rail) (length own_room) n) ∙ passes))
    ]

module _ (bins : ℕ) (rail : List ℕ) (k : ℕ) (f : rules.Found) (S : Searched bins rail k own_room f) where
  small_budget : search_checks bins rail k own_room ≡ 0 → budget k ≤ 30
  small_budget passes = budget_small k (fits bins rail k passes).budget30

  -- a search opens no more cases than the bound for the largest budget, and a refusal of its checks opens none
  few_cases : f.cases ≤ 3524577
  few_cases =
      elim (ℕ_discrete (search_checks bins rail k own_room) 0) [
        | yes passes ↦ omega (arith, (S.opened passes).1, grows (budget k + 3) (30 + 3) (omega (arith, small_budget passes)), values.5)
        | no n ↦ omega (arith, ap (λ (q : rules.Found). q.cases) (S.refused n))
      ]

  -- an order is found only of a job that passes the checks, and then its line has at most 119 bytes
  order_fits : f.number ≡ 0 → length (order_line (take (length rail) f.room) f.count f.cases) ≤ 119
  order_fits z =
      elim (ℕ_discrete (search_checks bins rail k own_room) 0) [
        | no n ↦ absurd (n (sym (ap (λ (q : rules.Found). q.number) (S.refused n)) ∙ z))
        | yes passes ↦
            let h : Handed rail k own_room f = S.order passes z in
            let w = found_is_within rail k h.order h.walks in
            let n : ℕ = length rail in
            let front : take n f.room ≡ h.order = ap (take n) h.front ∙ take_at h.order _ n (order-length n h.order w.0) in
            let few : n ≤ 32 = (fits bins rail k passes).outlets32 in
            let small : f.count ≤ 30 = omega (arith, h.counted, w.1, small_budget passes) in
            rw front (longest_at_most n h.order f.count f.cases few w.0 small few_cases)
      ]

-- the line of what a search answers
answer_fits : (bins : ℕ) (rail : List ℕ) (k : ℕ) (room : List ℕ) (answer : Result Found Refusal)
    → Searched bins rail k own_room (search_told answer room) → length (line_told answer (take (length rail) room)) ≤ 119
unfolding answer_line
answer_fits bins rail k room (Ok found) S = order_fits bins rail k _ S refl
answer_fits bins rail k room (Err (NoOrder cases)) S = no_order_at_most cases (omega (arith, few_cases bins rail k _ S))
answer_fits bins rail k room (Err refusal) S = refused_at_most (number_of refusal) (omega arith)

-- A sheet that was read has no more outlets than the room that they stand in, and the line of what the search of its job answers fits.
module _ (s room : List ℕ) (job : Job) (R : SheetRead s own_room (read_told (Ok job) room)) where
  pub outlets_fit : job.outlets ≤ length room
  unfolding sheet_sets
  outlets_fit =
      let e = taken s own_room (read_told (Ok job) room) R refl in
      omega (arith, R.outlets e, simp length-append at (ap length (R.filled e)), length-outlet_sets (head_outlets s 0) s (after s 0))

  pub job_fits : (order : List ℕ) (answer : Result Found Refusal)
      → Searched job.bins (take job.outlets room) job.budget own_room (search_told answer order)
      → length (line_told answer (take job.outlets order)) ≤ 119
  job_fits order answer S =
      let all : length (take job.outlets room) ≡ job.outlets = length-take-le job.outlets room outlets_fit in
      rw all at (answer_fits job.bins (take job.outlets room) job.budget order answer S)
