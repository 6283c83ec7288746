-- Document 01 from its bytes to its lines: the sheet of three with k = 4, and the sheet of a rail without outlets. By `one_line` no other line fits either.
use mathlib.Core.Path.{◌≡◌, refl}
use mathlib.Core.Bool.{false}
use mathlib.Core.List.{List, [], ◌∷◌, ◌++◌}
use Prim.Native.Nat.{ℕ, ◌+◌, ◌≤◌}
use native.Mathlib.Omega.{arith}
use lib.ListN.{length, take, drop}
use Rattle.rules.specs.Sum.{sum, pair_sum, every, least, only_if}
use Rattle.rules.specs.Crossing.{bit, set_of, profile, places, hoses, cross, times, right_of, crossings}
use Rattle.rules.specs.Placement.{has_hoses, same_bins, bare_last, free_one_way, alike, base, place, spent, price}
use Rattle.rules.specs.Walk.{found, or_else, unplaced, next_to_stand, made_from, made, differs, partner, chosen, equal_costs, settled, reach, trial, both_ways, tried, branched, opened, walk, F}
use Rattle.rules.specs.Rail.{outlet, cost, root, budget, searched}
use Rattle.rules.specs.Numbers.{first_of, too_many_bins, too_many_outlets, bad_budget, stray_hose, stray_hoses, room_too_short, not_an_order}
use Rattle.rules.specs.Next.{two_at, length_at, kind_at, body_at, after, bad_length, record_checks}
use Rattle.rules.specs.Read.{Job, then, head_bins, head_outlets, head_budget, head_numbers, head_checks, entry_checks, outlet_checks, outlets_checks, outlets_end, outlet_sets, sheet_checks, sheet_end, sheet_sets, read_checks}
use Rattle.rules.specs.Search.{Found, Searched, search_checks}
use Rattle.rules.specs.Text.{text}
use Rattle.rules.specs.Line.{digits, decimal, behind, line_of, order_line, answer_line, own_room, SheetLine}
use Rattle.rules.proofs.Orders.{test_order}

-- the job of a sheet, and what a search that finds an order answers
unfoldable job_of : List ℕ → Job
job_of s =
    record { number = 0; bins = head_bins s 0; outlets = head_outlets s 0; budget = head_budget s 0; room = sheet_sets s 0 ++ drop (head_outlets s 0) own_room }

unfoldable rail_of : List ℕ → List ℕ
rail_of s = take (head_outlets s 0) (job_of s).room

unfoldable answer_of : List ℕ → List ℕ → Found
answer_of s order =
    record { number = 0; count = crossings (cost (rail_of s)) order; cases = (searched (rail_of s) (head_budget s 0)).cases; room = order ++ drop (length (rail_of s)) own_room }

-- A sheet has this line where it is read, the walk finds this order, and the order is one and within the budget.
module _ (s order line : List ℕ) (reads : read_checks (length own_room) s ≡ 0) (passes : search_checks (head_bins s 0) (rail_of s) (head_budget s 0) own_room ≡ 0)
    (walks : (searched (rail_of s) (head_budget s 0)).end ≡ found order) (is_order : not_an_order (length (rail_of s)) order ≡ false)
    (within : crossings (cost (rail_of s)) order ≤ budget (head_budget s 0)) (cases : (searched (rail_of s) (head_budget s 0)).cases + 1 ≤ F (budget (head_budget s 0) + 3))
    (says : line ≡ order_line (take (head_outlets s 0) (answer_of s order).room) (crossings (cost (rail_of s)) order) (searched (rail_of s) (head_budget s 0)).cases) where
  is_searched : Searched (head_bins s 0) (rail_of s) (head_budget s 0) own_room (answer_of s order)
  unfolding answer_of
  is_searched = record {
    refused = λ n. absurd (n passes);
    yes = λ _. (λ _. record { order = order; is_order = test_order (length (rail_of s)) order is_order; within = within }, λ _. refl);
    order = λ _ _. record { order = order; walks = walks; front = refl; counted = refl };
    no = λ _ n. absurd (n refl);
    opened = λ _. (refl, cases);
  }

  is_line : SheetLine s line
  unfolding job_of rail_of answer_of answer_line
  is_line = record {
    job = job_of s;
    read = record { refused = λ n. absurd (n reads); done = λ _. refl; bins = λ _. refl; outlets = λ _. refl; budget = λ _. refl; filled = λ _. refl };
    refused = λ n. absurd (n refl);
    searched = λ _. record { found = answer_of s order; searched = is_searched; says = says };
  }

-- The sheet of three with k = 4: the program prints `order 1 0 2 crossings 4 cases 2`. No outlets: `order crossings 0 cases 1`.
pub of_sheets : SheetLine (0x03 ∷ 0x00 ∷ 0x01 ∷ 0x00 ∷ 0x04 ∷ 0x03 ∷ 0x04 ∷ 0x03 ∷ 0x00 ∷ 0x02 ∷ 0x00 ∷ 0x00 ∷ 0x02 ∷ 0x03 ∷ 0x01 ∷ 0x00 ∷ 0x02 ∷ 0x00 ∷ 0x01 ∷ 0x02 ∷ 0x00 ∷ 0x02 ∷ 0x00 ∷ 0x00 ∷ 0x03 ∷ []) (text "order 1 0 2 crossings 4 cases 2\n")
    × SheetLine (0x03 ∷ 0x00 ∷ 0x01 ∷ 0x00 ∷ 0x00 ∷ 0x00 ∷ 0x00 ∷ []) (text "order crossings 0 cases 1\n")
unfolding sum pair_sum every least only_if bit profile places hoses cross times right_of crossings has_hoses same_bins bare_last free_one_way alike base place spent price or_else unplaced next_to_stand made_from made differs partner chosen equal_costs settled reach trial both_ways tried branched opened walk F outlet cost root budget searched set_of first_of too_many_bins too_many_outlets bad_budget stray_hose stray_hoses room_too_short not_an_order two_at length_at kind_at body_at after bad_length record_checks then head_bins head_outlets head_budget head_numbers head_checks entry_checks outlet_checks outlets_checks outlets_end outlet_sets sheet_checks sheet_end sheet_sets read_checks search_checks text digits decimal behind line_of order_line answer_line own_room job_of rail_of answer_of
of_sheets = (
  is_line _ (1 ∷ 0 ∷ 2 ∷ []) _ refl refl refl refl (omega arith) (omega arith) refl,
  is_line _ [] _ refl refl refl refl (omega arith) (omega arith) refl,
)
