-- The starred rails, and the one beside them, hold of the rules: one test over the whole table, computed by the checker.
use mathlib.Core.List.{◌++◌}
use lib.Dec.{T}
use Rattle.rules.specs.Sum.{sum, pair_sum, every, least, only_if}
use Rattle.rules.specs.Crossing.{bit, set_of, profile, places, hoses, cross, right_of, crossings}
use Rattle.rules.specs.Placement.{has_hoses, same_bins, bare_last, free_one_way, alike, base, place, spent, price}
use Rattle.rules.specs.Walk.{or_else, unplaced, next_to_stand, made_from, made, differs, partner, chosen, equal_costs, settled, reach, trial, both_ways, tried, branched, opened, walk}
use Rattle.rules.specs.Rail.{outlet, cost, root, budget, searched}
use Rattle.rules.specs.Starred.{rails, further, within, all_within, same_order, same_end, same_outcome, answered, all_answered}

pub starred : T (all_answered (rails ++ further))
unfolding sum pair_sum every least only_if bit profile places hoses cross right_of crossings has_hoses same_bins bare_last free_one_way alike base place spent price or_else unplaced next_to_stand made_from made differs partner chosen equal_costs settled reach trial both_ways tried branched opened walk outlet cost root budget searched set_of rails within all_within same_order same_end same_outcome answered all_answered further
starred = tt
