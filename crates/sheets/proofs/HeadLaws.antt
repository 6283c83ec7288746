-- The head of a sheet: what is said after it, 1, 2, 3, 5, and what is known where nothing is.
use mathlib.Core.Path.{◌≡◌}
use mathlib.Core.Bool.{true, false}
use mathlib.Core.List.{List}
use Prim.Native.Nat.{ℕ, ◌+◌, ◌<◌, ◌≤◌}
use native.Mathlib.Omega.{arith}
use lib.Dec.{ltb}
use lib.ListN.{get_or}
use borrow.Author.Tests.{lt-ltb, le-ltb, ltb-false}
use Rattle.rules.specs.Numbers.{first_of, too_many_bins, bad_budget, room_too_short}
use Rattle.rules.specs.Read.{head_bins, head_outlets, head_budget, head_numbers}
use Rattle.rules.proofs.Checks.{first-none}

-- the three bytes of a body that starts at `at`
module _ (s : List ℕ) (p at : ℕ) (e : at ≡ p + 4) where
  pub bins_byte : get_or s at 0 ≡ head_bins s p
  unfolding head_bins
  bins_byte = rw e

  pub outlets_byte : get_or s (at + 1) 0 ≡ head_outlets s p
  unfolding head_outlets
  outlets_byte = let same : at + 1 ≡ p + 5 = omega arith in rw same

  pub budget_byte : get_or s (at + 2) 0 ≡ head_budget s p
  unfolding head_budget
  budget_byte = let same : at + 2 ≡ p + 6 = omega arith in rw same

module _ (room bins outlets k : ℕ) where
  pub many_bins : 64 < bins → head_numbers room bins outlets k ≡ 1
  unfolding head_numbers too_many_bins first_of
  many_bins h = rw (lt-ltb 64 bins h)

  pub many_outlets : bins ≤ 64 → 32 < outlets → head_numbers room bins outlets k ≡ 2
  unfolding head_numbers too_many_bins first_of
  many_outlets b h = rw (le-ltb 64 bins b, lt-ltb 32 outlets h)

  pub other_budget : bins ≤ 64 → outlets ≤ 32 → bad_budget k ≡ true → head_numbers room bins outlets k ≡ 3
  unfolding head_numbers too_many_bins first_of
  other_budget b o g = rw (le-ltb 64 bins b, le-ltb 32 outlets o, g)

  pub short_room : bins ≤ 64 → outlets ≤ 32 → bad_budget k ≡ false → room < outlets → head_numbers room bins outlets k ≡ 5
  unfolding head_numbers too_many_bins room_too_short first_of
  short_room b o g h = rw (le-ltb 64 bins b, le-ltb 32 outlets o, g, lt-ltb room outlets h)

  -- a head that is taken
  pub record GoodHead : Type 0 where
    pub few_bins : bins ≤ 64
    pub few_outlets : outlets ≤ 32
    pub good_budget : bad_budget k ≡ false
    pub long_room : outlets ≤ room

  pub good_head : GoodHead → head_numbers room bins outlets k ≡ 0
  unfolding head_numbers too_many_bins room_too_short first_of
  good_head g = rw (le-ltb 64 bins g.few_bins, le-ltb 32 outlets g.few_outlets, g.good_budget, le-ltb room outlets g.long_room)

  pub is_good_head : head_numbers room bins outlets k ≡ 0 → GoodHead
  unfolding head_numbers too_many_bins room_too_short
  is_good_head e =
      let one = first-none (ltb 64 bins) 1 _ (omega arith) e in
      let two = first-none (ltb 32 outlets) 2 _ (omega arith) one.1 in
      let three = first-none (bad_budget k) 3 _ (omega arith) two.1 in
      let five = first-none (ltb room outlets) 5 _ (omega arith) three.1 in
      record { few_bins = ltb-false _ _ one.0; few_outlets = ltb-false _ _ two.0; good_budget = three.0; long_room = ltb-false _ _ five.0 }
