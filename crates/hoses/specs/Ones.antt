-- The ones of a number, one after another, the lowest first.
use Rattle.std.specs.Prelude.{Option, MatchOption, ◌≡◌, ℕ, ◌-◌, ◌<◌, bit_and}
use Rattle.std.specs.Int.Count.{count_trailing_zeros}

-- of the ones that are left the lowest, and those that are left then; nothing where there is none
abbrev pub LowestFirst : ℕ → Option ℕ → ℕ → Type 0
LowestFirst rest one later =
    MatchOption one ((rest ≡ 0) × (later ≡ 0)) (λ x. (0 < rest) × (x ≡ count_trailing_zeros 64 rest) × (later ≡ bit_and rest (rest - 1)))
