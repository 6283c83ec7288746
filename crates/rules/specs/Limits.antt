-- Names for the limits: how large a job may be, and the number that stands for a budget that is not written. The pages below write the numbers.
use Rattle.std.specs.Prelude.{ℕ}

abbrev pub most_bins : ℕ
most_bins = 64

abbrev pub most_outlets : ℕ
most_outlets = 32

abbrev pub most_budget : ℕ
most_budget = 30

abbrev pub not_written : ℕ
not_written = 255
