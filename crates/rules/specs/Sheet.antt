-- The job sheet (document 01, 'The job sheet'): the bytes of a job.
use Rattle.std.specs.Prelude.{true, false, List, [], ◌∷◌, ◌++◌, ℕ, zero, suc, ◌/◌, ◌%◌, eqb, length}
use Rattle.rules.specs.Crossing.{Bins, bit, places}

-- Two bytes, little-endian.
unfoldable pub two : ℕ → List ℕ
two n = n % 256 ∷ n / 256 ∷ []

-- Each record: length of the body, kind, body.
unfoldable pub record_of : ℕ → List ℕ → List ℕ
record_of kind body = two (length body) ++ (two kind ++ body)

-- First the head, kind 1: bins, outlets, budget, one byte each; budget 255 means none is written.
unfoldable pub head_of : ℕ → ℕ → ℕ → List ℕ
head_of bins outlets k = record_of 1 (bins ∷ outlets ∷ k ∷ [])

-- The bins of a set, strictly rising: of the n places from x on, those with a bit of it.
unfoldable pub bins_from : ℕ → ℕ → ℕ → Bins
bins_from m x zero = []
bins_from m x (suc n) = elim (eqb (bit m x) 1) [ true ↦ x ∷ bins_from m (suc x) n | false ↦ bins_from m (suc x) n ]

unfoldable pub bins_of : ℕ → Bins
bins_of m = bins_from m 0 places

-- Then one record of kind 2 for each outlet, in number order: its bins; an empty body is an outlet without hoses.
unfoldable pub outlet_records : List ℕ → List ℕ
outlet_records [] = []
outlet_records (m ∷ outlets) = record_of 2 (bins_of m) ++ outlet_records outlets

-- Nothing follows.
unfoldable pub sheet_of : ℕ → List ℕ → ℕ → List ℕ
sheet_of bins outlets k = head_of bins (length outlets) k ++ outlet_records outlets
