-- Rows copied as two halves, an entry of each at a time.
use mathlib.Core.List.{List}
use mathlib.Core.Path.{◌≡◌, ◌∙◌, ap, sym}
use Prim.Native.Nat.{ℕ, ◌+◌, ◌%◌, ◌<◌}
use native.Mathlib.Omega.{arith}
use native.Mathlib.Decide.{ℕ_discrete}
use lib.ListN.{length, get_or, set, length-set}
use lib.Seq.{get_or-set_same, get_or-set_other, ext_get_or}

-- the first i entries of each half are as in the rows
abbrev pub CopiedTo : List ℕ → ℕ → List ℕ → Type 0
CopiedTo rows i copy = (j : ℕ) → j < 64 → j % 32 < i → get_or copy j 0 ≡ get_or rows j 0

-- one entry of each half
abbrev pub copied_at : List ℕ → ℕ → List ℕ → List ℕ
copied_at rows i copy = set (set copy i (get_or rows i 0)) (i + 32) (get_or rows (i + 32) 0)

pub copied_more : (rows : List ℕ) (i : ℕ) (copy : List ℕ) → i < 32 → length copy ≡ 64 → CopiedTo rows i copy → CopiedTo rows (i + 1) (copied_at rows i copy)
copied_more rows i copy h size before j hj l =
    elim (ℕ_discrete j (i + 32)) [
      | yes e ↦
          ap (λ (k : ℕ). get_or (copied_at rows i copy) k 0) e
          ∙ get_or-set_same (set copy i (get_or rows i 0)) (i + 32) _ 0 (omega (arith, length-set copy i (get_or rows i 0)))
          ∙ ap (λ (k : ℕ). get_or rows k 0) (sym e)
      | no d ↦ get_or-set_other (set copy i (get_or rows i 0)) (i + 32) j _ 0 d ∙ first d (ℕ_discrete j i)
    ]
  where
    first : (j ≡ i + 32 → ⊥) → Dec (j ≡ i) → get_or (set copy i (get_or rows i 0)) j 0 ≡ get_or rows j 0
    first d (yes e) =
        ap (λ (k : ℕ). get_or (set copy i (get_or rows i 0)) k 0) e ∙ get_or-set_same copy i _ 0 (omega arith) ∙ ap (λ (k : ℕ). get_or rows k 0) (sym e)
    first d (no o) = get_or-set_other copy i j _ 0 o ∙ before j hj (omega arith)

-- all 32 of each half are all rows
pub copied_all : (rows copy : List ℕ) → length rows ≡ 64 → length copy ≡ 64 → CopiedTo rows 32 copy → copy ≡ rows
copied_all rows copy size size' done = ext_get_or 0 copy rows (size' ∙ sym size) (λ j l. done j (omega arith) (omega arith))
