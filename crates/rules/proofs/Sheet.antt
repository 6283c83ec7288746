-- Two facts of document 01 about the bytes of a job: the 25 bytes of the rail `three`, and the longest sheet.
use mathlib.Core.Path.{◌≡◌, refl}
use mathlib.Core.Bool.{Bool, true, false}
use mathlib.Core.List.{List, [], ◌∷◌, map}
use Prim.Native.Nat.{ℕ, zero, suc, ◌+◌, ◌*◌, ◌-◌, ◌^◌, ◌≤◌}
use native.Mathlib.Omega.{arith}
use native.Mathlib.Nat.{le_refl}
use lib.Dec.{eqb}
use lib.ListN.{length, length-append, replicate}
use Rattle.rules.specs.Crossing.{bit, set_of, places}
use Rattle.rules.specs.Sum.{every}
use Rattle.rules.specs.Numbers.{first_of, job_checks, too_many_bins, too_many_outlets, bad_budget, stray_hose, stray_hoses}
use Rattle.rules.specs.Sheet.{two, record_of, head_of, bins_from, bins_of, outlet_records, sheet_of}
use Rattle.rules.specs.Starred.{three}
use Rattle.rules.proofs.Checks.{job_fits}

-- The sheet of three with k = 4, in hexadecimal
pub sheet_of_three : sheet_of 4 (map set_of three) 4 ≡ 0x03 ∷ 0x00 ∷ 0x01 ∷ 0x00 ∷ 0x04 ∷ 0x03 ∷ 0x04 ∷ 0x03 ∷ 0x00 ∷ 0x02 ∷ 0x00 ∷ 0x00 ∷ 0x02 ∷ 0x03 ∷ 0x01 ∷ 0x00 ∷ 0x02 ∷ 0x00 ∷ 0x01 ∷ 0x02 ∷ 0x00 ∷ 0x02 ∷ 0x00 ∷ 0x00 ∷ 0x03 ∷ []
unfolding sheet_of head_of outlet_records record_of two bins_of bins_from bit places set_of
sheet_of_three = refl

-- a row of n places has at most n bins
pub bins_from≤ : (m x n : ℕ) → length (bins_from m x n) ≤ n
unfolding bins_from
bins_from≤ m x zero = le_refl 0
bins_from≤ m x (suc n) = go (eqb (bit m x) 1) (bins_from≤ m (suc x) n)
  where
    go : (b : Bool) → length (bins_from m (suc x) n) ≤ n → length {A = ℕ} (elim b as (λ c. List ℕ) [ true ↦ x ∷ bins_from m (suc x) n | false ↦ bins_from m (suc x) n ]) ≤ suc n
    go true h = omega arith
    go false h = omega arith

-- a record is four bytes and its body
pub record_of-length : (kind : ℕ) (body : List ℕ) → length (record_of kind body) ≡ 4 + length body
unfolding record_of two
record_of-length kind body = omega arith

pub outlet_records≤ : (outlets : List ℕ) → length (outlet_records outlets) ≤ length outlets * 68
unfolding outlet_records bins_of places
outlet_records≤ [] = le_refl 0
outlet_records≤ (m ∷ outlets) =
    simp (length-append, record_of-length) (omega (arith, bins_from≤ m 0 64, outlet_records≤ outlets))

pub sheet_of-length : (bins : ℕ) (outlets : List ℕ) (k : ℕ) → length (sheet_of bins outlets k) ≡ 7 + length (outlet_records outlets)
unfolding sheet_of head_of
sheet_of-length bins outlets k = simp (length-append, record_of-length)

-- The longest sheet has 7 + 32 x 68 = 2,183 bytes: no job that passes the checks has a longer one,
pub longest_at_most : (bins : ℕ) (outlets : List ℕ) (k : ℕ) → job_checks bins outlets k ≡ 0 → length (sheet_of bins outlets k) ≤ 2183
longest_at_most bins outlets k e =
    omega
    (arith, sheet_of-length bins outlets k, outlet_records≤ outlets, (job_fits bins outlets k e).outlets32)

-- and 32 outlets on all 64 bins have one so long.
pub longest_reached : (job_checks 64 (replicate 32 (2 ^ 64 - 1)) 30 ≡ 0) × (length (sheet_of 64 (replicate 32 (2 ^ 64 - 1)) 30) ≡ 2183)
unfolding job_checks too_many_bins too_many_outlets bad_budget stray_hoses stray_hose first_of every sheet_of head_of outlet_records record_of two bins_of bins_from bit places
longest_reached = (refl, refl)
