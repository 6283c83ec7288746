-- Rows that come to hold the mask of each outlet, one outlet after the other.
use mathlib.Core.Path.{◌≡◌, refl, ◌∙◌, subst⁻¹}
use mathlib.Core.List.{List}
use Prim.Native.Nat.{ℕ, ◌+◌, ◌^◌, ◌<◌}
use native.Mathlib.Omega.{arith}
use borrow.Author.Count.{below_more}
use lib.ListN.{length, get_or, set, replicate, length-set}
use lib.Seq.{get_or-set_same, get_or-set_other}
use Rattle.rules.specs.Crossing.{Cost}
use Rattle.tables.specs.Tables.{Passed, differ}
use Rattle.tables.proofs.Entries.{set_each, zeros}

-- the masks of the outlets below k, of n
pub record Below (n k : ℕ) (c : Cost) (masks : List ℕ) : Type 0 where
  pub size : length masks ≡ 32
  pub fit : (i : ℕ) → get_or masks i 0 < 2 ^ 32
  pub differing : (u : ℕ) → u < k → Passed (get_or masks u 0) n (differ c u)

-- rows of zeros have none
pub no_masks : (n : ℕ) (c : Cost) → Below n 0 c (replicate 32 0)
no_masks n c =
    record {
      size = refl;
      fit = λ i. let row : get_or (replicate 32 0) i 0 ≡ 0 = zeros 32 i in omega arith;
      differing = λ u l. absurd (omega arith);
    }

-- that of one outlet more
pub more_masks : (n k : ℕ) (c : Cost) (rows : List ℕ) (x : ℕ) → k < 32 → Below n k c rows → x < 2 ^ 32 → Passed x n (differ c k) → Below n (k + 1) c (set rows k x)
more_masks n k c rows x h to hx p =
    record {
      size = length-set rows k x ∙ to.size;
      fit = set_each (λ (m : ℕ). m < 2 ^ 32) rows k x to.fit hx;
      differing =
          below_more (λ (u : ℕ). Passed (get_or (set rows k x) u 0) n (differ c u)) k
          (λ u l. subst⁻¹ (λ (m : ℕ). Passed m n (differ c u)) (get_or-set_other rows k u x 0 (λ e. omega arith)) (to.differing u l))
          (subst⁻¹ (λ (m : ℕ). Passed m n (differ c k)) (get_or-set_same rows k x 0 (omega (arith, to.size))) p);
    }
