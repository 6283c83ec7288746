-- An entry of the table of costs: written, and kept where another is written. So an outlet's costs come to stand beside those that are there.
use mathlib.Core.Path.{◌≡◌, refl, ◌∙◌, subst⁻¹}
use mathlib.Core.List.{List, [], ◌∷◌}
use Prim.Native.Nat.{ℕ, zero, suc, ◌+◌, ◌*◌, ◌≤◌, zero-le, ◌<◌}
use native.Mathlib.Omega.{arith}
use native.Mathlib.Decide.{dec_lt}
use borrow.Author.Count.{below_more}
use lib.ListN.{length, get_or, set, replicate, length-set}
use lib.Seq.{get_or-set_same, get_or-set_other}
use Rattle.rules.specs.Rail.{cost}
use Rattle.tables.specs.Tables.{cost_in, Costs, Beside}

-- what holds of every number of a list holds of them after a store of such a number
pub set_each : (P : ℕ → Type 0) (l : List ℕ) (i x : ℕ) → ((j : ℕ) → P (get_or l j 0)) → P x → (j : ℕ) → P (get_or (set l i x) j 0)
set_each P [] i x h hx j = h j
set_each P (a ∷ l) zero x h hx zero = hx
set_each P (a ∷ l) zero x h hx (suc j) = h (suc j)
set_each P (a ∷ l) (suc i) x h hx zero = h 0
set_each P (a ∷ l) (suc i) x h hx (suc j) = set_each P l i x (λ k. h (suc k)) hx j

-- a list of zeros
pub zeros : (n i : ℕ) → ◌≡◌ {A = ℕ} (get_or (replicate n 0) i 0) 0
zeros zero i = refl
zeros (suc n) zero = refl
zeros (suc n) (suc i) = zeros n i

-- a table of zeros is one that costs can be written into
pub fresh : Costs (replicate 1024 0)
fresh = record { size = refl; most = λ i. subst⁻¹ (λ (k : ℕ). k ≤ 2016) (zeros 1024 i) (zero-le) }

module _ (t : List ℕ) (u v x : ℕ) where
  written : length t ≡ 1024 → u < 32 → v < 32 → cost_in (set t (32 * u + v) x) u v ≡ x
  unfolding cost_in
  written e hu hv = get_or-set_same t (32 * u + v) x 0 (omega arith)

  kept : (i j : ℕ) → j < 32 → v < 32 → (i ≡ u → j ≡ v → ⊥) → cost_in (set t (32 * u + v) x) i j ≡ cost_in t i j
  unfolding cost_in
  kept i j hj hv other =
      get_or-set_other t (32 * u + v) (32 * i + j) x 0 (λ e. other (omega arith) (omega arith))

  stored : Costs t → x ≤ 2016 → Costs (set t (32 * u + v) x)
  stored c h =
      record {
        size = length-set t (32 * u + v) x ∙ c.size;
        most = set_each (λ (k : ℕ). k ≤ 2016) t (32 * u + v) x c.most h;
      }

kept_both : (t : List ℕ) (u k x y : ℕ) → u < 32 → k < 32 → (i j : ℕ) → j < 32 → (i ≡ k → j ≡ u → ⊥) → (i ≡ u → j ≡ k → ⊥)
    → cost_in (set (set t (32 * u + k) x) (32 * k + u) y) i j ≡ cost_in t i j
kept_both t u k x y hu hk i j hj p q = kept (set t (32 * u + k) x) k u y i j hj hu p ∙ kept t u k x i j hj hk q

module _ (rail : List ℕ) (u : ℕ) (hu : u < 32) where
  -- first its cost beside itself,
  pub beside_own : (t : List ℕ) (x : ℕ) → Costs t → x ≡ cost rail u u → x ≤ 2016 → Beside rail t u 0 (set t (32 * u + u) x)
  beside_own t x c e h =
      record {
        table = stored t u u x c h;
        own = written t u u x c.size hu hu ∙ e;
        left = λ v l. absurd (omega arith);
        right = λ v l. absurd (omega arith);
        kept = λ v w l m. kept t u u x v w (omega arith) hu (λ p q. absurd (omega arith));
      }

  -- then both ways beside one outlet more
  pub beside_more : (before t : List ℕ) (k x y : ℕ) → k < u → Beside rail before u k t
      → x ≡ cost rail u k → x ≤ 2016 → y ≡ cost rail k u → y ≤ 2016
      → Beside rail before u (k + 1) (set (set t (32 * u + k) x) (32 * k + u) y)
  beside_more before t k x y hk b ex hx ey hy =
      let one : Costs (set t (32 * u + k) x) = stored t u k x b.table hx in
      let low : k < 32 = omega arith in
      let still = kept_both t u k x y hu low in
      record {
        table = stored (set t (32 * u + k) x) k u y one hy;
        own = still u u hu (λ p q. absurd (omega arith)) (λ p q. absurd (omega arith)) ∙ b.own;
        left =
            below_more _ k
            (λ v l. still u v (omega arith) (λ p q. absurd (omega arith)) (λ p q. absurd (omega arith)) ∙ b.left v l)
            (kept (set t (32 * u + k) x) k u y u k (omega arith) hu (λ p q. absurd (omega arith)) ∙ written t u k x b.table.size hu (omega arith) ∙ ex);
        right =
            below_more _ k
            (λ v l. still v u hu (λ p q. absurd (omega arith)) (λ p q. absurd (omega arith)) ∙ b.right v l)
            (written (set t (32 * u + k) x) k u y one.size (omega arith) hu ∙ ey);
        kept = λ v w l m. still v w (omega arith) (λ p q. absurd (omega arith)) (λ p q. absurd (omega arith)) ∙ b.kept v w l m;
      }

-- and where the table held the costs of the outlets before u, it now holds those up to u
pub beside_all : (rail before after : List ℕ) (u : ℕ)
    → ((v w : ℕ) → v < u → w < u → cost_in before v w ≡ cost rail v w) → Beside rail before u u after
    → (v w : ℕ) → v < u + 1 → w < u + 1 → cost_in after v w ≡ cost rail v w
beside_all rail before after u h b v w hv hw =
    elim (dec_lt v u) [
      | yes lv ↦
          elim (dec_lt w u) [
            | yes lw ↦ b.kept v w lv lw ∙ h v w lv lw
            | no nw ↦ same w u (omega arith) (λ (k : ℕ). cost_in after v k ≡ cost rail v k) (b.right v lv)
          ]
      | no nv ↦
          same v u (omega arith) (λ (k : ℕ). cost_in after k w ≡ cost rail k w)
          (elim (dec_lt w u) [
            | yes lw ↦ b.left w lw
            | no nw ↦ same w u (omega arith) (λ (k : ℕ). cost_in after u k ≡ cost rail u k) b.own
          ])
    ]
  where
    same : (x y : ℕ) → x ≡ y → (P : ℕ → Type 0) → P y → P x
    same x y e P p = subst⁻¹ P e p
