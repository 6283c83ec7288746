-- A pair put into the rows of both its outlets, and rows that come to hold the base, pair by pair.
use mathlib.Core.Path.{◌≡◌, sym, ◌∙◌, ap, ap₂, subst⁻¹}
use mathlib.Core.Bool.{true, false}
use mathlib.Core.List.{List}
use Prim.Native.Nat.{ℕ, ◌+◌, ◌*◌, ◌%◌, ◌^◌, ◌≤◌, ◌<◌}
use native.Mathlib.Omega.{arith}
use native.Mathlib.Nat.{mod-lt}
use native.Mathlib.Decide.{ℕ_discrete, dec_lt}
use borrow.Author.Tests.{eq-eqb}
use lib.Bits.{bit_or, or_lt}
use lib.Dec.{eqb}
use lib.ListN.{length, get_or, set, replicate, length-set}
use lib.Pow.{pow_pos}
use lib.Seq.{get_or-set_same, get_or-set_other}
use Rattle.rules.specs.Crossing.{bit}
use Rattle.rules.specs.Rail.{root}
use Rattle.laws.proofs.Tests.{not_passed, never_both}
use Rattle.laws.proofs.Base.{root_strict}
use Rattle.tables.proofs.Entries.{set_each, zeros}
use Rattle.tables.proofs.OutletSets.{with_same, with_other}
use Rattle.hoses.proofs.Bits.{bit-none}
use Rattle.placements.specs.Rows.{reads, Turned, pair_at, Put, BaseTo, BaseOf}

-- rows[i] |= 1 << x
abbrev joined : List ℕ → ℕ → ℕ → List ℕ
joined rows i x = set rows i (bit_or (get_or rows i 0) ((1 * 2 ^ x) % 2 ^ 32))

module _ (rows : List ℕ) (i x : ℕ) (h : x < 32) (l : i < length rows) where
  joined_there : bit (get_or (joined rows i x) i 0) x ≡ 1
  joined_there = ap (λ (m : ℕ). bit m x) (get_or-set_same rows i _ 0 l) ∙ with_same 32 (get_or rows i 0) x h

  joined_other : (j y : ℕ) → (j ≡ i → y ≡ x → ⊥) → bit (get_or (joined rows i x) j 0) y ≡ bit (get_or rows j 0) y
  joined_other j y n =
      elim (ℕ_discrete j i) [
        | yes e ↦
            ap (λ (k : ℕ). bit (get_or (joined rows i x) k 0) y) e ∙ ap (λ (m : ℕ). bit m y) (get_or-set_same rows i _ 0 l)
            ∙ with_other 32 (get_or rows i 0) x h y (n e) ∙ ap (λ (k : ℕ). bit (get_or rows k 0) y) (sym e)
        | no d ↦ ap (λ (m : ℕ). bit m y) (get_or-set_other rows i j _ 0 d)
      ]

  joined_fit : ((j : ℕ) → get_or rows j 0 < 2 ^ 32) → (j : ℕ) → get_or (joined rows i x) j 0 < 2 ^ 32
  joined_fit fit =
      set_each (λ (m : ℕ). m < 2 ^ 32) rows i _ fit (or_lt 32 (get_or rows i 0) _ (fit i) (mod-lt (1 * 2 ^ x) (pow_pos 32)))

-- a stands left of b, in the rows of both
abbrev both_joined : List ℕ → ℕ → ℕ → List ℕ
both_joined rows a b = joined (joined rows (2 * a) b) (2 * b + 1) a

module _ (rows : List ℕ) (a b : ℕ) (ha : a < 32) (hb : b < 32) (size : length rows ≡ 64) where
  first : 2 * a < length rows
  first = omega arith

  second : 2 * b + 1 < length (joined rows (2 * a) b)
  second = simp length-set (omega arith)

  there : bit (get_or (both_joined rows a b) (2 * a) 0) b ≡ 1
  there =
      joined_other (joined rows (2 * a) b) (2 * b + 1) a ha second (2 * a) b (λ e. absurd (omega arith))
      ∙ joined_there rows (2 * a) b hb first

  back : bit (get_or (both_joined rows a b) (2 * b + 1) 0) a ≡ 1
  back = joined_there (joined rows (2 * a) b) (2 * b + 1) a ha second

  right : (u v : ℕ) → (u ≡ a → v ≡ b → ⊥) → bit (get_or (both_joined rows a b) (2 * u) 0) v ≡ bit (get_or rows (2 * u) 0) v
  right u v n =
      joined_other (joined rows (2 * a) b) (2 * b + 1) a ha second (2 * u) v (λ e. absurd (omega arith))
      ∙ joined_other rows (2 * a) b hb first (2 * u) v (λ e. n (omega arith))

  left : (u v : ℕ) → (u ≡ b → v ≡ a → ⊥) → bit (get_or (both_joined rows a b) (2 * u + 1) 0) v ≡ bit (get_or rows (2 * u + 1) 0) v
  left u v n =
      joined_other (joined rows (2 * a) b) (2 * b + 1) a ha second (2 * u + 1) v (λ e. n (omega arith))
      ∙ joined_other rows (2 * a) b hb first (2 * u + 1) v (λ e. absurd (omega arith))

  both_turned : Turned rows → Turned (both_joined rows a b)
  both_turned turned u v =
      elim (ℕ_discrete u b) [
        | yes e ↦
            elim (ℕ_discrete v a) [
              | yes f ↦
                  ap₂ (λ (k m : ℕ). bit (get_or (both_joined rows a b) (2 * k + 1) 0) m) e f ∙ back
                  ∙ sym (ap₂ (λ (k m : ℕ). bit (get_or (both_joined rows a b) (2 * m) 0) k) e f ∙ there)
              | no n ↦ left u v (λ p q. n q) ∙ turned u v ∙ sym (right v u (λ p q. n p))
            ]
        | no n ↦ left u v (λ p q. n p) ∙ turned u v ∙ sym (right v u (λ p q. n q))
      ]

  pub put : Put rows a b (both_joined rows a b)
  unfolding reads
  put =
      record {
        size = length-set (joined rows (2 * a) b) (2 * b + 1) _ ∙ length-set rows (2 * a) _;
        fit = λ fit. joined_fit (joined rows (2 * a) b) (2 * b + 1) a ha second (joined_fit rows (2 * a) b hb first fit);
        turned = both_turned;
        placed = eq-eqb (bit (get_or (both_joined rows a b) (2 * a) 0) b) 1 there;
        kept = λ u v n. ap (λ (m : ℕ). eqb m 1) (right u v n);
      }

-- what holds of the pair of a and b, both ways, holds of every pair at its place
only_pair : (P : ℕ → ℕ → Type 0) (a b : ℕ) → a < 32 → b < 32 → P a b → P b a → (u v : ℕ) → pair_at u v ≡ pair_at a b → P u v
only_pair P a b ha hb here turned u v at =
    elim (ℕ_discrete u a) [
      | yes e ↦ let f : v ≡ b = omega arith in subst⁻¹ (λ (x : ℕ). P x v) e (subst⁻¹ (P a) f here)
      | no n ↦
          let e : u ≡ b = omega arith in
          let f : v ≡ a = omega arith in
          subst⁻¹ (λ (x : ℕ). P x v) e (subst⁻¹ (P b) f turned)
    ]

-- the pairs that the base places, one after the other
module _ (rail : List ℕ) where
  never : (a : ℕ) → root rail a a ≡ false
  never a = not_passed (root rail a a) ((root_strict rail).irreflexive a)

  one_way : (a b : ℕ) → root rail a b ≡ true → root rail b a ≡ false
  one_way a b e = not_passed (root rail b a) (λ f. (root_strict rail).irreflexive a ((root_strict rail).transitive a b a e f))

  pub base-none : (rows : List ℕ) → rows ≡ replicate 64 0 → BaseTo rail 0 rows
  unfolding reads
  base-none rows e =
      let zero : (i : ℕ) → get_or rows i 0 ≡ 0 = λ i. ap (λ (l : List ℕ). get_or l i 0) e ∙ zeros 64 i in
      let bare : (i x : ℕ) → bit (get_or rows i 0) x ≡ 0 = λ i x. ap (λ (m : ℕ). bit m x) (zero i) ∙ bit-none x in
      record {
        size = ap length e;
        fit = λ i. omega (arith, zero i);
        turned = λ u v. bare (2 * u + 1) v ∙ sym (bare (2 * v) u);
        before = λ u v l. absurd (omega arith);
        after = λ u v l. ap (λ (m : ℕ). eqb m 1) (bare (2 * u) v);
      }

  -- pairs that the base leaves open are passed over,
  base_open : (rows : List ℕ) (place later : ℕ) → place ≤ later → ((u v : ℕ) → place ≤ pair_at u v → pair_at u v < later → root rail u v ≡ false)
      → BaseTo rail place rows → BaseTo rail later rows
  base_open rows place later h none to =
      record {
        size = to.size;
        fit = to.fit;
        turned = to.turned;
        before = λ u v l.
            elim (dec_lt (pair_at u v) place) [
              | yes m ↦ to.before u v m
              | no n ↦ to.after u v (omega arith) ∙ sym (none u v (omega arith) l)
            ];
        after = λ u v l. to.after u v (omega arith);
      }

  -- as is that of an outlet with itself,
  pub base-next : (rows : List ℕ) (u : ℕ) → u < 32 → BaseTo rail (32 * u + u) rows → BaseTo rail (32 * (u + 1)) rows
  base-next rows u h to =
      base_open rows (32 * u + u) (32 * (u + 1)) (omega arith)
      (λ a b l m.
      let p : a ≡ u = omega arith in
      let q : b ≡ u = omega arith in
      ap₂ (root rail) p q ∙ never u)
      to

  module _ (rows : List ℕ) (place a b : ℕ) (at : place ≡ pair_at a b) (ha : a < 32) (hb : b < 32) (to : BaseTo rail place rows) where
    pub base_neither : root rail a b ≡ false → root rail b a ≡ false → BaseTo rail (place + 1) rows
    base_neither e d =
        base_open rows place (place + 1) (omega arith)
        (λ u v l m. only_pair (λ x y. root rail x y ≡ false) a b ha hb e d u v (omega arith)) to

    -- and one that it places is put into the rows
    pub base-placed : (a ≡ b → ⊥) → root rail a b ≡ true → (rows' : List ℕ) → Put rows a b rows' → BaseTo rail (place + 1) rows'
    base-placed n e rows' p =
        let turned : reads rows' b a ≡ root rail b a = p.kept b a (λ x y. n y) ∙ to.after b a (omega arith) ∙ sym (one_way a b e) in
        record {
          size = p.size ∙ to.size;
          fit = p.fit to.fit;
          turned = p.turned to.turned;
          before = λ u v l.
              elim (dec_lt (pair_at u v) place) [
                | yes m ↦ p.kept u v (λ x y. absurd (omega arith)) ∙ to.before u v m
                | no o ↦ only_pair (λ x y. reads rows' x y ≡ root rail x y) a b ha hb (p.placed ∙ sym e) turned u v (omega arith)
              ];
          after = λ u v l. p.kept u v (λ x y. absurd (omega arith)) ∙ to.after u v (omega arith);
        }

  -- all pairs of the rail's outlets
  module _ (rows : List ℕ) (h : length rail ≤ 32) (to : BaseTo rail (32 * length rail) rows) where
    among : (u v : ℕ) → reads rows u v ≡ true → pair_at u v < 32 * length rail
    among u v e =
        elim (dec_lt (pair_at u v) (32 * length rail)) [ yes l ↦ l | no n ↦ absurd (never_both e (to.after u v (omega arith))) ]

    placed : (u v : ℕ) → reads rows u v ≡ true → root rail u v ≡ true
    placed u v e = sym (to.before u v (among u v e)) ∙ e

    pub base-all : BaseOf rail rows
    base-all =
        record {
          held =
              record {
                size = to.size;
                fit = to.fit;
                turned = to.turned;
                strict =
                    record {
                      transitive = λ a b c e d.
                          to.before a c (omega (arith, among a b e, among b c d)) ∙ (root_strict rail).transitive a b c (placed a b e) (placed b c d);
                      irreflexive = λ a e. (root_strict rail).irreflexive a (placed a a e);
                    };
              };
          within = record { first = λ u v e. omega (arith, among u v e); second = λ u v e. omega (arith, among u v e) };
          base = λ u v hu hv. to.before u v (omega arith);
        }
