-- The order made from left to right: of a strict relation it is an order of the n outlets, and extends the relation. (It always finds a next outlet:
-- of those not yet standing, one has none of them to stand left of it.) Of any relation at all it has n entries, none above n.
use mathlib.Core.Bool.{Bool, true, false, not, ◌&&◌}
use mathlib.Core.List.{List, ◌∷◌}
use mathlib.Core.Logic.{◌⊎◌, inl, inr}
use mathlib.Core.Path.{◌≡◌, refl, sym, ◌∙◌, ap, subst}
use Prim.Native.Nat.{ℕ, zero, suc, ◌+◌, ◌≤◌, ◌<◌}
use native.Mathlib.Omega.{arith}
use native.Mathlib.Nat.{le_refl}
use native.Mathlib.Decide.{ℕ_discrete}
use borrow.Author.Tests.{eq-eqb, ne_eqb, not-true}
use lib.Dec.{eqb}
use lib.ListN.{length, get_or}
use Rattle.rules.specs.Sum.{sum, every, least, only_if}
use Rattle.rules.specs.Crossing.{Relation, IsOrder, times, stands}
use Rattle.rules.specs.Walk.{next_to_stand, made_from, made}
use Rattle.rules.proofs.Sums.{and_left, and_right, only_if_so, only_if_not, sum_cong, sum_add, sum_ones, sum_term, sum_at}
use Rattle.rules.proofs.Sums.{Last, last_of, least-within, least_below, least_passes, one_more, every_at, every-all}
use Rattle.laws.proofs.Terms.{Strict, Extends}
use Rattle.laws.proofs.Tests.{either, never_both, not_passed, not_so, so_not, and_both}
use Rattle.laws.proofs.Lists.{times_here, times-other}
use Rattle.laws.proofs.Stands.{stands_head, stands_tail}

-- those that stand once o stands too
abbrev joined : (ℕ → Bool) → ℕ → ℕ → Bool
joined standing o u = elim (eqb u o) [ true ↦ true | false ↦ standing u ]

joined_same : (standing : ℕ → Bool) (o u : ℕ) → o ≡ u → joined standing o u ≡ true
joined_same standing o u e = rw (eq-eqb u o (sym e), joined)

joined_other : (standing : ℕ → Bool) (o u : ℕ) → (o ≡ u → ⊥) → joined standing o u ≡ standing u
joined_other standing o u d = rw (ne_eqb u o (λ e. d (sym e)), joined)

-- how many of n do not stand yet
waiting : ℕ → (ℕ → Bool) → ℕ
waiting n standing = sum (λ u. only_if (not (standing u)) 1) n

module _ (n : ℕ) (R : Relation) where
  -- Any relation: n entries,
  from_length : (m : ℕ) (standing : ℕ → Bool) → length (made_from m n R standing) ≡ m
  unfolding made_from
  from_length zero standing = refl
  from_length (suc m) standing = ap suc (from_length m _)

  pub made_length : length (made n R) ≡ n
  unfolding made
  made_length = from_length n (λ u. false)

  -- none above n.
  from_within : (m : ℕ) (standing : ℕ → Bool) (i : ℕ) → get_or (made_from m n R standing) i 0 ≤ n
  unfolding made_from next_to_stand
  from_within zero standing i = omega arith
  from_within (suc m) standing zero = least-within _ n
  from_within (suc m) standing (suc i) = from_within m _ i

  pub made_within : (i : ℕ) → get_or (made n R) i 0 ≤ n
  unfolding made
  made_within i = from_within n (λ u. false) i

  -- o is free to stand next, as far as those below k go: it does not stand yet, and none that does not has to stand left of it
  record Free (k : ℕ) (standing : ℕ → Bool) (o : ℕ) : Type 0 where
    below : o < n
    waits : standing o ≡ false
    first : (u : ℕ) → u < k → standing u ≡ false → R u o ≡ false

  -- a row of all that do not stand yet, as R places them
  record Rest (standing : ℕ → Bool) (l : List ℕ) : Type 0 where
    once : (o : ℕ) → o < n → standing o ≡ false → times o l ≡ 1
    never : (o : ℕ) → standing o ≡ true → times o l ≡ 0
    beyond : (o : ℕ) → n ≤ o → times o l ≡ 0
    placed : (u v : ℕ) → u < n → v < n → standing u ≡ false → standing v ≡ false → R u v ≡ true → stands l u v ≡ true

  module _ (strict : Strict R) (standing : ℕ → Bool) where
    -- Of those that do not stand yet one is free: go through them, and change over to whoever has to stand left of the one in hand.
    keep : (k o : ℕ) → Free k standing o → (standing k ≡ false → R k o ≡ false) → Free (suc k) standing o
    keep k o f e =
        record { below = f.below; waits = f.waits; first = one_more (λ u. standing u ≡ false → R u o ≡ false) k f.first e }

    change : (k o : ℕ) → k < n → Free k standing o → standing k ≡ false → R k o ≡ true → Free (suc k) standing k
    change k o h f w e =
        record {
          below = h;
          waits = w;
          first =
              one_more (λ u. standing u ≡ false → R u k ≡ false) k
              (λ u l v. not_passed (R u k) (λ p. never_both (strict.transitive u k o p e) (f.first u l v)))
              (λ v. not_passed (R k k) (strict.irreflexive k));
        }

    foremost : (x : ℕ) → x < n → standing x ≡ false → (k : ℕ) → k ≤ n → (o : ℕ) × Free k standing o
    foremost x hx wx zero h = (x, record { below = hx; waits = wx; first = λ u l. absurd (omega arith) })
    foremost x hx wx (suc k) h = go (foremost x hx wx k (omega arith)) (either (standing k))
      where
        go : (o : ℕ) × Free k standing o → (standing k ≡ true) ⊎ (standing k ≡ false) → (o : ℕ) × Free (suc k) standing o
        go r (inl e) = (r.0, keep k r.0 r.1 (λ w. absurd (never_both e w)))
        go r (inr w) =
            elim (either (R k r.0))
            [ inl e ↦ (k, change k r.0 h r.1 w e) | inr e ↦ (r.0, keep k r.0 r.1 (λ v. e)) ]

    -- So a next outlet is found.
    free_test : ℕ → Bool
    free_test o = not (standing o) && every (λ u. not (not (standing u) && R u o)) n

    passes_if : (o : ℕ) → Free n standing o → free_test o ≡ true
    unfolding free_test
    passes_if o f =
        and_both (not (standing o)) _ (not_so (standing o) f.waits)
        (every-all _ n (λ u h. not_so (not (standing u) && R u o) (not_passed _ (waits u h))))
      where
        waits : (u : ℕ) → u < n → (not (standing u) && R u o) ≡ true → ⊥
        waits u h e =
            never_both (and_right (not (standing u)) _ e) (f.first u h (not-true (standing u) (and_left (not (standing u)) _ e)))

    free_if : (o : ℕ) → o < n → free_test o ≡ true → Free n standing o
    unfolding free_test
    free_if o h e =
        record {
          below = h;
          waits = not-true (standing o) (and_left (not (standing o)) _ e);
          first = λ u hu w. not_passed (R u o) (λ p. never_both (and_both (not (standing u)) _ (not_so (standing u) w) p) (none u hu));
        }
      where
        none : (u : ℕ) → u < n → (not (standing u) && R u o) ≡ false
        none u hu = not-true (not (standing u) && R u o) (every_at _ n (and_right (not (standing o)) _ e) u hu)

    next : (x : ℕ) → x < n → standing x ≡ false → Free n standing (next_to_stand n R standing)
    unfolding next_to_stand free_test
    next x hx wx =
        let f = foremost x hx wx n (le_refl n) in
        let below : least free_test n < n = least_below free_test n f.0 f.1.below (passes_if f.0 f.1) in
        free_if (least free_test n) below (least_passes free_test n below)

    -- Whoever is free, and a row of those that then do not stand yet, make a row of those that do not stand yet now.
    step : (o : ℕ) (l : List ℕ) → Free n standing o → Rest (joined standing o) l → Rest standing (o ∷ l)
    step o l f rest =
        record {
          once = λ p hp w. once p hp w (ℕ_discrete o p);
          never = λ p w. never p w (λ e. never_both w (ap standing (sym e) ∙ f.waits));
          beyond = λ p h. let b : o < n = f.below in times-other p o l (λ e. omega arith) ∙ rest.beyond p h;
          placed = λ u v hu hv wu wv e. placed u v hu hv wu wv e (ℕ_discrete o u) (ℕ_discrete o v);
        }
      where
        once : (p : ℕ) → p < n → standing p ≡ false → Dec (o ≡ p) → times p (o ∷ l) ≡ 1
        once p hp w (yes e) = times_here p o l e ∙ ap suc (rest.never p (joined_same standing o p e))
        once p hp w (no d) = times-other p o l d ∙ rest.once p hp (joined_other standing o p d ∙ w)

        never : (p : ℕ) → standing p ≡ true → (o ≡ p → ⊥) → times p (o ∷ l) ≡ 0
        never p w d = times-other p o l d ∙ rest.never p (joined_other standing o p d ∙ w)

        placed : (u v : ℕ) → u < n → v < n → standing u ≡ false → standing v ≡ false → R u v ≡ true
            → Dec (o ≡ u) → Dec (o ≡ v) → stands (o ∷ l) u v ≡ true
        placed u v hu hv wu wv e (yes p) (yes q) =
            absurd (strict.irreflexive u (subst (λ (z : ℕ). R u z ≡ true) (sym q ∙ p) e))
        placed u v hu hv wu wv e (yes p) (no q) =
            stands_head o l u v p (omega (arith, rest.once v hv (joined_other standing o v q ∙ wv)))
        placed u v hu hv wu wv e (no p) (yes q) =
            absurd (never_both (subst (λ (z : ℕ). R u z ≡ true) (sym q) e) (f.first u hu wu))
        placed u v hu hv wu wv e (no p) (no q) =
            stands_tail o l u v (rest.placed u v hu hv (joined_other standing o u p ∙ wu) (joined_other standing o v q ∙ wv) e)

  -- One that comes to stand is one less that waits.
  one_less : (standing : ℕ → Bool) (o : ℕ) → o < n → standing o ≡ false → suc (waiting n (joined standing o)) ≡ waiting n standing
  unfolding waiting
  one_less standing o h w =
      omega (
        arith,
        sum_at (λ u. 1) n o h,
        sum_add (λ u. only_if (eqb o u) 1) (λ u. only_if (not (joined standing o u)) 1) n,
        sum_cong (λ u. only_if (not (standing u)) 1) (λ u. only_if (eqb o u) 1 + only_if (not (joined standing o u)) 1) n
            (λ u k. one u (ℕ_discrete o u)),
      )
    where
      one : (u : ℕ) → Dec (o ≡ u) → only_if (not (standing u)) 1 ≡ only_if (eqb o u) 1 + only_if (not (joined standing o u)) 1
      one u (yes e) =
          omega (
            arith,
            only_if_so 1 (eq-eqb o u e),
            only_if_so 1 (not_so (standing u) (ap standing (sym e) ∙ w)),
            only_if_not 1 (so_not (joined standing o u) (joined_same standing o u e)),
          )
      one u (no d) =
          omega (arith, only_if_not 1 (ne_eqb o u d), ap (λ (t : Bool). only_if (not t) 1) (joined_other standing o u d))

  -- Where m wait, m more make a row of them.
  from_rest : Strict R → (m : ℕ) (standing : ℕ → Bool) → waiting n standing ≡ m → Rest standing (made_from m n R standing)
  unfolding made_from times waiting
  from_rest strict zero standing count =
      record {
        once = λ o h w. absurd (none o h w);
        never = λ o w. refl;
        beyond = λ o h. refl;
        placed = λ u v hu hv wu wv e. absurd (none u hu wu);
      }
    where
      none : (o : ℕ) → o < n → standing o ≡ false → ⊥
      none o h w = omega (arith, sum_term (λ u. only_if (not (standing u)) 1) n o h, only_if_so 1 (not_so (standing o) w))
  from_rest strict (suc m) standing count =
      let o : ℕ = next_to_stand n R standing in
      let free : Free n standing o = found (last_of (λ u. only_if (not (standing u)) 1) n (omega arith)) in
      step strict standing o _ free
      (from_rest strict m (joined standing o) (omega (arith, one_less standing o free.below free.waits)))
    where
      found : Last (λ u. only_if (not (standing u)) 1) n → Free n standing (next_to_stand n R standing)
      found r =
          next strict standing r.at r.below
          (not_passed (standing r.at) (λ e. omega (arith, r.some, only_if_not 1 (so_not (standing r.at) e))))

  whole : Strict R → Rest (λ u. false) (made n R)
  unfolding made waiting
  whole strict = from_rest strict n (λ u. false) (sum_ones (λ u. only_if (not false) 1) n (λ u h. only_if_so 1 refl))

  -- The order made of a strict relation is an order of the outlets,
  pub made_order : Strict R → IsOrder n (made n R)
  made_order strict = record { once = λ o h. (whole strict).once o h refl; nothing_else = λ o h. (whole strict).beyond o h }

  -- and extends the relation.
  pub made_extends : Strict R → Extends n R (made n R)
  made_extends strict = record { stood = λ u v hu hv e. (whole strict).placed u v hu hv refl refl e }
