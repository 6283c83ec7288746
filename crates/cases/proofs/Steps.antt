-- The steps of a case, as code takes them: each answer tells the outcome that the walk of the rules has there.
use mathlib.Core.Bool.{Bool, true, false, true≢false}
use mathlib.Core.List.{List}
use mathlib.Core.Path.{◌≡◌, refl, sym, ◌∙◌, ap}
use Prim.Native.Nat.{ℕ, zero, suc, ◌+◌, ◌-◌, ◌^◌, ◌≤◌, ◌<◌}
use native.Mathlib.Omega.{arith}
use borrow.Author.Tests.{ltb-true, lt-ltb, le-ltb}
use lib.Dec.{ltb}
use Rattle.rules.specs.Crossing.{Relation, Cost}
use Rattle.rules.specs.Placement.{place, price}
use Rattle.rules.specs.Walk.{End, found, nothing, Outcome, unopened, counted, or_else, unplaced, made, differs, partner, chosen, settled, trial, both_ways, tried, branched, opened}
use Rattle.rules.proofs.Sums.{and_left, and_right, least_passes}
use Rattle.laws.proofs.Placing.{unplaced_if, unplaced_not, unplaced_back, paid_placed, price_pair}
use Rattle.laws.proofs.Choice.{reach_opens, reach_not, settled-found, settled_not, or_else_first, or_else_other}
use Rattle.laws.proofs.Leaf.{leaf}
use Rattle.laws.proofs.Bound.{bound, grows, values}
use Rattle.tables.specs.Tables.{cost_in}
use Rattle.tables.specs.declared.Tables.{Tables}
use Rattle.placements.specs.Rows.{reads, Rows, Unplaced, Brings, PlacedIn, Within, Priced, ChosenIn, PartnerIn, EqualWithin}
use Rattle.placements.proofs.Reading.{within_placed}
use Rattle.placements.proofs.Choosing.{before-chosen, placed_alone}
use Rattle.cases.specs.Case.{outlets_of, cost_of, Case, CaseOf, Cheaper, as_numbered, turned, has_order, Tells, Opened, Settled, Tried, Trial, PriceWithin, PriceBeyond, LeafIn}

-- ---- outcomes told

-- an order was found exactly where it is said,
pub found_so : (o : Outcome) → has_order o.end ≡ true → (l : List ℕ) × (o.end ≡ found l)
unfolding has_order
found_so o h = go o.end refl
  where
    go : (e : End) → o.end ≡ e → (l : List ℕ) × (o.end ≡ found l)
    go (found l) e = (l, e)
    go nothing e = absurd (true≢false (sym h ∙ ap has_order e))

pub nothing_so : (o : Outcome) → has_order o.end ≡ false → o.end ≡ nothing
unfolding has_order
nothing_so o h = go o.end refl
  where
    go : (e : End) → o.end ≡ e → o.end ≡ nothing
    go (found l) e = absurd (true≢false (sym (ap has_order e) ∙ h))
    go nothing e = e

not_found : {l : List ℕ} → nothing ≡ found l → ⊥
not_found e = let z : ◌≡◌ {A = ℕ} 0 1 = cc in omega arith

module _ (T : Tables) where
  -- a case that is not opened
  pub tells_unopened : (room : List ℕ) → Tells T unopened 0 false room
  unfolding has_order
  tells_unopened room = record { count = refl; found_one = refl; rows = λ l e. absurd (not_found e) }

  -- one case that finds nothing
  pub tells_leaf : (room : List ℕ) → Tells T (record { cases = 1; end = nothing }) 1 false room
  unfolding has_order
  tells_leaf room = record { count = refl; found_one = refl; rows = λ l e. absurd (not_found e) }

  -- The first way found an order: the other way is not tried.
  pub tells_first : (first other : Outcome) (cases : ℕ) (room : List ℕ) → Tells T first cases true room → Tells T (counted (or_else first other)) (cases + 1) true room
  unfolding has_order
  tells_first first other cases room told =
      let f : (l : List ℕ) × (first.end ≡ found l) = found_so first (sym told.found_one) in
      let e : or_else first other ≡ record { cases = first.cases; end = found f.0 } = or_else_first first other f.0 f.1 in
      record {
        count = omega (arith, told.count, ap (λ (o : Outcome). o.cases) e);
        found_one = sym (ap (λ (o : Outcome). has_order o.end) e);
        rows = λ l h. told.rows l (f.1 ∙ sym (ap (λ (o : Outcome). o.end) e) ∙ h);
      }

  -- The first way found nothing: the other way's outcome is what the two come to.
  pub tells_other : (first other : Outcome) (i j : ℕ) (some : Bool) (room room' : List ℕ) → Tells T first i false room → Tells T other j some room' → Tells T (counted (or_else first other)) (i + 1 + j) some room'
  tells_other first other i j some room room' told told' =
      let none : first.end ≡ nothing = nothing_so first (sym told.found_one) in
      let e : or_else first other ≡ record { cases = first.cases + other.cases; end = other.end } = or_else_other first other none in
      record {
        count = omega (arith, told.count, told'.count, ap (λ (o : Outcome). o.cases) e);
        found_one = told'.found_one ∙ sym (ap (λ (o : Outcome). has_order o.end) e);
        rows = λ l h. told'.rows l (sym (ap (λ (o : Outcome). o.end) e) ∙ h);
      }

-- ---- the next case

-- The count of an opened case is far below what a number holds.
pub small : (T : Tables) (rows : List ℕ) (from rest : ℕ) → Case T rows from rest → (cases : ℕ) (some : Bool) (room : List ℕ) → Opened T rows rest cases some room → cases < 2 ^ 22
small T rows from rest k cases some room o =
    omega
    (arith, (o.tells (suc rest) (omega arith)).count, bound (outlets_of T) (cost_of T) (suc rest) (reads rows) rest k.paid, grows (rest + 3) 33 (omega (arith, k.little)), values.5)

module _ (T : Tables) (rows : List ℕ) (from a b rest : ℕ) (k : CaseOf T rows from a b rest) where
  abbrev n : ℕ
  n = outlets_of T

  abbrev c : Cost
  c = cost_of T

  abbrev R : Relation
  R = reads rows

  -- the pair is as unplaced the other way round
  pub other_way : CaseOf T rows from b a rest
  other_way =
      record {
        opened = k.opened;
        first = k.second;
        second = k.first;
        unplaced = record { first = k.unplaced.second; second = k.unplaced.first; different = λ e. k.unplaced.different (sym e); ahead = k.unplaced.behind; behind = k.unplaced.ahead };
      }

  -- a placement costs at least 1
  pub price_at_least : 1 ≤ price n c R (place R a b)
  price_at_least =
      omega
      (arith, price_pair n c R a b k.first k.second k.unplaced.ahead, k.opened.paid.at_least_one a b k.first k.second k.unplaced.different (unplaced_if R a b k.unplaced.ahead k.unplaced.behind))

  -- What a placement leaves is a case again.
  module _ (next : List ℕ) (placed : PlacedIn rows a b next) (rest' : ℕ) (less : rest' ≤ rest) where
    pub next_case : Case T next from rest'
    next_case =
        record {
          little = omega (arith, k.opened.little);
          held = placed.held;
          within = within_placed n rows a b next k.opened.within k.first k.second placed;
          paid = rw placed.relation (paid_placed n c R a b k.opened.paid);
          passed = k.opened.passed;
          none = λ i l. rw placed.relation (placed_alone n c R a b i (k.opened.none i l));
        }

  module _ {cost left right : ℕ} (p : PriceWithin T.costs.now.pairs rows a b rest cost left right) where
    priced : cost ≡ price n c R (place R a b)
    priced = p.exact n T.costs.now.few k.opened.within k.first k.second

    -- What is paid is at least 1, so that the rest falls.
    pub falls : rest - cost < rest
    falls = omega (arith, price_at_least, priced, p.enough)

    -- A trial opens the next case where its price is within the rest,
    reaches : (m : ℕ) → trial n c (opened n c m) R rest a b ≡ opened n c m (place R a b) (rest - cost)
    unfolding trial
    reaches m =
        reach_opens n c (opened n c m) (place R a b) (price n c R (place R a b)) rest (omega (arith, priced, p.enough))
        ∙ ap (λ (x : ℕ). opened n c m (place R a b) (rest - x)) (sym priced)

    pub trial_opens : (next : List ℕ) → PlacedIn rows a b next → (cases : ℕ) (some : Bool) (room : List ℕ) → Opened T next (rest - cost) cases some room
        → Trial T rows a b rest cases some room
    trial_opens next placed cases some room o =
        record {
          tells = λ m h. rw (reaches m, ← placed.relation) (o.tells m (omega (arith, falls)));
          small = small T next from (rest - cost) (next_case next placed (rest - cost) (omega arith)) cases some room o;
        }

    -- which need not be opened where it is a leaf of the walk,
    pub trial_leaf : LeafIn T rows rest cost left right true → (room : List ℕ) → Trial T rows a b rest 1 false room
    trial_leaf l room =
        let q = l.some.leaves refl a b p.brings in
        let none : rest - cost ≡ 0 = omega (arith, l.all refl) in
        record {
          tells =
              λ m h.
              rw (reaches m, none, leaf n c (place R a b) (paid_placed n c R a b k.opened.paid) q.u q.v q.pair m (omega (arith, falls)))
              (tells_leaf T room);
          small = omega arith;
        }

  -- and else does not.
  pub trial_not : PriceBeyond T.costs.now.pairs rows a b rest → (room : List ℕ) → Trial T rows a b rest 0 false room
  unfolding trial
  trial_not p room =
      record {
        tells =
            λ m h.
            rw (reach_not n c (opened n c m) (place R a b) (price n c R (place R a b)) rest (p.more n T.costs.now.few k.opened.within k.first k.second))
            (tells_unopened T room);
        small = omega arith;
      }

-- ---- an opened case

module _ (T : Tables) (rows : List ℕ) (from rest : ℕ) (k : Case T rows from rest) where
  abbrev N : ℕ
  N = outlets_of T

  abbrev C : Cost
  C = cost_of T

  abbrev S : Relation
  S = reads rows

  -- The pair that it takes is an unplaced pair, and no outlet before its first is of such a pair.
  taken_pair : chosen N C S < N → CaseOf T rows (chosen N C S) (chosen N C S) (partner N C S (chosen N C S)) rest
  unfolding chosen partner differs
  taken_pair h =
      let a : ℕ = chosen N C S in
      let b : ℕ = partner N C S a in
      let hb : b < N = ltb-true b N (least_passes (λ u. ltb (partner N C S u) N) N h) in
      let d : differs N C S a b ≡ true = least_passes (differs N C S a) N hb in
      let less : a < b = ltb-true a b (and_left (ltb a b) _ d) in
      let free : unplaced S a b ≡ true = and_left (unplaced S a b) _ (and_right (ltb a b) _ d) in
      record {
        opened =
            record {
              little = k.little;
              held = k.held;
              within = k.within;
              paid = k.paid;
              passed = omega arith;
              none = before-chosen N C S;
            };
        first = h;
        second = hb;
        unplaced = record { first = omega (arith, T.costs.now.few); second = omega (arith, T.costs.now.few); different = omega arith; ahead = unplaced_not S a b free; behind = unplaced_not S b a (unplaced_back S a b free) };
      }

  tries : (x y : ℕ) → ((opens : Relation → ℕ → Outcome) → branched N C opens S rest ≡ both_ways N C opens S rest x y)
      → (cases : ℕ) (some : Bool) (room : List ℕ) → Tried T rows x y rest cases some room → Opened T rows rest cases some room
  unfolding opened
  tries x y goes cases some room u = record { tells = λ m l. go m l }
    where
      go : (m : ℕ) → rest < m → Tells T (opened N C m S rest) cases some room
      go zero l = absurd (omega arith)
      go (suc m) l = rw (goes (opened N C m)) (u.tells m (omega arith))

  -- What code finds of the pair is what the rules choose.
  pub chosen_is : (a : ℕ) → ChosenIn N T.masks.now rows from a → a ≡ chosen N C S
  chosen_is a f = f.chosen C T.held k.none

  module _ (a b : ℕ) (f : ChosenIn N T.masks.now rows from a) (h : a < N) (g : PartnerIn T.masks.now rows a b) where
    below : chosen N C S < N
    below = omega (arith, chosen_is a f)

    partner_is : b ≡ partner N C S a
    unfolding chosen
    partner_is =
        g.partner N C T.costs.now.few T.held h
        (rw (chosen_is a f) (ltb-true (partner N C S (chosen N C S)) N (least_passes (λ u. ltb (partner N C S u) N) N below)))

    pub taken : CaseOf T rows a a b rest
    taken = rw (partner_is, chosen_is a f) (taken_pair below)

    -- An opened case tries both ways of that pair, the cheaper way first,
    goes_on : (opens : Relation → ℕ → Outcome) → branched N C opens S rest ≡ tried N C opens S rest a b
    unfolding branched
    goes_on opens = rw (lt-ltb (chosen N C S) N below, branched, partner_is, chosen_is a f)

    pub tries_cheaper : (x y : ℕ) → Cheaper C a b x y → (cases : ℕ) (some : Bool) (room : List ℕ) → Tried T rows x y rest cases some room → Opened T rows rest cases some room
    unfolding tried
    tries_cheaper x y (as_numbered t) = tries a b (λ opens. goes_on opens ∙ rw (t, tried))
    tries_cheaper x y (turned t) = tries b a (λ opens. goes_on opens ∙ rw (t, tried))

    pub cheaper_taken : (x y : ℕ) → Cheaper C a b x y → CaseOf T rows a x y rest
    cheaper_taken x y (as_numbered t) = taken
    cheaper_taken x y (turned t) = other_way T rows a a b rest taken

  -- or settles.
  pub settles : chosen N C S ≡ N → (cases : ℕ) (some : Bool) (room : List ℕ) → Settled T rows rest cases some room → Opened T rows rest cases some room
  unfolding opened branched
  settles e cases some room s = record { tells = λ m h. go m h }
    where
      one : (m : ℕ) → branched N C (opened N C m) S rest ≡ settled N C S rest
      one m = rw (le-ltb (chosen N C S) N (omega arith), branched)

      go : (m : ℕ) → rest < m → Tells T (opened N C m S rest) cases some room
      go zero h = absurd (omega arith)
      go (suc m) h = rw (one m) s.tells

-- ---- settling

module _ (T : Tables) (rows : List ℕ) (rest paid : ℕ) (e : EqualWithin (outlets_of T) rows (cost_of T) rest paid) where
  -- The equal costs are within the rest: the order that the rows make is found,
  pub tells_settled : Rows rows → Within (outlets_of T) rows → chosen (outlets_of T) (cost_of T) (reads rows) ≡ outlets_of T → paid ≤ rest → Settled T rows rest 1 true rows
  unfolding has_order
  tells_settled held within none h =
      let e = settled-found (outlets_of T) (cost_of T) (reads rows) rest (omega (arith, e.within h)) in
      record {
        tells =
            record {
              count = omega (arith, ap (λ (o : Outcome). o.cases) e);
              found_one = sym (ap (λ (o : Outcome). has_order o.end) e);
              rows = λ l f. record { held = held; within = within; settled = none; made = let same : found l ≡ found (made (outlets_of T) (reads rows)) = sym f ∙ ap (λ (o : Outcome). o.end) e in cc };
            };
      }

  -- or are not: nothing is.
  pub tells_not_settled : (room : List ℕ) → rest < paid → Settled T rows rest 1 false room
  unfolding has_order
  tells_not_settled room h =
      let e = settled_not (outlets_of T) (cost_of T) (reads rows) rest (e.beyond h) in
      record {
        tells =
            record {
              count = omega (arith, ap (λ (o : Outcome). o.cases) e);
              found_one = sym (ap (λ (o : Outcome). has_order o.end) e);
              rows = λ l f. absurd (not_found (sym (ap (λ (o : Outcome). o.end) e) ∙ f));
            };
      }

-- ---- the price

module _ (costs rows : List ℕ) (a b rest : ℕ) (free : Unplaced rows a b) where
  -- the pair alone is beyond the rest
  pub pair_beyond : rest < cost_in costs a b → PriceBeyond costs rows a b rest
  pair_beyond h = record { more = λ n few w ha hb. omega (arith, price_pair n (cost_in costs) (reads rows) a b ha hb free.ahead) }

  module _ {cost left right : ℕ} (p : Brings rows a b left right × Priced rows (cost_in costs) a b cost) where
    pub price_within : cost ≤ rest → PriceWithin costs rows a b rest cost left right
    price_within h = record { enough = h; exact = p.1.priced; brings = p.0 }

    pub price_beyond : rest < cost → PriceBeyond costs rows a b rest
    price_beyond h = record { more = λ n few w ha hb. omega (arith, p.1.priced n few w ha hb) }

-- rows copied and placed are rows placed
pub placed_copy : {rows copy next : List ℕ} {a b left right : ℕ} → copy ≡ rows → Brings rows a b left right
    → ((x y : ℕ) → Brings copy x y left right → PlacedIn copy x y next) → PlacedIn rows a b next
placed_copy {rows} {copy} {next} {a} {b} {left} {right} same brings places =
    let copied : Brings copy a b left right = rw same brings in
    rw same at (places a b copied)

-- ---- both ways

-- What the first way comes to: the case itself is counted, and the trial's outcome told.
pub record First (T : Tables) (rows : List ℕ) (a b rest total : ℕ) (some : Bool) (room : List ℕ) : Type 0 where
  pub told : ℕ
  pub counts : total ≡ told + 1
  pub trial : Trial T rows a b rest told some room

-- It opens a case that is known for a leaf, it opens another case, or it opens none.
module _ {T : Tables} {rows : List ℕ} {from a b rest total : ℕ} {room end : List ℕ} (k : CaseOf T rows from a b rest) where
  module _ {cost left right : ℕ} (p : PriceWithin T.costs.now.pairs rows a b rest cost left right) where
    pub first_leaf : {answer : Bool} → answer ≡ true → LeafIn T rows rest cost left right answer → total ≡ 2 → end ≡ room
        → First T rows a b rest total false end
    first_leaf told waits t e =
        rw (t, e) (record { told = 1; counts = refl; trial = trial_leaf _ _ _ _ _ _ k p (rw told at waits) _ })

    pub first_opens : {cases : ℕ} {some : Bool} → Trial T rows a b rest cases some room → total ≡ cases + 1 → end ≡ room
        → First T rows a b rest total some end
    first_opens way t e = rw (t, e) (record { told = _; counts = refl; trial = way })

  pub first_none : PriceBeyond T.costs.now.pairs rows a b rest → total ≡ 1 → end ≡ room → First T rows a b rest total false end
  first_none beyond t e = rw (t, e) (record { told = 0; counts = refl; trial = trial_not _ _ _ _ _ _ k beyond _ })

module _ (T : Tables) (rows : List ℕ) (a b rest : ℕ) where
  abbrev way : ℕ → ℕ → ℕ → Outcome
  way m x y = trial (outlets_of T) (cost_of T) (opened (outlets_of T) (cost_of T) m) (reads rows) rest x y

  -- An order was found the first way,
  pub tried_first : (cases : ℕ) (room : List ℕ) → Trial T rows a b rest cases true room → Tried T rows a b rest (cases + 1) true room
  unfolding both_ways
  tried_first cases room o = record { tells = λ m h. tells_first T (way m a b) (way m b a) cases room (o.tells m h) }

  -- or what the other way comes to.
  pub tried_other : (i j : ℕ) (some : Bool) (room room' : List ℕ) → Trial T rows a b rest i false room → Trial T rows b a rest j some room'
      → Tried T rows a b rest (i + 1 + j) some room'
  unfolding both_ways
  tried_other i j some room room' o o' =
      record { tells = λ m h. tells_other T (way m a b) (way m b a) i j some room room' (o.tells m h) (o'.tells m h) }
