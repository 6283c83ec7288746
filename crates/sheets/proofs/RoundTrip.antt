-- The round trips (demand 2: a sheet written and read again is the same job; a sheet taken and written again is the same bytes),
-- over the rules' definitions, for every job and every row of bytes.
use mathlib.Core.Path.{◌≡◌, refl, sym, ◌∙◌, ap, ap₂}
use mathlib.Core.Bool.{Bool, true, false, ◌||◌, false≢true}
use mathlib.Core.List.{List, [], ◌∷◌, ◌++◌, append_assoc, append-nil}
use Prim.Native.Nat.{ℕ, zero, suc, ◌+◌, ◌*◌, ◌/◌, ◌%◌, ◌^◌, ◌≤◌, ◌<◌}
use native.Mathlib.Omega.{arith}
use native.Mathlib.Numerals.{add-one}
use lib.Dec.{ltb}
use lib.ListN.{length, get_or, take, drop, length-append, take-append-drop, length-drop, drop_of_length-le}
use lib.Seq.{get_or-append-add, drop-cons, drop-drop, drop-append-add, take-append_seam, length-take-le}
use borrow.Author.Tests.{le-ltb, ltb-false}
use Rattle.rules.specs.Crossing.{set_of}
use Rattle.rules.specs.Numbers.{first_of, too_many_bins, too_many_outlets, stray_hose, stray_hoses, job_checks}
use Rattle.rules.specs.Sheet.{two, record_of, head_of, bins_of, outlet_records, sheet_of}
use Rattle.rules.specs.Next.{two_at, length_at, kind_at, body_at, after, bad_length, record_checks}
use Rattle.rules.specs.Read.{head_bins, head_outlets, head_budget, head_numbers, head_checks, entry_checks, outlet_checks, outlets_checks, outlets_end, outlet_sets, sheet_checks, sheet_end, sheet_sets, read_checks, SheetRead}
use Rattle.rules.proofs.Checks.{JobFits, job_fits, first-none}
use Rattle.rules.proofs.Read.{then_later, then-passed}
use Rattle.rules.proofs.Sheet.{record_of-length}
use Rattle.sheets.proofs.RecordLaws.{whole, is_whole, head_length, outlet_length, head_is_three}
use Rattle.sheets.proofs.HeadLaws.{good_head, is_good_head}
use Rattle.sheets.proofs.ReadLaws.{length-outlet_sets}
use Rattle.sheets.proofs.BinLaws.{as_many_bins, at_most64}
use Rattle.sheets.proofs.SetLaws.{set_of_bins, bins_of_set, not_stray, entries_pass}

-- ---- a record that was written, read at its place

two_first : (n : ℕ) (t : List ℕ) → n < 65536 → two_at (two n ++ t) 0 ≡ n
unfolding two_at two
two_first n t h = omega arith

two_second : (a b n : ℕ) (t : List ℕ) → n < 65536 → two_at (a ∷ b ∷ (two n ++ t)) 2 ≡ n
unfolding two_at two
two_second a b n t h = omega arith

two_moved : (pre t : List ℕ) (i : ℕ) → two_at (pre ++ t) (length pre + i) ≡ two_at t i
unfolding two_at
two_moved pre t i =
    let next : length pre + i + 1 ≡ length pre + (i + 1) = omega arith in
    ap₂ (λ (a b : ℕ). a + 256 * b) (get_or-append-add pre t i 0) (ap (λ (k : ℕ). get_or (pre ++ t) k 0) next ∙ get_or-append-add pre t (i + 1) 0)

module _ (pre : List ℕ) (kind : ℕ) (body post : List ℕ) (fits : length body < 65536) (small : kind < 65536) where
  -- the bytes of which the record is a part
  abbrev within : List ℕ
  within = pre ++ (record_of kind body ++ post)

  length_written : length_at within (length pre) ≡ length body
  unfolding length_at record_of two
  length_written =
      let here : length pre ≡ length pre + 0 = omega arith in
      ap (two_at within) here ∙ two_moved pre (record_of kind body ++ post) 0 ∙ two_first (length body) (two kind ++ (body ++ post)) fits

  kind_written : kind_at within (length pre) ≡ kind
  unfolding kind_at record_of two
  kind_written = two_moved pre (record_of kind body ++ post) 2 ∙ two_second _ _ kind (body ++ post) small

  body_written : body_at within (length pre) ≡ body
  unfolding body_at record_of two
  body_written = rw (length_written, drop-append-add pre (record_of kind body ++ post) 4) (take-append_seam body post)

  after_written : after within (length pre) ≡ length (pre ++ record_of kind body)
  unfolding after
  after_written = omega (arith, length_written, length-append pre (record_of kind body), record_of-length kind body)

  record_written : bad_length kind (length body) ≡ false → record_checks kind within (length pre) ≡ 0
  record_written good =
      let long : length within ≡ length pre + (length (record_of kind body) + length post) = simp length-append in
      whole kind within (length pre)
      (record {
        four = omega (arith, long, record_of-length kind body);
        of_kind = kind_written;
        good_length = ap (bad_length kind) length_written ∙ good;
        fits = omega (arith, long, after_written, length-append pre (record_of kind body));
      })

-- ---- a job that passes its checks, written and read

-- every outlet is a set of 64 bits
pub Sets : List ℕ → Type 0
Sets outlets = (i : ℕ) → get_or outlets i 0 < 2 ^ 64

stray_left : (a b : Bool) → (a || b) ≡ false → a ≡ false
stray_left false b e = refl
stray_left true b e = e

stray_right : (a b : Bool) → (a || b) ≡ false → b ≡ false
stray_right false b e = e
stray_right true b e = absurd (false≢true (sym e))

-- what is read of outlets that were written, at their place in the bytes s
record OutletsRead (bins : ℕ) (outlets s : List ℕ) (p : ℕ) : Type 0 where
  checks : outlets_checks bins (length outlets) s p ≡ 0
  ends : outlets_end (length outlets) s p ≡ p + length (outlet_records outlets)
  sets : outlet_sets (length outlets) s p ≡ outlets

outlets_read : (bins : ℕ) (outlets pre post s : List ℕ) → s ≡ pre ++ (outlet_records outlets ++ post) → stray_hoses bins outlets ≡ false → Sets outlets → OutletsRead bins outlets s (length pre)
unfolding outlets_checks outlets_end outlet_sets outlet_records outlet_checks stray_hoses Sets
outlets_read bins [] pre post s e h words = record { checks = refl; ends = omega arith; sets = refl }
outlets_read bins (m ∷ outlets) pre post s e h words =
    let body : List ℕ = bins_of m in
    let rec : List ℕ = record_of 2 body in
    let few : length body ≤ 64 = omega (arith, as_many_bins m, at_most64 m) in
    let here : s ≡ pre ++ (rec ++ (outlet_records outlets ++ post)) = e ∙ ap (λ (l : List ℕ). pre ++ l) (append_assoc rec (outlet_records outlets) post) in
    let next : after s (length pre) ≡ length (pre ++ rec) = rw here (after_written pre 2 body (outlet_records outlets ++ post) (omega arith) (omega arith)) in
    let passes : record_checks 2 s (length pre) ≡ 0 = rw here (record_written pre 2 body (outlet_records outlets ++ post) (omega arith) (omega arith) (outlet_length 2 (length body) (λ z. omega arith) ∙ le-ltb 64 (length body) few)) in
    let read : body_at s (length pre) ≡ body = rw here (body_written pre 2 body (outlet_records outlets ++ post) (omega arith) (omega arith)) in
    let again : OutletsRead bins outlets s (length (pre ++ rec)) = outlets_read bins outlets (pre ++ rec) post s (here ∙ sym (append_assoc pre rec (outlet_records outlets ++ post))) (stray_right (stray_hose bins m) _ h) (λ i. words (suc i)) in
    record {
      checks = then_later _ _ (then_later _ _ passes ∙ ap (entry_checks bins 0) read ∙ entries_pass bins m (stray_left (stray_hose bins m) _ h)) ∙ ap (outlets_checks bins (length outlets) s) next ∙ again.checks;
      ends = ap (outlets_end (length outlets) s) next ∙ again.ends ∙ omega (arith, length-append pre rec, length-append rec (outlet_records outlets));
      sets = ap₂ (λ (x : ℕ) (l : List ℕ). x ∷ l) (ap set_of read ∙ set_of_bins m (words 0)) (ap (outlet_sets (length outlets) s) next ∙ again.sets);
    }

-- the head's three bytes
head_byte : (pre : List ℕ) (b o k : ℕ) (rest : List ℕ) → (head_bins (pre ++ (record_of 1 (b ∷ o ∷ k ∷ []) ++ rest)) (length pre) ≡ b) × (head_outlets (pre ++ (record_of 1 (b ∷ o ∷ k ∷ []) ++ rest)) (length pre) ≡ o) × (head_budget (pre ++ (record_of 1 (b ∷ o ∷ k ∷ []) ++ rest)) (length pre) ≡ k)
unfolding head_bins head_outlets head_budget record_of two
head_byte pre b o k rest =
    let l : List ℕ = record_of 1 (b ∷ o ∷ k ∷ []) ++ rest in
    (get_or-append-add pre l 4 0, get_or-append-add pre l 5 0, get_or-append-add pre l 6 0)

-- what is read of a sheet that was written, at its place in the bytes s, whatever stands before and after it
record SheetAgain (room b : ℕ) (o : List ℕ) (k : ℕ) (s : List ℕ) (p : ℕ) : Type 0 where
  checks : sheet_checks room s p ≡ 0
  ends : sheet_end s p ≡ p + length (sheet_of b o k)
  bins : head_bins s p ≡ b
  outlets : head_outlets s p ≡ length o
  budget : head_budget s p ≡ k
  sets : sheet_sets s p ≡ o

module _ (bins : ℕ) (outlets : List ℕ) (k : ℕ) (passes : job_checks bins outlets k ≡ 0) (words : Sets outlets) where
  sheet_again : (room : ℕ) → length outlets ≤ room → (pre post s : List ℕ) → s ≡ pre ++ (sheet_of bins outlets k ++ post) → SheetAgain room bins outlets k s (length pre)
  unfolding sheet_checks head_checks sheet_end sheet_sets head_bins head_outlets head_budget sheet_of head_of
  sheet_again room fits pre post s e =
      let J = job_fits bins outlets k passes in
      let body : List ℕ = bins ∷ length outlets ∷ k ∷ [] in
      let rest : List ℕ = outlet_records outlets ++ post in
      let here : s ≡ pre ++ (record_of 1 body ++ rest) = e ∙ ap (λ (l : List ℕ). pre ++ l) (append_assoc (record_of 1 body) (outlet_records outlets) post) in
      let next : after s (length pre) ≡ length (pre ++ record_of 1 body) = rw here (after_written pre 1 body rest (omega arith) (omega arith)) in
      let head : record_checks 1 s (length pre) ≡ 0 = rw here (record_written pre 1 body rest (omega arith) (omega arith) (head_length 1 3 refl)) in
      let eb : head_bins s (length pre) ≡ bins = rw here (head_byte pre bins (length outlets) k rest).0 in
      let eo : head_outlets s (length pre) ≡ length outlets = rw here (head_byte pre bins (length outlets) k rest).1 in
      let ek : head_budget s (length pre) ≡ k = rw here (head_byte pre bins (length outlets) k rest).2 in
      let good : head_numbers room bins (length outlets) k ≡ 0 = good_head room bins (length outlets) k (record { few_bins = J.bins64; few_outlets = J.outlets32; good_budget = J.budget30; long_room = fits }) in
      let again : OutletsRead bins outlets s (length (pre ++ record_of 1 body)) = outlets_read bins outlets (pre ++ record_of 1 body) post s (here ∙ sym (append_assoc pre (record_of 1 body) rest)) J.hoses_within words in
      record {
        checks = then_later _ _ (then_later _ _ head ∙ (rw (eb, eo, ek) good)) ∙ (rw (eb, eo, next) again.checks);
        ends = rw (eo, next) (again.ends ∙ omega (arith, length-append pre (record_of 1 body), length-append (record_of 1 body) (outlet_records outlets)));
        bins = eb;
        outlets = eo;
        budget = ek;
        sets = rw (eo, next) again.sets;
      }

  -- A sheet written and read again is the same job, 255 apart from a written 0: in front of any room that is long enough.
  pub written_is_read : (before : List ℕ) → length outlets ≤ length before → SheetRead (sheet_of bins outlets k) before (record { number = 0; bins = bins; outlets = length outlets; budget = k; room = outlets ++ drop (length outlets) before })
  unfolding read_checks first_of
  written_is_read before fits =
      let s : List ℕ = sheet_of bins outlets k in
      let A : SheetAgain (length before) bins outlets k s 0 = sheet_again (length before) fits [] [] s (sym (append-nil s)) in
      let zero : read_checks (length before) s ≡ 0 = then_later _ _ A.checks ∙ rw (le-ltb (sheet_end s 0) (length s) (omega (arith, A.ends))) in
      record {
        refused = λ no. absurd (no zero);
        done = λ _. refl;
        bins = λ _. sym A.bins;
        outlets = λ _. sym A.outlets;
        budget = λ _. sym A.budget;
        filled = λ _. rw (A.sets, A.outlets);
      }

-- ---- a row of bytes that is taken, read and written

-- every entry is a byte
pub Bytes : List ℕ → Type 0
Bytes s = (i : ℕ) → get_or s i 0 < 256

cons : (s : List ℕ) (j next : ℕ) → j < length s → next ≡ j + 1 → drop j s ≡ get_or s j 0 ∷ drop next s
cons s j next h e = drop-cons s j 0 h ∙ ap (λ (k : ℕ). get_or s j 0 ∷ drop k s) (sym (e ∙ add-one j))

-- two bytes are the two of their number
two_back : (a b : ℕ) → a < 256 → b < 256 → two (a + 256 * b) ≡ a ∷ b ∷ []
unfolding two
two_back a b ha hb =
    let low : (a + 256 * b) % 256 ≡ a = omega arith in
    let high : (a + 256 * b) / 256 ≡ b = omega arith in
    ap₂ (λ (x y : ℕ). x ∷ y ∷ []) low high

-- what fits passes the checks
fits_job : (bins : ℕ) (outlets : List ℕ) (k : ℕ) → JobFits bins outlets k → job_checks bins outlets k ≡ 0
unfolding job_checks too_many_bins too_many_outlets first_of
fits_job bins outlets k f = rw (le-ltb 64 bins f.bins64, le-ltb 32 (length outlets) f.outlets32, f.budget30, f.hoses_within)

module _ (s : List ℕ) (bytes : Bytes s) where
  -- a record that passes is the record of its body, and what follows
  record_back : (kind p : ℕ) → record_checks kind s p ≡ 0 → drop p s ≡ record_of kind (body_at s p) ++ drop (after s p) s
  unfolding record_of body_at after length_at kind_at two_at Bytes
  record_back kind p e =
      let w = is_whole kind s p e in
      let n : ℕ = two_at s p in
      let body : List ℕ = take n (drop (p + 4) s) in
      let long : length body ≡ n = length-take-le n (drop (p + 4) s) (simp length-drop (omega (arith, w.fits))) in
      let lengths : two (length body) ≡ get_or s p 0 ∷ get_or s (p + 1) 0 ∷ [] = ap two long ∙ two_back (get_or s p 0) (get_or s (p + 1) 0) (bytes p) (bytes (p + 1)) in
      let kinds : two kind ≡ get_or s (p + 2) 0 ∷ get_or s (p + 2 + 1) 0 ∷ [] = ap two (sym w.of_kind) ∙ two_back (get_or s (p + 2) 0) (get_or s (p + 2 + 1) 0) (bytes (p + 2)) (bytes (p + 2 + 1)) in
      let rest : drop (p + 4) s ≡ body ++ drop (p + 4 + n) s = sym (take-append-drop n (drop (p + 4) s)) ∙ ap (λ (l : List ℕ). body ++ l) (drop-drop n (p + 4) s) in
      let here : drop p s ≡ (get_or s p 0 ∷ get_or s (p + 1) 0 ∷ []) ++ ((get_or s (p + 2) 0 ∷ get_or s (p + 2 + 1) 0 ∷ []) ++ drop (p + 4) s) = cons s p (p + 1) (omega (arith, w.four)) refl ∙ ap (λ (l : List ℕ). get_or s p 0 ∷ l) (cons s (p + 1) (p + 2) (omega (arith, w.four)) (omega arith) ∙ ap (λ (l : List ℕ). get_or s (p + 1) 0 ∷ l) (cons s (p + 2) (p + 2 + 1) (omega (arith, w.four)) refl ∙ ap (λ (l : List ℕ). get_or s (p + 2) 0 ∷ l) (cons s (p + 2 + 1) (p + 4) (omega (arith, w.four)) (omega arith)))) in
      here
      ∙ ap₂ (λ (x y : List ℕ). x ++ (y ++ drop (p + 4) s)) (sym lengths) (sym kinds)
      ∙ ap (λ (l : List ℕ). two (length body) ++ (two kind ++ l)) rest
      ∙ simp append_assoc

  -- so are the outlet records
  outlets_back : (bins : ℕ) → bins ≤ 64 → (n p : ℕ) → outlets_checks bins n s p ≡ 0 → drop p s ≡ outlet_records (outlet_sets n s p) ++ drop (outlets_end n s p) s
  unfolding outlets_checks outlet_checks outlets_end outlet_sets outlet_records
  outlets_back bins few zero p e = refl
  outlets_back bins few (suc n) p e =
      let t = then-passed (outlet_checks bins s p) (outlets_checks bins n s (after s p)) e in
      let o = then-passed (record_checks 2 s p) (entry_checks bins 0 (body_at s p)) t.0 in
      let same : bins_of (set_of (body_at s p)) ≡ body_at s p = bins_of_set bins (body_at s p) few o.1 in
      record_back 2 p o.0
      ∙ ap₂ (λ (b l : List ℕ). record_of 2 b ++ l) (sym same) (outlets_back bins few n (after s p) t.1)
      ∙ sym (append_assoc (record_of 2 (bins_of (set_of (body_at s p)))) (outlet_records (outlet_sets n s (after s p))) (drop (outlets_end n s (after s p)) s))

  no_strays : (bins n p : ℕ) → outlets_checks bins n s p ≡ 0 → stray_hoses bins (outlet_sets n s p) ≡ false
  unfolding outlets_checks outlet_checks outlet_sets stray_hoses
  no_strays bins zero p e = refl
  no_strays bins (suc n) p e =
      let t = then-passed (outlet_checks bins s p) (outlets_checks bins n s (after s p)) e in
      let o = then-passed (record_checks 2 s p) (entry_checks bins 0 (body_at s p)) t.0 in
      rw (not_stray bins (body_at s p) o.1) (no_strays bins n (after s p) t.1)

  -- and the head
  head_back : (p : ℕ) → record_checks 1 s p ≡ 0 → body_at s p ≡ head_bins s p ∷ head_outlets s p ∷ head_budget s p ∷ []
  unfolding body_at head_bins head_outlets head_budget after
  head_back p e =
      let w = is_whole 1 s p e in
      let three : length_at s p ≡ 3 = head_is_three (length_at s p) w.good_length in
      let here : drop (p + 4) s ≡ get_or s (p + 4) 0 ∷ get_or s (p + 5) 0 ∷ get_or s (p + 6) 0 ∷ drop (p + 7) s = cons s (p + 4) (p + 5) (omega (arith, w.fits)) (omega arith) ∙ ap (λ (l : List ℕ). get_or s (p + 4) 0 ∷ l) (cons s (p + 5) (p + 6) (omega (arith, w.fits)) (omega arith) ∙ ap (λ (l : List ℕ). get_or s (p + 5) 0 ∷ l) (cons s (p + 6) (p + 7) (omega (arith, w.fits)) (omega arith))) in
      ap₂ (λ (n : ℕ) (l : List ℕ). take n l) three here

  -- A sheet that is taken from a place on is the sheet of the job that is read, and what follows; and that job passes the checks.
  sheet_back : (room p : ℕ) → sheet_checks room s p ≡ 0 → (job_checks (head_bins s p) (sheet_sets s p) (head_budget s p) ≡ 0) × (drop p s ≡ sheet_of (head_bins s p) (sheet_sets s p) (head_budget s p) ++ drop (sheet_end s p) s)
  unfolding sheet_checks head_checks sheet_sets sheet_end sheet_of head_of
  sheet_back room p e =
      let t = then-passed (head_checks room s p) (outlets_checks (head_bins s p) (head_outlets s p) s (after s p)) e in
      let h = then-passed (record_checks 1 s p) (head_numbers room (head_bins s p) (head_outlets s p) (head_budget s p)) t.0 in
      let g = is_good_head room (head_bins s p) (head_outlets s p) (head_budget s p) h.1 in
      let n : length (sheet_sets s p) ≡ head_outlets s p = length-outlet_sets (head_outlets s p) s (after s p) in (
        fits_job (head_bins s p) (sheet_sets s p) (head_budget s p) (record { bins64 = g.few_bins; outlets32 = omega (arith, n, g.few_outlets); budget30 = g.good_budget; hoses_within = no_strays (head_bins s p) (head_outlets s p) (after s p) t.1 }),
        record_back 1 p h.0
            ∙ ap₂ (λ (b l : List ℕ). record_of 1 b ++ l) (head_back p h.0 ∙ ap (λ (m : ℕ). head_bins s p ∷ m ∷ head_budget s p ∷ []) (sym n)) (outlets_back (head_bins s p) g.few_bins (head_outlets s p) (after s p) t.1)
            ∙ sym (append_assoc (record_of 1 (head_bins s p ∷ length (sheet_sets s p) ∷ head_budget s p ∷ [])) (outlet_records (sheet_sets s p)) (drop (sheet_end s p) s)),
      )

  -- A sheet taken and written again is the same bytes, and the job passes the checks.
  pub read_is_written : (room : ℕ) → read_checks room s ≡ 0 → (job_checks (head_bins s 0) (sheet_sets s 0) (head_budget s 0) ≡ 0) × (sheet_of (head_bins s 0) (sheet_sets s 0) (head_budget s 0) ≡ s)
  unfolding read_checks
  read_is_written room e =
      let t = then-passed (sheet_checks room s 0) (first_of ((ltb (sheet_end s 0) (length s), 12) ∷ [])) e in
      let end = first-none (ltb (sheet_end s 0) (length s)) 12 [] (omega arith) t.1 in
      let b = sheet_back room 0 t.0 in
      (b.0, sym (b.1 ∙ ap (λ (l : List ℕ). sheet_of (head_bins s 0) (sheet_sets s 0) (head_budget s 0) ++ l) (drop_of_length-le s (ltb-false (sheet_end s 0) (length s) end.0)) ∙ append-nil (sheet_of (head_bins s 0) (sheet_sets s 0) (head_budget s 0))))
