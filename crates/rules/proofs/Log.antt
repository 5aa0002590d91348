-- Reading a log by steps ends exactly if the log is good, with its records; else a step refuses.
-- Assumes nothing.
use Prim.Native.Nat.{ℕ, zero, suc, ◌+◌, ◌≤◌, ◌<◌}
use native.Mathlib.Omega.{arith}
use native.Mathlib.Decide.{ℕ_discrete, dec_le, dec_lt}
use mathlib.Core.Path.{◌≡◌, refl, sym, ap, subst}
use mathlib.Core.Logic.{◌⊎◌, inl, inr}
use mathlib.Core.List.{List, [], ◌∷◌}
use lib.ListN.{length}
use borrow.Author.Tests.{le-leb, lt-leb, lt-ltb, le-ltb, eq-eqb, ne_eqb}
use Rattle.rules.specs.Log.{trailer, trailer_count, trailer_distance, record_end, Records, at_trailer, one_more, GoodLog, BadLog, Cause, bad_length, bad_distance, cut_record, trailer_too_soon, bytes_after, record_at, log_end, refused, Place, start, step_at, place_after}
use Rattle.rules.proofs.Decide.{fields3?}

record_longer : (s : List ℕ) (p : ℕ) → p < record_end s p
record_longer s p = omega arith

records_unique : {s : List ℕ} {p : ℕ} {ps qs : List ℕ} → Records s p ps → Records s p qs → ps ≡ qs
records_unique (at_trailer e) (at_trailer f) = refl
records_unique {s} {p} (at_trailer e) (one_more f r) = absurd (omega (arith, record_longer s p))
records_unique {s} {p} (one_more e r) (at_trailer f) = absurd (omega (arith, record_longer s p))
records_unique {s} {p} (one_more e r) (one_more f q) = ap (λ l. p ∷ l) (records_unique r q)

pub good_unique : {s ps qs : List ℕ} → GoodLog s ps → GoodLog s qs → ps ≡ qs
good_unique a b = records_unique a.records b.records

-- what the steps from a place on read, up to the end
pub data Reads (s : List ℕ) : Place → List ℕ → Type 0 where
  ended : {p : Place} → step_at s p ≡ log_end → Reads s p []
  goes_on : {p : Place} {q e : ℕ} {ps : List ℕ} → step_at s p ≡ record_at q e → Reads s (place_after (record_at q e) p) ps → Reads s p (q ∷ ps)

-- the steps from a place on come to a refusal
pub data Refuses (s : List ℕ) : Place → Cause → Type 0 where
  at_once : {p : Place} {c : Cause} → step_at s p ≡ refused c → Refuses s p c
  after : {p : Place} {q e : ℕ} {c : Cause} → step_at s p ≡ record_at q e → Refuses s (place_after (record_at q e) p) c → Refuses s p c

-- the log as a whole has the right length and distance
pub record Whole (s : List ℕ) : Type 0 where
  pub long : 8 ≤ length s
  pub short : length s ≤ 65536
  pub inside : trailer_distance s ≤ trailer s

-- what a step finds in such a log
pub data Found (s : List ℕ) (p : Place) : Type 0 where
  is_end : trailer_count s ≤ p.read → p.next ≡ trailer s → step_at s p ≡ log_end → Found s p
  is_after : trailer_count s ≤ p.read → ¬ (p.next ≡ trailer s) → step_at s p ≡ refused bytes_after → Found s p
  is_soon : p.read < trailer_count s → trailer s ≤ p.next → step_at s p ≡ refused trailer_too_soon → Found s p
  is_cut : p.read < trailer_count s → p.next < trailer s → trailer s < record_end s p.next → step_at s p ≡ refused cut_record → Found s p
  is_record : p.read < trailer_count s → record_end s p.next ≤ trailer s → step_at s p ≡ record_at p.next (record_end s p.next) → Found s p

module _ {s : List ℕ} (w : Whole s) where
  pub found : (p : Place) → Found s p
  found p = go (dec_le (trailer_count s) p.read) (ℕ_discrete p.next (trailer s)) (dec_le (trailer s) p.next) (dec_lt (trailer s) (record_end s p.next))
    where
      go : Dec (trailer_count s ≤ p.read) → Dec (p.next ≡ trailer s) → Dec (trailer s ≤ p.next) → Dec (trailer s < record_end s p.next) → Found s p
      go (yes a) (yes b) c d = is_end a b (simp (le-ltb _ _ w.long, le-ltb _ _ w.short, le-ltb _ _ w.inside, le-leb _ _ a, eq-eqb _ _ b))
      go (yes a) (no b) c d = is_after a b (simp (le-ltb _ _ w.long, le-ltb _ _ w.short, le-ltb _ _ w.inside, le-leb _ _ a, ne_eqb _ _ b))
      go (no a) b (yes c) d =
          let l : p.read < trailer_count s = omega arith in
          is_soon l c (simp (le-ltb _ _ w.long, le-ltb _ _ w.short, le-ltb _ _ w.inside, lt-leb _ _ l, le-leb _ _ c))
      go (no a) b (no c) (yes d) =
          let l : p.read < trailer_count s = omega arith in
          let m : p.next < trailer s = omega arith in
          is_cut l m d (simp (le-ltb _ _ w.long, le-ltb _ _ w.short, le-ltb _ _ w.inside, lt-leb _ _ l, lt-leb _ _ m, lt-ltb _ _ d))
      go (no a) b (no c) (no d) =
          let l : p.read < trailer_count s = omega arith in
          let m : p.next < trailer s = omega arith in
          let k : record_end s p.next ≤ trailer s = omega arith in
          is_record l k (simp (le-ltb _ _ w.long, le-ltb _ _ w.short, le-ltb _ _ w.inside, lt-leb _ _ l, lt-leb _ _ m, le-ltb _ _ k))

  -- what is read is records
  pub reads_records : {p : Place} {ps : List ℕ} → p.read ≤ trailer_count s → Reads s p ps → Records s p.next ps × (p.read + length ps ≡ trailer_count s)
  reads_records {p} l (ended e) = go (found p)
    where
      go : Found s p → Records s p.next [] × (p.read + 0 ≡ trailer_count s)
      go (is_end a b x) = (at_trailer b, omega arith)
      go (is_after a b x) = absurd (let z : ◌≡◌ {A = ℕ} 0 1 = cc in omega arith)
      go (is_soon a b x) = absurd (let z : ◌≡◌ {A = ℕ} 0 1 = cc in omega arith)
      go (is_cut a b c x) = absurd (let z : ◌≡◌ {A = ℕ} 0 1 = cc in omega arith)
      go (is_record a b x) = absurd (let z : ◌≡◌ {A = ℕ} 0 1 = cc in omega arith)
  reads_records {p} l (goes_on {q = q} {e = e} {ps = ps} f r) = go (λ h. reads_records h r) (found p)
    where
      go : (p.read + 1 ≤ trailer_count s → Records s e ps × (p.read + 1 + length ps ≡ trailer_count s)) → Found s p → Records s p.next (q ∷ ps) × (p.read + suc (length ps) ≡ trailer_count s)
      go rest (is_end a b x) = absurd (let z : ◌≡◌ {A = ℕ} 0 1 = cc in omega arith)
      go rest (is_after a b x) = absurd (let z : ◌≡◌ {A = ℕ} 0 1 = cc in omega arith)
      go rest (is_soon a b x) = absurd (let z : ◌≡◌ {A = ℕ} 0 1 = cc in omega arith)
      go rest (is_cut a b c x) = absurd (let z : ◌≡◌ {A = ℕ} 0 1 = cc in omega arith)
      go rest (is_record a b x) =
          let i : q ≡ p.next = cc in
          let j : e ≡ record_end s p.next = cc in
          let t = rest (omega arith) in
          (subst (λ y. Records s p.next (y ∷ ps)) (sym i) (one_more b (subst (λ y. Records s y ps) j t.0)), omega (arith, t.1))

  -- records are read
  pub records_read : {p : Place} {ps : List ℕ} → p.read + length ps ≡ trailer_count s → Records s p.next ps → Reads s p ps
  records_read {p} e (at_trailer f) = go (found p)
    where
      go : Found s p → Reads s p []
      go (is_end a b x) = ended x
      go (is_after a b x) = absurd (b f)
      go (is_soon a b x) = absurd (omega arith)
      go (is_cut a b c x) = absurd (omega arith)
      go (is_record a b x) = absurd (omega arith)
  records_read {p} e (one_more {ps = ps} f r) = go (records_read {p = record { read = p.read + 1; next = record_end s p.next }} (omega arith) r) (found p)
    where
      go : Reads s (record { read = p.read + 1; next = record_end s p.next }) ps → Found s p → Reads s p (p.next ∷ ps)
      go rest (is_end a b x) = absurd (omega arith)
      go rest (is_after a b x) = absurd (omega arith)
      go rest (is_soon a b x) = absurd (omega (arith, record_longer s p.next))
      go rest (is_cut a b c x) = absurd (omega arith)
      go rest (is_record a b x) = goes_on x rest

  -- the steps come to an end or to a refusal
  abbrev Outcome : Place → Type 0
  Outcome p = ((ps : List ℕ) × Reads s p ps) ⊎ ((c : Cause) × Refuses s p c)

  one_step : (p : Place) → (record_end s p.next ≤ trailer s → Outcome (record { read = p.read + 1; next = record_end s p.next })) → Found s p → Outcome p
  one_step p rest (is_end a b x) = inl ([], ended x)
  one_step p rest (is_after a b x) = inr (bytes_after, at_once x)
  one_step p rest (is_soon a b x) = inr (trailer_too_soon, at_once x)
  one_step p rest (is_cut a b c x) = inr (cut_record, at_once x)
  one_step p rest (is_record a b x) = elim (rest b) [ inl r ↦ inl (p.next ∷ r.0, goes_on x r.1) | inr r ↦ inr (r.0, after x r.1) ]

  read_on : (n : ℕ) (p : Place) → trailer s < p.next + n → Outcome p
  read_on zero p h = one_step p (λ b. absurd (omega (arith, record_longer s p.next))) (found p)
  read_on (suc n) p h = one_step p (λ b. read_on n (record { read = p.read + 1; next = record_end s p.next }) (omega (arith, record_longer s p.next))) (found p)

-- a place cannot both be read to the end and refuse
reads_or_refuses : {s : List ℕ} {p : Place} {ps : List ℕ} {c : Cause} → Reads s p ps → Refuses s p c → ⊥
reads_or_refuses (ended e) (at_once f) = let z : ◌≡◌ {A = ℕ} 0 1 = cc in omega arith
reads_or_refuses (ended e) (after f r) = let z : ◌≡◌ {A = ℕ} 0 1 = cc in omega arith
reads_or_refuses (goes_on e r) (at_once f) = let z : ◌≡◌ {A = ℕ} 0 1 = cc in omega arith
reads_or_refuses {s} {p} (goes_on {q = q} {e = e} {ps = ps} g r) (after {q = q'} {e = e'} {c = c} f t) =
    let i : q ≡ q' = cc in
    let j : e ≡ e' = cc in
    reads_or_refuses r (subst (λ y. Refuses s (record { read = p.read + 1; next = y }) c) (sym j) t)

whole? : (s : List ℕ) → Dec (Whole s)
whole? s = fields3? (λ a b c. record { long = a; short = b; inside = c }) (λ w. w.long) (λ w. w.short) (λ w. w.inside) (dec_le 8 (length s)) (dec_le (length s) 65536) (dec_le (trailer_distance s) (trailer s))

-- a log that isn't whole is refused by each step as by any other
pub not_whole : (s : List ℕ) (p : Place) → ¬ Whole s → (c : Cause) × (step_at s p ≡ refused c)
not_whole s p n = go (dec_lt (length s) 8) (dec_lt 65536 (length s)) (dec_lt (trailer s) (trailer_distance s))
  where
    go : Dec (length s < 8) → Dec (65536 < length s) → Dec (trailer s < trailer_distance s) → (c : Cause) × (step_at s p ≡ refused c)
    go (yes a) b c = (bad_length, simp (lt-ltb _ _ a))
    go (no a) (yes b) c = let h : 8 ≤ length s = omega arith in (bad_length, simp (le-ltb _ _ h, lt-ltb _ _ b))
    go (no a) (no b) (yes c) =
        let h : 8 ≤ length s = omega arith in
        let k : length s ≤ 65536 = omega arith in
        (bad_distance, simp (le-ltb _ _ h, le-ltb _ _ k, lt-ltb _ _ c))
    go (no a) (no b) (no c) = absurd (n (record { long = omega arith; short = omega arith; inside = omega arith }))

good_whole : {s ps : List ℕ} → GoodLog s ps → Whole s
good_whole g = record { long = g.long; short = g.short; inside = g.inside }

-- from the start, the steps read the records of a good log to the end, and come to a refusal in a bad one
pub good_reads : {s ps : List ℕ} → GoodLog s ps → Reads s (start s) ps
good_reads {s} g = records_read (good_whole g) (omega (arith, g.counted)) g.records

pub reads_good : {s ps : List ℕ} → Reads s (start s) ps → GoodLog s ps
reads_good {s} {ps} r = go (whole? s)
  where
    no_refusal : {p : Place} {c : Cause} → Reads s p ps → step_at s p ≡ refused c → ⊥
    no_refusal x e = reads_or_refuses x (at_once e)

    go : Dec (Whole s) → GoodLog s ps
    go (yes w) = let t = reads_records w (omega arith) r in record { long = w.long; short = w.short; inside = w.inside; records = t.0; counted = omega (arith, t.1) }
    go (no n) = absurd (no_refusal r (not_whole s (start s) n).1)

pub refuses_bad : {s : List ℕ} {c : Cause} → Refuses s (start s) c → BadLog s
refuses_bad r = record { bad = λ ps g. reads_or_refuses (good_reads g) r }

pub bad_refuses : {s : List ℕ} → BadLog s → (c : Cause) × Refuses s (start s) c
bad_refuses {s} b = go (whole? s)
  where
    go : Dec (Whole s) → (c : Cause) × Refuses s (start s) c
    go (yes w) = elim (read_on w (suc (trailer s)) (start s) (omega arith)) [ inl r ↦ absurd (b.bad r.0 (reads_good r.1)) | inr r ↦ r ]
    go (no n) = let r = not_whole s (start s) n in (r.0, at_once r.1)
