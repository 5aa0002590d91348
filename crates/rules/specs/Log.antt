-- The log: its grammar, the causes of a refusal, and the reader's steps.
-- Assumes nothing.
use Rattle.std.specs.Prelude.{ℕ, ◌+◌, ◌*◌, ◌-◌, ◌≤◌, ◌≡◌, Bool, true, false, List, [], ◌∷◌, length, get_or, leb, ltb, eqb}
use Rattle.rules.specs.Bytes.{part}

-- 32 bits from p on, little-endian
abbrev pub word_at : List ℕ → ℕ → ℕ
word_at s p = get_or s p 0 + 256 * get_or s (p + 1) 0 + 65536 * get_or s (p + 2) 0 + 16777216 * get_or s (p + 3) 0

-- where the trailer starts: 8 bytes from the end
abbrev pub trailer : List ℕ → ℕ
trailer s = length s - 8

-- the trailer: the record count, then the distance back from its start to the first record
abbrev pub trailer_count : List ℕ → ℕ
trailer_count s = word_at s (trailer s)

abbrev pub trailer_distance : List ℕ → ℕ
trailer_distance s = word_at s (trailer s + 4)

-- a record from p on: digest, kind byte, member, count byte, that many predecessor digests; the next one starts where it ends
abbrev pub record_digest : List ℕ → ℕ → List ℕ
record_digest s p = part s p 32

abbrev pub record_kind : List ℕ → ℕ → ℕ
record_kind s p = get_or s (p + 32) 0

abbrev pub record_member : List ℕ → ℕ → List ℕ
record_member s p = part s (p + 33) 32

abbrev pub record_count : List ℕ → ℕ → ℕ
record_count s p = get_or s (p + 65) 0

abbrev pub record_preds : List ℕ → ℕ → List ℕ
record_preds s p = part s (p + 66) (32 * record_count s p)

abbrev pub record_end : List ℕ → ℕ → ℕ
record_end s p = p + 66 + 32 * record_count s p

-- from p on stand records, which start at the places ps and end exactly at the trailer
pub data Records (s : List ℕ) : ℕ → List ℕ → Type 0 where
  at_trailer : {p : ℕ} → p ≡ trailer s → Records s p []
  one_more : {p : ℕ} {ps : List ℕ} → record_end s p ≤ trailer s → Records s (record_end s p) ps → Records s p (p ∷ ps)

-- a log whose records start at the places ps
pub record GoodLog (s : List ℕ) (ps : List ℕ) : Type 0 where
  pub long : 8 ≤ length s
  pub short : length s ≤ 65536
  pub inside : trailer_distance s ≤ trailer s
  pub records : Records s (trailer s - trailer_distance s) ps
  pub counted : length ps ≡ trailer_count s

-- 11
pub record BadLog (s : List ℕ) : Type 0 where
  pub bad : (ps : List ℕ) → ¬ GoodLog s ps

-- why a log is refused: its length, the distance, a record that is cut by the trailer (begun before it), the trailer too soon,
-- bytes after the last record
pub data Cause : Type 0 where
  bad_length : Cause
  bad_distance : Cause
  cut_record : Cause
  trailer_too_soon : Cause
  bytes_after : Cause

-- a step answers a record from its first byte up to its end, the end, or a refusal with its cause
pub data Step : Type 0 where
  record_at : ℕ → ℕ → Step
  log_end : Step
  refused : Cause → Step

-- the number of a step: a refused log is 11
abbrev pub step_number : Step → ℕ
step_number (record_at p e) = 0
step_number log_end = 0
step_number (refused c) = 11

-- a reader's place: how many records it has read, and where the next one starts
pub record Place : Type 0 where
  pub read : ℕ
  pub next : ℕ

abbrev pub start : List ℕ → Place
start s = record { read = 0; next = trailer s - trailer_distance s }

abbrev pub choose : {A : Type 0} → Bool → A → A → A
choose true a b = a
choose false a b = b

-- what the reader finds at its place
abbrev pub step_at : List ℕ → Place → Step
step_at s p =
    choose (ltb (length s) 8) (refused bad_length)
    (choose (ltb 65536 (length s)) (refused bad_length)
    (choose (ltb (trailer s) (trailer_distance s)) (refused bad_distance)
    (choose (leb (trailer_count s) p.read) (choose (eqb p.next (trailer s)) log_end (refused bytes_after))
    (choose (leb (trailer s) p.next) (refused trailer_too_soon)
    (choose (ltb (trailer s) (record_end s p.next)) (refused cut_record)
    (record_at p.next (record_end s p.next)))))))

-- the reader's place after a step: the end and a refusal leave it
abbrev pub place_after : Step → Place → Place
place_after (record_at p e) q = record { read = q.read + 1; next = e }
place_after log_end q = q
place_after (refused c) q = q
