-- The shapes of answers: what a call's number, count and outputs say, done or refused.
-- Assumes nothing.
use Rattle.std.specs.Prelude.{ℕ, ◌*◌, ◌≤◌, ◌<◌, ◌≡◌, Bool, true, false, List, [], ◌∷◌, ◌++◌, length, get_or}
use Rattle.rules.specs.Lists.{SetOf}
use Rattle.rules.specs.Bytes.{number_at, digest_of}
use Rattle.rules.specs.First.{First}

-- the test of P answers b
abbrev pub Says : Bool → Type 0 → Type 0
Says true P = P
Says false P = ¬ P

-- whole digests ds stand at the front of t; the bytes past them are those of s
pub record Put (ds s t : List ℕ) : Type 0 where
  pub size : length t ≡ length s
  pub there : (i : ℕ) → i < length ds → number_at t (32 * i) 32 ≡ get_or ds i 0
  pub past : (j : ℕ) → 32 * length ds ≤ j → get_or t j 0 ≡ get_or s j 0

-- the same for mark bytes
pub record PutMarks (ms s t : List ℕ) : Type 0 where
  pub size : length t ≡ length s
  pub there : (i : ℕ) → i < length ms → get_or t i 0 ≡ get_or ms i 0
  pub past : (j : ℕ) → length ms ≤ j → get_or t j 0 ≡ get_or s j 0

-- 9: the set P is longer than the output s
pub record NoRoom (P : ℕ → Type 0) (s : List ℕ) : Type 0 where
  pub ds : List ℕ
  pub all : SetOf P ds
  pub short : length s < 32 * length ds

-- A list is answered: of the refusals rs the first that holds, 9 last, else the set P. A refusal lists nothing.
-- n is the number returned, c the count; the output is s before and t after.
pub record Listed (rs : List (ℕ × Type 0)) (P : ℕ → Type 0) (s t : List ℕ) (n c : ℕ) : Type 0 where
  pub number : First (rs ++ ((9, NoRoom P s) ∷ [])) n
  pub ds : List ℕ
  pub done : n ≡ 0 → SetOf P ds
  pub refused : ¬ (n ≡ 0) → ds ≡ []
  pub counted : c ≡ length ds
  pub put : Put ds s t

-- Yes or no is answered, whether P holds; a refusal answers no.
pub record Answered (rs : List (ℕ × Type 0)) (P : Type 0) (n : ℕ) (b : Bool) : Type 0 where
  pub number : First rs n
  pub done : n ≡ 0 → Says b P
  pub refused : ¬ (n ≡ 0) → b ≡ false

-- A number of which P holds is answered; a refusal answers zero.
pub record Valued (rs : List (ℕ × Type 0)) (P : ℕ → Type 0) (n v : ℕ) : Type 0 where
  pub number : First rs n
  pub done : n ≡ 0 → P v
  pub refused : ¬ (n ≡ 0) → v ≡ 0

-- 32 bytes whose number P holds of are given as a part of a store, and the empty part where there are none or the call is refused.
pub record Parted (rs : List (ℕ × Type 0)) (P : ℕ → Type 0) (s : List ℕ) : Type 0 where
  pub given : First rs 0 → (x : ℕ) → P x → (length s ≡ 32) × (digest_of s ≡ x)
  pub lacking : First rs 0 → ((x : ℕ) → ¬ P x) → s ≡ []
  pub refused : ¬ First rs 0 → s ≡ []
