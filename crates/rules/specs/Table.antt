-- The table of numbers: the conditions that several calls share.
-- Assumes nothing.
use Rattle.std.specs.Prelude.{ℕ, ◌/◌, ◌%◌, ◌≤◌, ◌<◌, ◌≡◌, List, length}
use Rattle.rules.specs.Bytes.{digest_of}

-- what a store takes at most
pub record Limits : Type 0 where
  pub operations : ℕ
  pub predecessors : ℕ

-- up to 512 operations of up to 16 predecessors
abbrev pub limits : Limits
limits = record { operations = 512; predecessors = 16 }

-- up to 512 digests in a question's list
abbrev pub most_listed : ℕ
most_listed = 512

-- a digest or a member, and no Shape (1)
abbrev pub OneDigest : List ℕ → Type 0
OneDigest s = length s ≡ 32

-- a list, and no Shape (1)
abbrev pub WholeDigests : List ℕ → Type 0
WholeDigests l = length l % 32 ≡ 0

-- TooMany (2): over m digests, repeats counted
abbrev pub Over : ℕ → List ℕ → Type 0
Over m l = m < length l / 32

-- the operation that is offered has the right shape
pub record Shaped (d : List ℕ) (k : ℕ) (m l : List ℕ) : Type 0 where
  pub digest : OneDigest d
  pub member : OneDigest m
  pub list : WholeDigests l
  pub kind : k ≤ 2
  pub zero : ¬ (k ≡ 0) → digest_of m ≡ 0
