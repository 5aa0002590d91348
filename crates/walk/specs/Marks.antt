-- Marks over the places of a store.
-- Assumes nothing.
use Rattle.std.specs.Prelude.{ℕ, ◌≤◌, ◌<◌, ◌≡◌, List, length, get_or}
use Rattle.rules.specs.Table.{Limits}
use Rattle.rules.specs.Batches.{Mark}
use Rattle.store.specs.Layout.{count_of, digest_at}
use Rattle.store.specs.Sound.{Roomy, Sound}

-- a sound store, and room for a mark of each of its operations
pub record Ready (s : List ℕ) (room : ℕ) : Type 0 where
  pub limits : Limits
  pub roomy : Roomy limits
  pub sound : Sound limits s
  pub enough : count_of s ≤ room

-- the mark a becomes b: v where P holds, else as it was
pub data Paint (P : Type 0) (v a b : ℕ) : Type 0 where
  hit : P → b ≡ v → Paint P v a b
  miss : ¬ P → b ≡ a → Paint P v a b

-- the marks m become m': v at the places P, else as they were
pub record Painted (P : ℕ → Type 0) (v : ℕ) (m m' : List ℕ) : Type 0 where
  pub size : length m' ≡ length m
  pub each : (j : ℕ) → Paint (P j) v (get_or m j 0) (get_or m' j 0)

-- the marks m tell of which operations P holds
pub record Tells (s : List ℕ) (P : ℕ → Type 0) (m : List ℕ) : Type 0 where
  pub each : (j : ℕ) → j < count_of s → Mark (P (digest_at s j)) (get_or m j 0)

-- the marks m become m', which tell of which operations P holds; past the operations they are as they were
pub record Told (s : List ℕ) (P : ℕ → Type 0) (m m' : List ℕ) : Type 0 where
  pub size : length m' ≡ length m
  pub tells : Tells s P m'
  pub rest : (j : ℕ) → count_of s ≤ j → get_or m' j 0 ≡ get_or m j 0

-- f 0, f 1, .., c of them, stand at the front of h'; the others are those of h
pub record Front (f : ℕ → ℕ) (h h' : List ℕ) (c : ℕ) : Type 0 where
  pub size : length h' ≡ length h
  pub there : (k : ℕ) → k < c → get_or h' k 0 ≡ f k
  pub rest : (k : ℕ) → c ≤ k → get_or h' k 0 ≡ get_or h k 0
