-- How far up the records that list a place stand.
-- Assumes nothing.
use Rattle.std.specs.Prelude.{ℕ, ◌≤◌, ◌<◌, ◌≡◌, ◌⊎◌, List, length, get_or}
use Rattle.walk.specs.Passes.{Lists}

-- the number a becomes b: v where P holds and a is less, else as it was
pub data Lift (P : Type 0) (v a b : ℕ) : Type 0 where
  lifted : P → a < v → b ≡ v → Lift P v a b
  kept : (P → v ≤ a) → b ≡ a → Lift P v a b

-- the numbers f become f': at least v at the places P, else as they were
pub record Lifted (P : ℕ → Type 0) (v : ℕ) (f f' : List ℕ) : Type 0 where
  pub size : length f' ≡ length f
  pub each : (j : ℕ) → Lift (P j) v (get_or f j 0) (get_or f' j 0)

-- the numbers f become f': each place's is the greatest of its own and of the ranks r of those among the first n records that m marks and that list it
pub record Raised (s m r : List ℕ) (n : ℕ) (f f' : List ℕ) : Type 0 where
  pub size : length f' ≡ length f
  pub least : (j : ℕ) → get_or f j 0 ≤ get_or f' j 0
  pub above : (i j : ℕ) → i < n → get_or m i 0 ≡ 1 → Lists s i j → get_or r i 0 ≤ get_or f' j 0
  pub reached : (j : ℕ) → (get_or f' j 0 ≡ get_or f j 0) ⊎ ((i : ℕ) × (i < n) × (get_or m i 0 ≡ 1) × Lists s i j × (get_or r i 0 ≡ get_or f' j 0))
