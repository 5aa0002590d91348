-- One mark among many.
-- Assumes nothing.
use Rattle.std.specs.Prelude.{ℕ, ◌<◌, ◌≡◌, List, get_or}

-- of the first n marks exactly one is set
pub record OneMark (m : List ℕ) (n : ℕ) : Type 0 where
  pub place : ℕ
  pub below : place < n
  pub marked : get_or m place 0 ≡ 1
  pub other : (j : ℕ) → j < n → get_or m j 0 ≡ 1 → j ≡ place
