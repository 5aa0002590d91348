-- What writing leaves.
-- Assumes nothing.
use Rattle.std.specs.Prelude.{ℕ, ◌+◌, ◌≤◌, ◌<◌, ◌≡◌, List, length, get_or}

-- t is s but for the bytes from a up to b
pub record Written (s t : List ℕ) (a b : ℕ) : Type 0 where
  pub size : length t ≡ length s
  pub below : (j : ℕ) → j < a → get_or t j 0 ≡ get_or s j 0
  pub above : (j : ℕ) → b ≤ j → get_or t j 0 ≡ get_or s j 0

-- c bytes of d from `at` on stand in t from p on, and all else is as in s
pub record Copied (s t : List ℕ) (p : ℕ) (d : List ℕ) (at c : ℕ) : Type 0 where
  pub written : Written s t p (p + c)
  pub there : (j : ℕ) → j < c → get_or t (p + j) 0 ≡ get_or d (at + j) 0
