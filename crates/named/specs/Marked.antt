-- Marked operations held against a list.
-- Assumes nothing.
use Rattle.std.specs.Prelude.{ℕ, ◌<◌, ◌≡◌, List, get_or}
use Rattle.rules.specs.Bytes.{digests_of}
use Rattle.rules.specs.Lists.{◌∈◌}
use Rattle.store.specs.Layout.{digest_at}

-- the digests of those among the first n operations that m marks stand in the list l
pub record MarkedListed (s m l : List ℕ) (n : ℕ) : Type 0 where
  pub each : (j : ℕ) → j < n → get_or m j 0 ≡ 1 → digest_at s j ∈ digests_of l
