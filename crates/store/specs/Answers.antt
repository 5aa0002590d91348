-- What the answers of looking up and testing say.
-- Assumes nothing.
use Rattle.std.specs.Prelude.{ℕ, ◌≤◌, ◌<◌, ◌≡◌, List, get_or, Option, Some, None}
use Rattle.store.specs.Layout.{digest_at}

-- the place of the digest d among the first n records
abbrev pub Looked : Option ℕ → List ℕ → ℕ → ℕ → Type 0
Looked (Some i) s n d = (i < n) × (digest_at s i ≡ d)
Looked None s n d = (j : ℕ) → j < n → digest_at s j ≡ d → ⊥

-- bytes from a up to b are zero
abbrev pub Zeros : List ℕ → ℕ → ℕ → Type 0
Zeros s a b = (j : ℕ) → a ≤ j → j < b → get_or s j 0 ≡ 0
