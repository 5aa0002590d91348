-- Where several refusals apply: the number of the first condition that holds.
-- Assumes nothing.
use Rattle.std.specs.Prelude.{ℕ, ◌≡◌, ◌⊎◌, List, [], ◌∷◌}

-- n is the number of the first of the conditions that holds, 0 (done) where none holds
unfoldable pub First : List (ℕ × Type 0) → ℕ → Type 0
First [] n = n ≡ 0
First (c ∷ cs) n = (c.1 × (n ≡ c.0)) ⊎ ((¬ c.1) × First cs n)
