-- The test by layers that the Rust makes for a boundary. `proofs/Layers` shows that it tells the boundaries.
-- Assumes nothing.
use Rattle.std.specs.Prelude.{ℕ, ◌≤◌, ◌<◌, ◌≡◌, List}
use Rattle.rules.specs.Graph.{Op, Child, Depth}

-- inside S: x is alone at its depth k, each shallower operation has a child, and none of these children is deeper than k
pub record Layer (G : List Op) (S : ℕ → Type 0) (x k : ℕ) : Type 0 where
  pub alone : (y : ℕ) → S y → Depth G y k → y ≡ x
  pub onward : (y : ℕ) → S y → (j : ℕ) → Depth G y j → j < k → (c : ℕ) × S c × Child G y c
  pub level : (y : ℕ) → S y → (j : ℕ) → Depth G y j → j < k → (c : ℕ) → S c → Child G y c → (i : ℕ) → Depth G c i → i ≤ k
