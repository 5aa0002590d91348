-- Nearest updates, latest and chainable.
-- Assumes nothing.
use Rattle.std.specs.Prelude.{ℕ, ◌≡◌, List}
use Rattle.rules.specs.Lists.{◌∈◌}
use Rattle.rules.specs.Graph.{Op, Held}

-- met walking back from the list, members included, through operations that are no updates
pub data Met (G : List Op) (from : List ℕ) : ℕ → Type 0 where
  from_list : {d : ℕ} → d ∈ from → Met G from d
  behind : {d c : ℕ} → Met G from c → (h : Held G c) → ¬ (h.op.kind ≡ 2) → d ∈ h.op.preds → Met G from d

-- a held update
pub record Update (G : List Op) (u : ℕ) : Type 0 where
  pub held : Held G u
  pub kind : held.op.kind ≡ 2

-- a nearest update of the list; unheld digests of it are skipped
pub record Nearest (G : List Op) (from : List ℕ) (u : ℕ) : Type 0 where
  pub update : Update G u
  pub met : Met G from u

-- an update that no other held update has among the nearest updates of its predecessors
pub record Latest (G : List Op) (u : ℕ) : Type 0 where
  pub update : Update G u
  pub last : (v : ℕ) (w : Update G v) → ¬ (v ≡ u) → ¬ Nearest G w.held.op.preds u

-- a held update that isn't latest
pub record Chainable (G : List Op) (u : ℕ) : Type 0 where
  pub update : Update G u
  pub passed : ¬ Latest G u
