-- What reading a store's bytes as a graph answers.
-- Assumes nothing.
use Rattle.std.specs.Prelude.{ℕ, ◌≡◌, List, Option, Some, None}
use Rattle.store.specs.Capacities.{limits_of}
use Rattle.store.specs.Sound.{Sound}
use Rattle.store.specs.declared.capacity.Capacity.{Capacity}
use Rattle.store.specs.declared.graph.Graph.{Graph}

-- the graph of the bytes s if they are a sound store, and none otherwise
abbrev pub Read : Option Graph → List ℕ → Capacity → Type 0
Read (Some g) s c = (g.bytes.now ≡ s) × (g.capacity ≡ c) × Sound (limits_of c) s
Read None s c = ¬ Sound (limits_of c) s
