-- What the passes over the records of a store find, by places.
-- Assumes nothing.
use Rattle.std.specs.Prelude.{ℕ, ◌+◌, ◌≤◌, ◌<◌, ◌≡◌, ◌⊎◌, List, length, get_or}
use Rattle.store.specs.Layout.{count_of, digest_at, kind_at, preds_at, pred_at, op_of, ops_of}
use Rattle.rules.specs.Graph.{Op, Depth}
use Rattle.walk.specs.Marks.{Painted}
use Rattle.walk.specs.declared.Pick.{Pick}
use Rattle.walk.specs.declared.Pick.TheVariants.{All, Updates, Others}

-- the pick takes an operation
abbrev pub Passes : Pick → Op → Type 0
Passes All o = Unit {0}
Passes Updates o = o.kind ≡ 2
Passes Others o = ¬ (o.kind ≡ 2)

-- the pick takes record i
abbrev pub Picked : Pick → List ℕ → ℕ → Type 0
Picked p s i = Passes p (op_of s i)

-- j is one of f 0, f 1, .., c of them
pub record OneOf (f : ℕ → ℕ) (c j : ℕ) : Type 0 where
  pub nth : ℕ
  pub below : nth < c
  pub there : f nth ≡ j

-- record i lists place j
abbrev pub Lists : List ℕ → ℕ → ℕ → Type 0
Lists s i j = OneOf (pred_at s i) (preds_at s i) j

-- one of the first n records is picked and lists place j
pub record SomeLists (p : Pick) (s : List ℕ) (n j : ℕ) : Type 0 where
  pub by : ℕ
  pub below : by < n
  pub picked : Picked p s by
  pub lists : Lists s by j

-- place j is reached from a mark of m, step by step through picked records, none of them before place i
pub data Reached (p : Pick) (s m : List ℕ) (i : ℕ) : ℕ → Type 0 where
  start : {j : ℕ} → get_or m j 0 ≡ 1 → Reached p s m i j
  step : {k j : ℕ} → Reached p s m i k → i ≤ k → k < count_of s → Picked p s k → Lists s k j → Reached p s m i j

-- one of the first n records, at place j, is no update
pub record Plain (s : List ℕ) (n j : ℕ) : Type 0 where
  pub below : j < n
  pub other : ¬ (kind_at s j ≡ 2)

-- r is one more than the greatest of the depths m at the places in the first c slots of record i, and 0 without a slot
pub record Deepest (s : List ℕ) (i : ℕ) (m : List ℕ) (c r : ℕ) : Type 0 where
  pub above : (k : ℕ) → k < c → get_or m (pred_at s i k) 0 < r
  pub reached : ((c ≡ 0) × (r ≡ 0)) ⊎ ((k : ℕ) × (k < c) × (get_or m (pred_at s i k) 0 + 1 ≡ r))

-- the numbers m become m', the depth of each operation; past the operations they are as they were
pub record Deep (s m m' : List ℕ) : Type 0 where
  pub size : length m' ≡ length m
  pub each : (j : ℕ) → j < count_of s → Depth (ops_of s) (digest_at s j) (get_or m' j 0)
  pub rest : (j : ℕ) → count_of s ≤ j → get_or m' j 0 ≡ get_or m j 0

-- the marks m spread through operations that are no updates, and of those reached the updates keep theirs
pub record Moved (s m m' : List ℕ) : Type 0 where
  pub between : List ℕ
  pub spread : Painted (Reached Others s m 0) 1 m between
  pub kept : Painted (Plain s (count_of s)) 0 between m'
