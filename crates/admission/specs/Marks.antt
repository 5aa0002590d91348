-- The updates that an admission makes chainable, by marks.
-- Assumes nothing.
use Rattle.std.specs.Prelude.{ℕ, ◌<◌, ◌≡◌, List, [], get_or}
use Rattle.rules.specs.Updates.{Nearest, Chainable}
use Rattle.store.specs.Layout.{ops_of}
use Rattle.walk.specs.Marks.{Told}
use Rattle.order.specs.Sorted.{Sorted}

-- one of the first n marks, at place j, is set
pub record MarkSet (m : List ℕ) (n j : ℕ) : Type 0 where
  pub below : j < n
  pub marked : get_or m j 0 ≡ 1

-- u is a nearest update of the operations with the digests ds, and isn't chainable yet
pub record Passed (s ds : List ℕ) (u : ℕ) : Type 0 where
  pub nearest : Nearest (ops_of s) ds u
  pub latest : ¬ Chainable (ops_of s) u

-- an operation of kind k with the predecessors ds makes u chainable
pub record Made (s ds : List ℕ) (k u : ℕ) : Type 0 where
  pub update : k ≡ 2
  pub passed : Passed s ds u

-- The work arrays of the list that such an operation makes: marks m, chainable marks h and an order q become m', h' and q'.
-- An update fills them, another kind leaves them.
pub record Worked (s ds : List ℕ) (k : ℕ) (m m' h h' q q' : List ℕ) : Type 0 where
  pub marks : k ≡ 2 → Told s (Passed s ds) m m'
  pub chainable : k ≡ 2 → Told s (Chainable (ops_of s)) h h'
  pub count : ℕ
  pub order : k ≡ 2 → Sorted s [] m' q q' count
  pub other : ¬ (k ≡ 2) → (m' ≡ m) × (h' ≡ h) × (q' ≡ q)
