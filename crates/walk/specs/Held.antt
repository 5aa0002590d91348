-- Lists that a caller lends, held against a store.
-- Assumes nothing.
use Rattle.std.specs.Prelude.{ℕ, ◌<◌, ◌≡◌, List, length, get_or}
use Rattle.rules.specs.Lists.{SetOf}
use Rattle.rules.specs.Graph.{Held}
use Rattle.digest.specs.Lists.{Among}
use Rattle.store.specs.Layout.{count_of, digest_at, member_at, kind_at, ops_of}

-- the set P has r members
pub record Sized (P : ℕ → Type 0) (r : ℕ) : Type 0 where
  pub members : List ℕ
  pub all : SetOf P members
  pub counted : length members ≡ r

-- d is among the first k digests of the list l and isn't held
pub record UnheldAmong (s l : List ℕ) (k d : ℕ) : Type 0 where
  pub among : Among l k d
  pub lacks : ¬ Held (ops_of s) d

-- the digest of place j is among the first k of the list l
pub record Wanted (s l : List ℕ) (k j : ℕ) : Type 0 where
  pub below : j < count_of s
  pub among : Among l k (digest_at s j)

-- record i is an add of the member
pub record Adds (s : List ℕ) (i member : ℕ) : Type 0 where
  pub add : kind_at s i ≡ 0
  pub adds : member_at s i ≡ member

-- one of the first n records is marked and adds the member
pub record MarkedAdd (s m : List ℕ) (n member : ℕ) : Type 0 where
  pub place : ℕ
  pub below : place < n
  pub marked : get_or m place 0 ≡ 1
  pub add : Adds s place member
