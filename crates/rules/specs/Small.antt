-- The small questions.
-- Assumes nothing.
use Rattle.std.specs.Prelude.{ℕ, ◌<◌, ◌≡◌, ◌⊎◌, List, [], ◌∷◌}
use Rattle.rules.specs.Lists.{◌∈◌}
use Rattle.rules.specs.Bytes.{digest_of}
use Rattle.rules.specs.Graph.{Op, Held, Head, InPast}
use Rattle.rules.specs.Table.{OneDigest, WholeDigests, Over}

-- all of the list are held; so of the empty list
pub record AllHeld (G : List Op) (ds : List ℕ) : Type 0 where
  pub each : (d : ℕ) → d ∈ ds → Held G d

pub record SingleHead (G : List Op) : Type 0 where
  pub only : ℕ
  pub head : Head G only
  pub other : (h : ℕ) → Head G h → h ≡ only

-- an add of the member at or before the operation d
pub record AddBefore (G : List Op) (member d : ℕ) : Type 0 where
  pub op : Op
  pub stands : op ∈ G
  pub add : op.kind ≡ 0
  pub adds : op.member ≡ member
  pub past : InPast G (d ∷ []) op.digest

-- the held add d has the member m
pub record Added (G : List Op) (d m : ℕ) : Type 0 where
  pub held : Held G d
  pub add : held.op.kind ≡ 0
  pub adds : held.op.member ≡ m

-- x is the digest d, and one of the two stores holds it
pub record HeldIn (G H : List Op) (d x : ℕ) : Type 0 where
  pub same : x ≡ d
  pub held : Held G d ⊎ Held H d

-- no argument but the store: heads, single head
abbrev pub store_refusals : Type 0 → List (ℕ × Type 0)
store_refusals damaged = (3, damaged) ∷ []

-- a digest: children, held, chainable, member, look-up over two stores
abbrev pub digest_refusals : Type 0 → List ℕ → List (ℕ × Type 0)
digest_refusals damaged d = (1, ¬ OneDigest d) ∷ (3, damaged) ∷ []

-- a digest that must be held: depth, predecessors
abbrev pub held_refusals : Type 0 → List Op → List ℕ → List (ℕ × Type 0)
held_refusals damaged G d = (1, ¬ OneDigest d) ∷ (3, damaged) ∷ (7, ¬ Held G (digest_of d)) ∷ []

-- a list: nearest updates, all held
abbrev pub list_refusals : ℕ → Type 0 → List ℕ → List (ℕ × Type 0)
list_refusals most damaged l = (1, ¬ WholeDigests l) ∷ (2, Over most l) ∷ (3, damaged) ∷ []

-- a member and a digest: add of a member at or before an operation
abbrev pub member_refusals : Type 0 → List ℕ → List ℕ → List (ℕ × Type 0)
member_refusals damaged m d = (1, (¬ OneDigest m) ⊎ (¬ OneDigest d)) ∷ (3, damaged) ∷ []

-- two lists: causal filter, batch question with a list
abbrev pub lists_refusals : ℕ → Type 0 → List ℕ → List ℕ → List (ℕ × Type 0)
lists_refusals most damaged p l = (1, (¬ WholeDigests p) ⊎ (¬ WholeDigests l)) ∷ (2, Over most p ⊎ Over most l) ∷ (3, damaged) ∷ []

-- a list and a kind: batch question with a kind
abbrev pub list_kind_refusals : ℕ → Type 0 → List ℕ → ℕ → List (ℕ × Type 0)
list_kind_refusals most damaged p k = (1, (¬ WholeDigests p) ⊎ (2 < k)) ∷ (2, Over most p) ∷ (3, damaged) ∷ []
