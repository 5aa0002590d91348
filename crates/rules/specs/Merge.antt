-- Merge: the operations of the first store and, in the second's order, those of the second that it lacks.
-- Assumes nothing.
use Rattle.std.specs.Prelude.{ℕ, ◌<◌, ◌≡◌, List, [], ◌∷◌, ◌++◌, length}
use Rattle.rules.specs.Lists.{◌∈◌}
use Rattle.rules.specs.Graph.{Op, Held}
use Rattle.rules.specs.First.{First}
use Rattle.rules.specs.Table.{Limits}

-- another kind, member or predecessor set
pub data Differ (o p : Op) : Type 0 where
  kinds : ¬ (o.kind ≡ p.kind) → Differ o p
  members : ¬ (o.member ≡ p.member) → Differ o p
  sets : ¬ (o.preds ≡ p.preds) → Differ o p

-- 10: a digest held in both with another kind, member or predecessor set
pub record Clash (G H : List Op) : Type 0 where
  pub one : Op
  pub other : Op
  pub here : one ∈ G
  pub there : other ∈ H
  pub named : one.digest ≡ other.digest
  pub differ : Differ one other

-- M is what G lacks of the second's operations, in the second's order
pub data Missing (G : List Op) : List Op → List Op → Type 0 where
  no_more : Missing G [] []
  has : {o : Op} {H M : List Op} → Held G o.digest → Missing G H M → Missing G (o ∷ H) M
  lacks : {o : Op} {H M : List Op} → ¬ Held G o.digest → Missing G H M → Missing G (o ∷ H) (o ∷ M)

-- K is the union of G and H, in the order of merging
pub record Union (G H K : List Op) : Type 0 where
  pub more : List Op
  pub missing : Missing G H more
  pub joined : K ≡ G ++ more

-- 6: the union is over the limit
pub record Overfull (L : Limits) (G H : List Op) : Type 0 where
  pub union : List Op
  pub is : Union G H union
  pub over : L.operations < length union

abbrev pub merge_refusals : Limits → Type 0 → List Op → List Op → List (ℕ × Type 0)
merge_refusals L damaged G H = (3, damaged) ∷ (10, Clash G H) ∷ (6, Overfull L G H) ∷ []

-- merging H into G answers the number n; K is held after it
pub record Merges (rs : List (ℕ × Type 0)) (G H K : List Op) (n : ℕ) : Type 0 where
  pub number : First rs n
  pub done : n ≡ 0 → Union G H K
  pub refused : ¬ (n ≡ 0) → K ≡ G
