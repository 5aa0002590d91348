-- Admission: what is answered and what is held after it.
-- Assumes nothing.
use Rattle.std.specs.Prelude.{ℕ, ◌≤◌, ◌<◌, ◌≡◌, Bool, true, false, ◌⊎◌, List, [], ◌∷◌, ◌++◌, length}
use Rattle.rules.specs.Lists.{◌∈◌, SetOf}
use Rattle.rules.specs.Bytes.{digest_of, digests_of}
use Rattle.rules.specs.Graph.{Op, Held, Unheld, Proper}
use Rattle.rules.specs.Updates.{Latest}
use Rattle.rules.specs.First.{First}
use Rattle.rules.specs.Answers.{Says, NoRoom}
use Rattle.rules.specs.Table.{Limits, Shaped, Over}

-- the operation as offered by the bytes of digest d, kind k, member m and list l, its predecessors as a set
pub record AsOffered (d : List ℕ) (k : ℕ) (m l : List ℕ) (o : Op) : Type 0 where
  pub digest : o.digest ≡ digest_of d
  pub kind : o.kind ≡ k
  pub member : o.member ≡ digest_of m
  pub preds : SetOf (λ p. p ∈ digests_of l) o.preds

-- the refusals in order, with the held digest among them: done
abbrev pub admission_refusals : Limits → Type 0 → List Op → List ℕ → ℕ → List ℕ → List ℕ → List (ℕ × Type 0)
admission_refusals L damaged G d k m l =
    (1, ¬ Shaped d k m l)
    ∷ (2, Over L.predecessors l)
    ∷ (3, damaged)
    ∷ (0, Held G (digest_of d))
    ∷ (4, (digests_of l ≡ []) × (¬ (k ≡ 0)))
    ∷ (5, Unheld G (digests_of l))
    ∷ (6, L.operations ≤ length G)
    ∷ []

-- admitting the update o to G answers the updates that were latest and now aren't; other kinds answer none
pub record MadeChainable (G : List Op) (o : Op) (u : ℕ) : Type 0 where
  pub update : o.kind ≡ 2
  pub was : Latest G u
  pub passed : ¬ Latest (G ++ (o ∷ [])) u

-- the same of the operation as offered
pub record NewlyChainable (G : List Op) (d : List ℕ) (k : ℕ) (m l : List ℕ) (u : ℕ) : Type 0 where
  pub op : Op
  pub offered : AsOffered d k m l op
  pub made : MadeChainable G op u

-- where the list is written to the output s
abbrev pub add_op_refusals : Limits → Type 0 → List Op → List ℕ → ℕ → List ℕ → List ℕ → List ℕ → List (ℕ × Type 0)
add_op_refusals L damaged G d k m l s = admission_refusals L damaged G d k m l ++ ((9, NoRoom (NewlyChainable G d k m l) s) ∷ [])

-- K is what G held, in that order, and last the operation as offered; us is the list that is answered
pub record Joined (G : List Op) (d : List ℕ) (k : ℕ) (m l : List ℕ) (K : List Op) (us : List ℕ) : Type 0 where
  pub op : Op
  pub offered : AsOffered d k m l op
  pub held : K ≡ G ++ (op ∷ [])
  pub answers : SetOf (MadeChainable G op) us

-- Admission with the refusals rs answers the number n, whether the digest was known (b), and the list us; K is held after it.
pub record Admits (rs : List (ℕ × Type 0)) (G : List Op) (d : List ℕ) (k : ℕ) (m l : List ℕ) (K : List Op) (n : ℕ) (b : Bool) (us : List ℕ) : Type 0 where
  pub number : First rs n
  pub known : Says b ((n ≡ 0) × Held G (digest_of d))
  pub new : n ≡ 0 → b ≡ false → Joined G d k m l K us
  pub same : (¬ (n ≡ 0)) ⊎ (b ≡ true) → (K ≡ G) × (us ≡ [])

-- o may be admitted to G: it is an operation, its digest isn't held, its predecessors are, and only an add has none
pub record Admissible (G : List Op) (o : Op) : Type 0 where
  pub proper : Proper o
  pub fresh : ¬ Held G o.digest
  pub rooted : o.preds ≡ [] → o.kind ≡ 0
  pub known : (p : ℕ) → p ∈ o.preds → Held G p

-- the graphs that admissions within the limits leave, from the empty one on
pub data Grown (L : Limits) : List Op → Type 0 where
  fresh : Grown L []
  admit : {G : List Op} {o : Op} → Grown L G → Admissible G o → length o.preds ≤ L.predecessors → length G < L.operations → Grown L (G ++ (o ∷ []))
