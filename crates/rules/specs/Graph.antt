-- An operation, a graph of operations, and the words about them: held, child, head, ancestor, depth.
-- Assumes nothing.
use Rattle.std.specs.Prelude.{ℕ, suc, ◌^◌, ◌≤◌, ◌<◌, ◌≡◌, List, []}
use Rattle.rules.specs.Lists.{◌∈◌, Ascending}

-- digest and member are the numbers of their 32 bytes; kind 0 is an add, 1 a remove, 2 an update;
-- the set of predecessors is an ascending list
pub record Op : Type 0 where
  pub digest : ℕ
  pub kind : ℕ
  pub member : ℕ
  pub preds : List ℕ

-- the numbers are 32 bytes and a kind, the member of a non-add is zero, the predecessors are a set
pub record Proper (o : Op) : Type 0 where
  pub digest : o.digest < 256 ^ 32
  pub kind : o.kind ≤ 2
  pub member : o.member < 256 ^ 32
  pub zero : ¬ (o.kind ≡ 0) → o.member ≡ 0
  pub preds : Ascending o.preds

-- an operation of G has the digest d; a graph is the list of its operations in order of admission
pub record Held (G : List Op) (d : ℕ) : Type 0 where
  pub op : Op
  pub stands : op ∈ G
  pub named : op.digest ≡ d

-- some digest of the list isn't held
pub record Unheld (G : List Op) (ds : List ℕ) : Type 0 where
  pub which : ℕ
  pub stands : which ∈ ds
  pub lacks : ¬ Held G which

-- an operation of G with the digest c lists d
pub record Child (G : List Op) (d c : ℕ) : Type 0 where
  pub op : Op
  pub stands : op ∈ G
  pub named : op.digest ≡ c
  pub lists : d ∈ op.preds

-- held, with no child
pub record Head (G : List Op) (d : ℕ) : Type 0 where
  pub held : Held G d
  pub childless : (c : ℕ) → ¬ Child G d c

-- all heads are among the list
pub record AllHeads (G : List Op) (ds : List ℕ) : Type 0 where
  pub each : (h : ℕ) → Head G h → h ∈ ds

-- a is reached from d by one or more predecessor steps
pub data Ancestor (G : List Op) (a : ℕ) : ℕ → Type 0 where
  near : {d : ℕ} → Child G a d → Ancestor G a d
  far : {b d : ℕ} → Child G b d → Ancestor G a b → Ancestor G a d

-- one of the list, or an ancestor of one
pub data InPast (G : List Op) (heads : List ℕ) (d : ℕ) : Type 0 where
  itself : d ∈ heads → InPast G heads d
  before : {h : ℕ} → h ∈ heads → Ancestor G d h → InPast G heads d

-- 0 without predecessors, else one more than the deepest predecessor p; f q is the depth of the predecessor q
pub data Depth (G : List Op) : ℕ → ℕ → Type 0 where
  bottom : {d : ℕ} (h : Held G d) → h.op.preds ≡ [] → Depth G d 0
  above : {d p k : ℕ} (h : Held G d) → p ∈ h.op.preds → Depth G p k → (f : (q : ℕ) → q ∈ h.op.preds → ℕ) → ((q : ℕ) (m : q ∈ h.op.preds) → f q m ≤ k) → ((q : ℕ) (m : q ∈ h.op.preds) → Depth G q (f q m)) → Depth G d (suc k)
