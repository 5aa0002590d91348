-- The second store's operations and their places in the first.
-- Assumes nothing.
use Rattle.std.specs.Prelude.{ℕ, ◌≤◌, ◌<◌, ◌≡◌, List, ◌++◌, length, get_or, Option, Some, None, Result, Ok, Err}
use Rattle.std.specs.Option.{unwrap_or}
use Rattle.rules.specs.Bytes.{row}
use Rattle.rules.specs.Graph.{Op, Held}
use Rattle.rules.specs.Merge.{Clash, Missing}
use Rattle.rules.specs.Table.{limits}
use Rattle.store.specs.Sound.{Sound}
use Rattle.store.specs.Layout.{count_of, digest_at, pred_at, op_of, ops_of}
use Rattle.rules.specs.declared.Refusal.{Refusal}
use Rattle.rules.specs.declared.Refusal.TheVariants.{Clash as Clashes}

-- the first c slots of place p in s and of place i in o name the same digests
abbrev pub SameSlots : List ℕ → ℕ → List ℕ → ℕ → ℕ → Type 0
SameSlots s p o i c = (k : ℕ) → k < c → digest_at s (pred_at s p k) ≡ digest_at o (pred_at o i k)

-- the places of the second store's operations in the first
abbrev pub Places : Type 0
Places = List (Option ℕ)

-- the place of operation j, where it has one
abbrev pub placed : Places → ℕ → ℕ
placed q j = unwrap_or (get_or q j None) 0

-- the place of the digest d in s; none where s lacks it
pub data PlaceIn (s : List ℕ) (d : ℕ) : Option ℕ → Type 0 where
  held : {p : ℕ} → p < count_of s → digest_at s p ≡ d → PlaceIn s d (Some p)
  lacks : ¬ Held (ops_of s) d → PlaceIn s d None

-- the first i entries of q are the places in s of the operations of o; the others are those of p
pub record Placement (s o : List ℕ) (p q : Places) (i : ℕ) : Type 0 where
  pub size : length q ≡ length p
  pub there : (j : ℕ) → j < i → PlaceIn s (digest_at o j) (get_or q j None)
  pub rest : (j : ℕ) → i ≤ j → get_or q j None ≡ get_or p j None

-- the first i operations of o are compared with those of s: none clashes, and s lacks c of them
pub record Agrees (s o : List ℕ) (p q : Places) (i c : ℕ) : Type 0 where
  pub placed : Placement s o p q i
  pub few : c ≤ i
  pub alike : (j k : ℕ) → j < i → k < count_of s → digest_at s k ≡ digest_at o j → op_of s k ≡ op_of o j
  pub more : List Op
  pub missing : Missing (ops_of s) (row i (op_of o)) more
  pub counted : length more ≡ c

-- what comparing all of them answers
abbrev pub Compares : Result ℕ Refusal → List ℕ → List ℕ → Places → Places → Type 0
Compares (Ok c) s o p q = Agrees s o p q (count_of o) c
Compares (Err r) s o p q = (r ≡ Clashes) × Clash (ops_of s) (ops_of o) × ((i : ℕ) × (c : ℕ) × Agrees s o p q i c)

-- the first i entries of q are places of s, with the digests of the first i operations of o
pub record Mapped (s o : List ℕ) (q : Places) (i : ℕ) : Type 0 where
  pub each : (j : ℕ) → j < i → (get_or q j None ≡ Some (placed q j)) × (placed q j < count_of s) × (digest_at s (placed q j) ≡ digest_at o j)

-- the places of all operations of o in s
pub record AllPlaced (s o : List ℕ) (q : Places) : Type 0 where
  pub each : (j : ℕ) → j < count_of o → PlaceIn s (digest_at o j) (get_or q j None)

-- the first i operations of o are taken over into s, which became t; the places p became q
pub record Taken (s o : List ℕ) (p : Places) (t : List ℕ) (q : Places) (i : ℕ) : Type 0 where
  pub sound : Sound limits t
  pub more : List Op
  pub missing : Missing (ops_of s) (row i (op_of o)) more
  pub ops : ops_of t ≡ ops_of s ++ more
  pub size : length q ≡ length p
  pub done : Mapped t o q i
  pub todo : (j : ℕ) → i ≤ j → get_or q j None ≡ get_or p j None
