-- Sound stores: the bytes that some sequence of admissions from a fresh store leaves.
-- Assumes nothing.
use Rattle.std.specs.Prelude.{ℕ, ◌+◌, ◌*◌, ◌≤◌, ◌<◌, ◌≡◌, List, [], ◌∷◌, ◌++◌, length, get_or}
use Rattle.rules.specs.Graph.{Op}
use Rattle.rules.specs.First.{First}
use Rattle.rules.specs.Table.{Limits}
use Rattle.rules.specs.Admission.{Admissible}
use Rattle.store.specs.Layout.{count_of, preds_at, pred_at, ops_of}

-- the one length of a store of so many operations
abbrev pub size_of : ℕ → ℕ
size_of ops = 64 + 98 * ops

-- limits that the layout has room for
pub record Roomy (L : Limits) : Type 0 where
  pub operations : L.operations ≤ 512
  pub predecessors : L.predecessors ≤ 16

-- a fresh store: every byte is zero
pub record Blank (ops : ℕ) (s : List ℕ) : Type 0 where
  pub size : length s ≡ size_of ops
  pub zeros : (j : ℕ) → get_or s j 0 ≡ 0

-- length, count and the bytes that no record has
pub record Framed (ops : ℕ) (s : List ℕ) : Type 0 where
  pub size : length s ≡ size_of ops
  pub bytes : (j : ℕ) → get_or s j 0 < 256
  pub few : count_of s ≤ ops
  pub reserved : (j : ℕ) → 2 ≤ j → j < 64 → get_or s j 0 ≡ 0
  pub rest : (j : ℕ) → 64 + 98 * count_of s ≤ j → get_or s j 0 ≡ 0

-- the slots of a record: at most so many earlier places, then zeros
pub record Slots (most : ℕ) (s : List ℕ) (i : ℕ) : Type 0 where
  pub few : preds_at s i ≤ most
  pub early : (k : ℕ) → k < preds_at s i → pred_at s i k < i
  pub unused : (k : ℕ) → preds_at s i ≤ k → k < 16 → pred_at s i k ≡ 0

-- laid out as the layout says
pub record Laid (L : Limits) (s : List ℕ) : Type 0 where
  pub frame : Framed L.operations s
  pub slots : (i : ℕ) → i < count_of s → Slots L.predecessors s i

-- t is what admitting o to s leaves. It pins every byte of t: `admitted_unique`.
pub record Admitted (L : Limits) (s : List ℕ) (o : Op) (t : List ℕ) : Type 0 where
  pub laid : Laid L t
  pub ops : ops_of t ≡ ops_of s ++ (o ∷ [])

pub data Sound (L : Limits) : List ℕ → Type 0 where
  fresh : {s : List ℕ} → Blank L.operations s → Sound L s
  admit : {s t : List ℕ} {o : Op} → Sound L s → Admissible (ops_of s) o → length o.preds ≤ L.predecessors → length (ops_of s) < L.operations → Admitted L s o t → Sound L t

-- making a buffer fresh answers n and leaves t of s
pub record Freshened (ops : ℕ) (s t : List ℕ) (n : ℕ) : Type 0 where
  pub number : First ((1, ¬ (length s ≡ size_of ops)) ∷ []) n
  pub done : n ≡ 0 → Blank ops t
  pub refused : ¬ (n ≡ 0) → t ≡ s
