-- The test of soundness, place by place. `proofs/Cut` shows that it finds exactly the sound stores.
-- Assumes nothing.
use Rattle.std.specs.Prelude.{ℕ, ◌+◌, ◌≤◌, ◌<◌, ◌≡◌, List}
use Rattle.rules.specs.Table.{Limits}
use Rattle.store.specs.Layout.{count_of, digest_at, member_at, kind_at, preds_at, pred_at}
use Rattle.store.specs.Sound.{Framed, Slots}

-- kind, member and number of predecessors of a record
pub record Kinded (s : List ℕ) (i : ℕ) : Type 0 where
  pub kind : kind_at s i ≤ 2
  pub member : ¬ (kind_at s i ≡ 0) → member_at s i ≡ 0
  pub rooted : ¬ (kind_at s i ≡ 0) → 0 < preds_at s i

-- each listed place's digest is below the next one's
abbrev pub Rising : List ℕ → ℕ → Type 0
Rising s i = (k : ℕ) → k + 1 < preds_at s i → digest_at s (pred_at s i k) < digest_at s (pred_at s i (k + 1))

-- what a check of record i finds
pub record Good (most : ℕ) (s : List ℕ) (i : ℕ) : Type 0 where
  pub slots : Slots most s i
  pub kinded : Kinded s i
  pub rising : Rising s i
  pub distinct : (j : ℕ) → j < i → ¬ (digest_at s j ≡ digest_at s i)

pub record Checked (L : Limits) (s : List ℕ) : Type 0 where
  pub frame : Framed L.operations s
  pub good : (i : ℕ) → i < count_of s → Good L.predecessors s i
