-- Merge over the bytes of two stores.
-- Assumes nothing.
use Rattle.std.specs.Prelude.{ℕ, ◌≡◌, ◌⊎◌, List}
use Rattle.rules.specs.Merge.{merge_refusals, Merges}
use Rattle.rules.specs.Table.{limits}
use Rattle.store.specs.Layout.{ops_of}
use Rattle.store.specs.Sound.{Sound}
use Rattle.refusal.specs.Damage.{Damaged}

-- the store o is merged into s, which becomes t; n is the number
pub record MergesInto (s o t : List ℕ) (n : ℕ) : Type 0 where
  pub merges : Merges (merge_refusals limits (Damaged s ⊎ Damaged o) (ops_of s) (ops_of o)) (ops_of s) (ops_of o) (ops_of t) n
  pub untouched : ¬ (n ≡ 0) → t ≡ s
  pub sound : n ≡ 0 → Sound limits t
