-- Admission over the bytes of a store.
-- Assumes nothing.
use Rattle.std.specs.Prelude.{ℕ, ◌≡◌, Bool, true, false, ◌⊎◌, List, length, Option, Some, None, Result, Ok, Err}
use Rattle.rules.specs.Admission.{AsOffered, add_op_refusals, Admits}
use Rattle.rules.specs.Answers.{Put}
use Rattle.rules.specs.Graph.{Op}
use Rattle.rules.specs.Table.{limits}
use Rattle.rules.specs.declared.Refusal.{Refusal}
use Rattle.store.specs.Layout.{ops_of}
use Rattle.store.specs.Sound.{Sound, Admitted}
use Rattle.refusal.specs.Damage.{Damaged}

-- how many updates are made chainable
abbrev pub passed_of : Result (Option ℕ) Refusal → ℕ
passed_of (Ok (Some n)) = n
passed_of (Ok None) = 0
passed_of (Err r) = 0

-- Digest d, kind k, member m and list l are offered to the store s, which becomes t. n is the number, b whether the digest was known,
-- c the count of updates made chainable; their output is o before and u after.
pub record AddsOp (s d : List ℕ) (k : ℕ) (m l o t u : List ℕ) (n : ℕ) (b : Bool) (c : ℕ) : Type 0 where
  pub updates : List ℕ
  pub admits : Admits (add_op_refusals limits (Damaged s) (ops_of s) d k m l o) (ops_of s) d k m l (ops_of t) n b updates
  pub counted : c ≡ length updates
  pub put : Put updates o u
  pub untouched : (¬ (n ≡ 0)) ⊎ (b ≡ true) → t ≡ s
  pub sound : n ≡ 0 → Sound limits t
  pub admitted : n ≡ 0 → b ≡ false → (op : Op) → AsOffered d k m l op → Admitted limits s op t
