-- Damaged (3), as bytes have it, and what a test of a call's input answers.
-- Assumes nothing.
use Rattle.std.specs.Prelude.{ℕ, ◌≡◌, List, Result, IfOk}
use Rattle.rules.specs.First.{First}
use Rattle.rules.specs.Numbers.{number_of}
use Rattle.rules.specs.Table.{limits}
use Rattle.rules.specs.declared.Refusal.{Refusal}
use Rattle.store.specs.Sound.{Sound}
use Rattle.store.specs.declared.graph.Graph.{Graph}

abbrev pub Damaged : List ℕ → Type 0
Damaged s = ¬ Sound limits s

-- g is the graph of the store s: its bytes, which are sound
pub record GraphOf (s : List ℕ) (g : Graph) : Type 0 where
  pub bytes : g.bytes.now ≡ s
  pub sound : Sound limits s

-- r is what a test answers: the first of the refusals that holds; where none does, a value that P holds of
pub record Tested {A : Type 0} (rs : List (ℕ × Type 0)) (P : A → Type 0) (r : Result A Refusal) : Type 0 where
  pub number : First rs (number_of r)
  pub passed : IfOk r P
