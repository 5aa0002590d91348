-- The causal filter.
-- Assumes nothing.
use Rattle.std.specs.Prelude.{ℕ, List, [], ◌∷◌, ◌++◌}
use Rattle.rules.specs.Lists.{◌∈◌}
use Rattle.rules.specs.Bytes.{digests_of}
use Rattle.rules.specs.Graph.{Op, Unheld, AllHeads, InPast}
use Rattle.rules.specs.Small.{lists_refusals}

-- a target that comes back: any, unchecked, if all heads are among the named; else one of the named or an ancestor of one
pub data Observed (G : List Op) (named targets : List ℕ) (d : ℕ) : Type 0 where
  unchecked : d ∈ targets → AllHeads G named → Observed G named targets d
  observed : d ∈ targets → InPast G named d → Observed G named targets d

-- for lent lists p of predecessors and t of targets
abbrev pub filter_refusals : ℕ → Type 0 → List Op → List ℕ → List ℕ → List (ℕ × Type 0)
filter_refusals most damaged G p t = lists_refusals most damaged p t ++ ((7, Unheld G (digests_of p)) ∷ (7, (¬ AllHeads G (digests_of p)) × Unheld G (digests_of t)) ∷ [])
