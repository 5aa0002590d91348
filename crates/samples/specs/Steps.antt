-- Graphs that are built step by step.
-- Assumes nothing.
use Rattle.std.specs.Prelude.{ℕ, Bool, List, [], ◌∷◌, ◌++◌, replicate}
use Rattle.rules.specs.Numbers.{kind_code}
use Rattle.store.specs.Sound.{Blank}
use Rattle.admission.specs.Adds.{AddsOp}
use Rattle.samples.specs.Digits.{spelled}
use Rattle.samples.specs.declared.Step.{Step}

-- offering the step to s leaves t, whatever is answered: there is room for each answer
pub record Offers (s : List ℕ) (step : Step) (t : List ℕ) : Type 0 where
  pub number : ℕ
  pub known : Bool
  pub count : ℕ
  pub out : List ℕ
  pub adds : AddsOp s (replicate 32 step.0) (kind_code step.1) (replicate 32 0) (spelled step.2.now 544) (replicate 512 0) t out number known count

-- the steps, offered in turn from a fresh store on, leave the store
pub data Builds : List Step → List ℕ → Type 0 where
  fresh : {s : List ℕ} → Blank 512 s → Builds [] s
  offer : {steps : List Step} {step : Step} {s t : List ℕ} → Builds steps s → Offers s step t → Builds (steps ++ (step ∷ [])) t
