-- The batch question.
-- Assumes nothing.
use Rattle.std.specs.Prelude.{ℕ, ◌≡◌, List, [], ◌∷◌, ◌++◌}
use Rattle.rules.specs.Lists.{◌∈◌}
use Rattle.rules.specs.Bytes.{digests_of}
use Rattle.rules.specs.Graph.{Op, Held, Unheld, Child, Head, AllHeads}
use Rattle.rules.specs.Batches.{Sooner}
use Rattle.rules.specs.Small.{lists_refusals, list_kind_refusals}

-- a question is one of the listed digests, or a kind
pub data Question : Type 0 where
  listed : List ℕ → Question
  kind : ℕ → Question

-- an operation matches
abbrev pub Matches : Question → Op → Type 0
Matches (listed ds) o = o.digest ∈ ds
Matches (kind k) o = o.kind ≡ k

-- The order is deepest first, the greater digest first in a depth: y stands below x if `Sooner G y x`.
-- x is a waist: none below it is a named predecessor, a head, or listed by an operation above it.
pub record Waist (G : List Op) (named : List ℕ) (x : ℕ) : Type 0 where
  pub held : Held G x
  pub unnamed : (y : ℕ) → Sooner G y x → ¬ (y ∈ named)
  pub no_head : (y : ℕ) → Sooner G y x → ¬ Head G y
  pub unlisted : (y : ℕ) → Sooner G y x → (z : ℕ) → Sooner G x z → ¬ Child G y z

-- no waist above it
pub record FirstWaist (G : List Op) (named : List ℕ) (x : ℕ) : Type 0 where
  pub waist : Waist G named x
  pub first : (y : ℕ) → Sooner G x y → ¬ Waist G named y

-- not all heads are among the named, and some operation above the first waist matches
pub record SameBatch (G : List Op) (named : List ℕ) (q : Question) : Type 0 where
  pub apart : ¬ AllHeads G named
  pub waist : ℕ
  pub is : FirstWaist G named waist
  pub op : Op
  pub stands : op ∈ G
  pub above : Sooner G waist op.digest
  pub matches : Matches q op

-- the refusals of both questions' own, p the named predecessors
abbrev pub question_refusals : List Op → List ℕ → List (ℕ × Type 0)
question_refusals G p = (4, digests_of p ≡ []) ∷ (7, Unheld G (digests_of p)) ∷ []

-- a question with the list l
abbrev pub listed_refusals : ℕ → Type 0 → List Op → List ℕ → List ℕ → List (ℕ × Type 0)
listed_refusals most damaged G p l = lists_refusals most damaged p l ++ question_refusals G p

-- a question with the kind k
abbrev pub kind_refusals : ℕ → Type 0 → List Op → List ℕ → ℕ → List (ℕ × Type 0)
kind_refusals most damaged G p k = list_kind_refusals most damaged p k ++ question_refusals G p
