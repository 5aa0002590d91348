-- The public calls that only read stores, each as its answer. `damaged` says that a store isn't sound; G are a sound one's operations.
-- A lent list has at most `most` digests. n is the number returned, c a count, b yes or no; an output is s before and t after.
-- Assumes nothing.
use Rattle.std.specs.Prelude.{ℕ, Bool, ◌⊎◌, List}
use Rattle.rules.specs.Lists.{SetOf}
use Rattle.rules.specs.Bytes.{digest_of, digests_of}
use Rattle.rules.specs.Graph.{Op, Held, Child, Head, Depth}
use Rattle.rules.specs.Answers.{Listed, Answered, Valued, Parted}
use Rattle.rules.specs.Updates.{Nearest, Chainable}
use Rattle.rules.specs.Batches.{BatchesAnswered, batches_for_heads_refusals, batches_refusals}
use Rattle.rules.specs.Question.{listed, kind, SameBatch, listed_refusals, kind_refusals}
use Rattle.rules.specs.Filter.{Observed, filter_refusals}
use Rattle.rules.specs.Small.{AllHeld, SingleHead, AddBefore, Added, HeldIn, store_refusals, digest_refusals, held_refusals, list_refusals, member_refusals}

-- lists
abbrev pub Heads : Type 0 → List Op → List ℕ → List ℕ → ℕ → ℕ → Type 0
Heads damaged G s t n c = Listed (store_refusals damaged) (Head G) s t n c

abbrev pub NearestUpdateAncestors : ℕ → Type 0 → List Op → List ℕ → List ℕ → List ℕ → ℕ → ℕ → Type 0
NearestUpdateAncestors most damaged G l s t n c = Listed (list_refusals most damaged l) (Nearest G (digests_of l)) s t n c

abbrev pub PredecessorsFor : Type 0 → List Op → List ℕ → List ℕ → List ℕ → ℕ → ℕ → Type 0
PredecessorsFor damaged G d s t n c = Listed (held_refusals damaged G d) (λ p. Child G p (digest_of d)) s t n c

abbrev pub ChildrenOf : Type 0 → List Op → List ℕ → List ℕ → List ℕ → ℕ → ℕ → Type 0
ChildrenOf damaged G d s t n c = Listed (digest_refusals damaged d) (Child G (digest_of d)) s t n c

abbrev pub FilterInCausalPast : ℕ → Type 0 → List Op → List ℕ → List ℕ → List ℕ → List ℕ → ℕ → ℕ → Type 0
FilterInCausalPast most damaged G p q s t n c = Listed (filter_refusals most damaged G p q) (Observed G (digests_of p) (digests_of q)) s t n c

-- a number
abbrev pub DepthOf : Type 0 → List Op → List ℕ → ℕ → ℕ → Type 0
DepthOf damaged G d n v = Valued (held_refusals damaged G d) (Depth G (digest_of d)) n v

-- yes or no
abbrev pub ContainsOpHash : Type 0 → List Op → List ℕ → ℕ → Bool → Type 0
ContainsOpHash damaged G d n b = Answered (digest_refusals damaged d) (Held G (digest_of d)) n b

abbrev pub ContainsAll : ℕ → Type 0 → List Op → List ℕ → ℕ → Bool → Type 0
ContainsAll most damaged G l n b = Answered (list_refusals most damaged l) (AllHeld G (digests_of l)) n b

abbrev pub IsChainable : Type 0 → List Op → List ℕ → ℕ → Bool → Type 0
IsChainable damaged G d n b = Answered (digest_refusals damaged d) (Chainable G (digest_of d)) n b

abbrev pub HasSingleHead : Type 0 → List Op → ℕ → Bool → Type 0
HasSingleHead damaged G n b = Answered (store_refusals damaged) (SingleHead G) n b

abbrev pub HasAddBefore : Type 0 → List Op → List ℕ → List ℕ → ℕ → Bool → Type 0
HasAddBefore damaged G m d n b = Answered (member_refusals damaged m d) (AddBefore G (digest_of m) (digest_of d)) n b

abbrev pub BatchHasListed : ℕ → Type 0 → List Op → List ℕ → List ℕ → ℕ → Bool → Type 0
BatchHasListed most damaged G p l n b = Answered (listed_refusals most damaged G p l) (SameBatch G (digests_of p) (listed (digests_of l))) n b

abbrev pub BatchHasKind : ℕ → Type 0 → List Op → List ℕ → ℕ → ℕ → Bool → Type 0
BatchHasKind most damaged G p k n b = Answered (kind_refusals most damaged G p k) (SameBatch G (digests_of p) (kind k)) n b

-- batches: outputs s to t for the digests and u to v for the marks, the counts of operations and of batches
abbrev pub BatchesForHeads : ℕ → Type 0 → List Op → List ℕ → List ℕ → List ℕ → List ℕ → List ℕ → ℕ → ℕ → ℕ → Type 0
BatchesForHeads most damaged G l s t u v n ops batches = BatchesAnswered (batches_for_heads_refusals most damaged G l) G (digests_of l) s t u v n ops batches

pub record AllBatches (damaged : Type 0) (G : List Op) (s t u v : List ℕ) (n ops batches : ℕ) : Type 0 where
  pub heads : List ℕ
  pub all : ¬ damaged → SetOf (Head G) heads
  pub answered : BatchesAnswered (batches_refusals damaged heads) G heads s t u v n ops batches

-- parts of a store, and the number of the call beside each
abbrev pub AddedMember : Type 0 → List Op → List ℕ → List ℕ → Type 0
AddedMember damaged G d part = Parted (digest_refusals damaged d) (Added G (digest_of d)) part

abbrev pub Find : Type 0 → Type 0 → List Op → List Op → List ℕ → List ℕ → Type 0
Find damaged damaged' G H d part = Parted (digest_refusals (damaged ⊎ damaged') d) (HeldIn G H (digest_of d)) part
