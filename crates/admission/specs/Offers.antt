-- What testing an offer finds, before anything is written.
-- Assumes nothing.
use Rattle.std.specs.Prelude.{ℕ, ◌/◌, ◌≤◌, ◌≡◌, Bool, true, false, ◌⊎◌, List, [], ◌∷◌, length, Option, Some, None, Result, Ok, Err}
use Rattle.rules.specs.Admission.{NewlyChainable, admission_refusals, add_op_refusals}
use Rattle.rules.specs.Answers.{Says, Put}
use Rattle.rules.specs.Bytes.{digest_of, digests_of}
use Rattle.rules.specs.First.{First}
use Rattle.rules.specs.Graph.{Held, Unheld}
use Rattle.rules.specs.Lists.{◌∈◌, SetOf}
use Rattle.rules.specs.Numbers.{kind_code}
use Rattle.rules.specs.Table.{limits, Shaped, Over}
use Rattle.rules.specs.declared.Refusal.{Refusal}
use Rattle.store.specs.Layout.{count_of, ops_of}
use Rattle.store.specs.Slots.{Gathering}
use Rattle.store.specs.Sound.{Sound}
use Rattle.refusal.specs.Damage.{Damaged}
use Rattle.admission.specs.Marks.{Worked}
use Rattle.admission.specs.declared.offer.Offer.{Offer}
use Rattle.admission.specs.declared.tried.Tried.{Tried}

-- o is the offer that the bytes d and m, the kind k and the list l are
pub record Parsed (d : List ℕ) (k : ℕ) (m l : List ℕ) (o : Offer) : Type 0 where
  pub digest : o.digest.now ≡ d
  pub kind : kind_code o.kind ≡ k
  pub member : o.member.now ≡ m
  pub predecessors : o.predecessors.now ≡ l

-- the refusals that come first: the arguments and the store
abbrev pub input_refusals : List ℕ → List ℕ → ℕ → List ℕ → List ℕ → List (ℕ × Type 0)
input_refusals s d k m l = (1, ¬ Shaped d k m l) ∷ (2, Over limits.predecessors l) ∷ (3, Damaged s) ∷ []

-- those of a new operation
abbrev pub new_refusals : List ℕ → ℕ → List ℕ → List (ℕ × Type 0)
new_refusals s k l = (4, (digests_of l ≡ []) × (¬ (k ≡ 0))) ∷ (5, Unheld (ops_of s) (digests_of l)) ∷ (6, limits.operations ≤ length (ops_of s)) ∷ []

-- of an offered list some digests have their slots, in the work places p that became q
pub record Begun (s l p q : List ℕ) : Type 0 where
  pub digests : ℕ
  pub slots : ℕ
  pub gathering : Gathering s (count_of s) l p q digests slots

-- a new operation is tested: the number is n, its predecessors stand in the first c places of q
pub record Fits (s : List ℕ) (k : ℕ) (l p q : List ℕ) (n c : ℕ) : Type 0 where
  pub number : First (new_refusals s k l) n
  pub begun : Begun s l p q
  pub gathered : n ≡ 0 → Gathering s (count_of s) l p q (length l / 32) c

-- a trial's answer: whether the digest is known, how many places the predecessors have, and how many updates are listed
abbrev pub known_of : {A : Type 0} → Result (Option A) Refusal → Bool
known_of (Ok (Some a)) = false
known_of (Ok None) = true
known_of (Err r) = false

abbrev pub slots_of : Result (Option Tried) Refusal → ℕ
slots_of (Ok (Some t)) = t.slots
slots_of (Ok None) = 0
slots_of (Err r) = 0

abbrev pub listed_of : Result (Option Tried) Refusal → ℕ
listed_of (Ok (Some t)) = t.count
listed_of (Ok None) = 0
listed_of (Err r) = 0

-- An offer is tested: the number n, whether the digest is known (b), c places of predecessors, and the list of updates that become
-- chainable, u of them; its output is o before and t after.
pub record Tries (s d : List ℕ) (k : ℕ) (m l p q o t : List ℕ) (n : ℕ) (b : Bool) (c u : ℕ) : Type 0 where
  pub number : First (add_op_refusals limits (Damaged s) (ops_of s) d k m l o) n
  pub known : Says b ((n ≡ 0) × Held (ops_of s) (digest_of d))
  pub begun : Begun s l p q
  pub sound : n ≡ 0 → Sound limits s
  pub gathered : n ≡ 0 → b ≡ false → Gathering s (count_of s) l p q (length l / 32) c
  pub us : List ℕ
  pub answers : n ≡ 0 → b ≡ false → SetOf (NewlyChainable (ops_of s) d k m l) us
  pub none : (¬ (n ≡ 0)) ⊎ (b ≡ true) → us ≡ []
  pub counted : u ≡ length us
  pub put : Put us o t

-- the work arrays of a trial: filled for a new operation that only a lack of room can refuse, else as they were; b says that the
-- digest is known
pub record WorkedFor (s d : List ℕ) (k : ℕ) (m l : List ℕ) (b : Bool) (w w' h h' z z' : List ℕ) : Type 0 where
  pub new : First (admission_refusals limits (Damaged s) (ops_of s) d k m l) 0 → b ≡ false → (ds : List ℕ) → SetOf (λ p. p ∈ digests_of l) ds → Worked s ds k w w' h h' z z'
  pub other : (¬ First (admission_refusals limits (Damaged s) (ops_of s) d k m l) 0) ⊎ (b ≡ true) → (w' ≡ w) × (h' ≡ h) × (z' ≡ z)
