-- Batches of a head list: complete chains, boundaries, cuts and marks.
-- Assumes nothing.
use Rattle.std.specs.Prelude.{ℕ, ◌+◌, ◌-◌, ◌*◌, ◌<◌, ◌≡◌, ◌⊎◌, List, [], ◌∷◌, ◌++◌, length, get_or}
use Rattle.rules.specs.Lists.{◌∈◌, Ordered}
use Rattle.rules.specs.Bytes.{digests_of}
use Rattle.rules.specs.Graph.{Op, Held, Unheld, Child, Depth, InPast}
use Rattle.rules.specs.First.{First}
use Rattle.rules.specs.Answers.{Put, PutMarks}
use Rattle.rules.specs.Table.{WholeDigests, Over}

-- inside S from d to a child, and so on, to where S has no child; the list is what comes after d
pub data Run (G : List Op) (S : ℕ → Type 0) : ℕ → List ℕ → Type 0 where
  ends : {d : ℕ} → S d → ((c : ℕ) → S c → ¬ Child G d c) → Run G S d []
  goes : {d c : ℕ} {cs : List ℕ} → S d → Child G d c → Run G S c cs → Run G S d (c ∷ cs)

-- a complete chain inside S: it starts at an operation without predecessors
pub record Chain (G : List Op) (S : ℕ → Type 0) (first : ℕ) (rest : List ℕ) : Type 0 where
  pub held : Held G first
  pub bare : held.op.preds ≡ []
  pub run : Run G S first rest

-- an operation of the heads and their ancestors that every complete chain passes through
pub record Boundary (G : List Op) (heads : List ℕ) (x : ℕ) : Type 0 where
  pub inside : InPast G heads x
  pub through : (first : ℕ) (rest : List ℕ) → Chain G (InPast G heads) first rest → x ∈ first ∷ rest

-- by depth, then digest
pub record Sooner (G : List Op) (a b : ℕ) : Type 0 where
  pub low : ℕ
  pub high : ℕ
  pub depth_a : Depth G a low
  pub depth_b : Depth G b high
  pub order : (low < high) ⊎ ((low ≡ high) × (a < b))

-- a batch begins at place i of the ordered list: at the first place, before a boundary and after one (i - 1 is 0 at the first place)
pub data Begins (G : List Op) (heads ds : List ℕ) (i : ℕ) : Type 0 where
  at_first : i ≡ 0 → Begins G heads ds i
  at_boundary : Boundary G heads (get_or ds i 0) → Begins G heads ds i
  past_boundary : Boundary G heads (get_or ds (i - 1) 0) → Begins G heads ds i

-- a mark is 1 where P holds, else 0
pub data Mark (P : Type 0) (m : ℕ) : Type 0 where
  marked : m ≡ 1 → P → Mark P m
  unmarked : m ≡ 0 → ¬ P → Mark P m

-- ds are the heads and their ancestors, ordered, and marks tell where a batch begins
pub record Batches (G : List Op) (heads ds marks : List ℕ) : Type 0 where
  pub into : (d : ℕ) → d ∈ ds → InPast G heads d
  pub back : (d : ℕ) → InPast G heads d → d ∈ ds
  pub ordered : Ordered (Sooner G) ds
  pub sized : length marks ≡ length ds
  pub begins : (i : ℕ) → i < length ds → Mark (Begins G heads ds i) (get_or marks i 0)

-- the number of batches: as many as begin
unfoldable pub batch_count : List ℕ → ℕ
batch_count [] = 0
batch_count (m ∷ ms) = m + batch_count ms

-- 9: the digests or the marks are longer than the output lent for them
pub record NoBatchRoom (G : List Op) (heads s u : List ℕ) : Type 0 where
  pub ds : List ℕ
  pub marks : List ℕ
  pub all : Batches G heads ds marks
  pub short : (length s < 32 * length ds) ⊎ (length u < length marks)

-- Batches of the heads are answered; a refusal answers none. n is the number, ops and batches the counts;
-- the output for digests is s before and t after, that for marks u before and v after.
pub record BatchesAnswered (rs : List (ℕ × Type 0)) (G : List Op) (heads s t u v : List ℕ) (n ops batches : ℕ) : Type 0 where
  pub number : First (rs ++ ((9, NoBatchRoom G heads s u) ∷ [])) n
  pub ds : List ℕ
  pub marks : List ℕ
  pub done : n ≡ 0 → Batches G heads ds marks
  pub refused : ¬ (n ≡ 0) → (ds ≡ []) × (marks ≡ [])
  pub counted : ops ≡ length ds
  pub parted : batches ≡ batch_count marks
  pub put : Put ds s t
  pub put_marks : PutMarks marks u v

-- for a head list that is lent, of at most so many digests
abbrev pub batches_for_heads_refusals : ℕ → Type 0 → List Op → List ℕ → List (ℕ × Type 0)
batches_for_heads_refusals most damaged G l =
    (1, ¬ WholeDigests l)
    ∷ (2, Over most l)
    ∷ (3, damaged)
    ∷ (8, digests_of l ≡ [])
    ∷ (7, Unheld G (digests_of l))
    ∷ []

-- for all heads
abbrev pub batches_refusals : Type 0 → List ℕ → List (ℕ × Type 0)
batches_refusals damaged heads = (3, damaged) ∷ (8, heads ≡ []) ∷ []
