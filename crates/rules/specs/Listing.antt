-- The replay program's text, as bytes.
-- Assumes nothing.
use Rattle.std.specs.Prelude.{ℕ, zero, suc, ◌+◌, ◌/◌, ◌%◌, ◌≡◌, Bool, List, [], ◌∷◌, ◌++◌, length, ltb}
use Prim.Native.Char.{code}
use Prim.Native.String.{String, [] as no_text, ◌∷◌ as ◌then◌}
use Rattle.rules.specs.Lists.{SetOf}
use Rattle.rules.specs.Graph.{Op, Held, Head, Depth}
use Rattle.rules.specs.Batches.{Batches, batch_count}
use Rattle.rules.specs.Table.{Limits}
use Rattle.rules.specs.Admission.{Admits, admission_refusals}
use Rattle.rules.specs.Log.{choose, record_digest, record_kind, record_member, record_preds, GoodLog, BadLog}

-- a text's bytes
unfoldable pub text : String → List ℕ
text no_text = []
text (◌then◌ c s) = code c ∷ text s

-- the decimal digits of n, none of them a zero in front; the first argument only bounds how many there are
unfoldable pub digits : ℕ → ℕ → List ℕ
digits zero n = (48 + n) ∷ []
digits (suc f) n = choose (ltb n 10) ((48 + n) ∷ []) (digits f (n / 10) ++ ((48 + n % 10) ∷ []))

abbrev pub decimal : ℕ → List ℕ
decimal n = digits n n

-- k lower-case hexadecimal digits, the last ones of n
unfoldable pub hex : ℕ → ℕ → List ℕ
hex zero n = []
hex (suc k) n = hex k (n / 16) ++ (choose (ltb (n % 16) 10) (48 + n % 16) (87 + n % 16) ∷ [])

-- A, R or U
abbrev pub letter : ℕ → List ℕ
letter zero = text "A"
letter (suc zero) = text "R"
letter (suc (suc k)) = text "U"

-- the lines
abbrev pub bad_log_line : List ℕ
bad_log_line = text "log refused 11\n"

-- of a record that is not refused nothing is printed
abbrev pub record_line : ℕ → ℕ → List ℕ
record_line n zero = []
record_line n (suc r) = text "record " ++ decimal n ++ text " refused " ++ decimal (suc r) ++ text "\n"

abbrev pub ops_line : ℕ → ℕ → ℕ → List ℕ
ops_line n h b = text "ops " ++ decimal n ++ text " heads " ++ decimal h ++ text " batches " ++ decimal b ++ text "\n"

abbrev pub op_line : ℕ → ℕ → ℕ → ℕ → List ℕ
op_line batch depth kind digest = decimal batch ++ text " " ++ decimal depth ++ text " " ++ letter kind ++ text " " ++ hex 64 digest ++ text "\n"

-- t is a line for each operation of the digests ds; each mark tells if it begins a batch, b batches came before
pub data OpLines (G : List Op) : ℕ → List ℕ → List ℕ → List ℕ → Type 0 where
  no_lines : {b : ℕ} → OpLines G b [] [] []
  one_line : {b m d depth : ℕ} {ds ms t : List ℕ} (h : Held G d) → Depth G d depth → OpLines G (b + m) ds ms t → OpLines G b (d ∷ ds) (m ∷ ms) (op_line (b + m) depth h.op.kind d ++ t)

-- t is what is printed of the graph: for an empty one the first line has zeros and is the last
pub record Listing (G : List Op) (t : List ℕ) : Type 0 where
  pub heads : List ℕ
  pub all : SetOf (Head G) heads
  pub ds : List ℕ
  pub marks : List ℕ
  pub batches : Batches G heads ds marks
  pub lines : List ℕ
  pub each : OpLines G 0 ds marks lines
  pub whole : t ≡ ops_line (length G) (length heads) (batch_count marks) ++ lines

-- admitting the record at p of the log s takes G to K and answers r
pub record Admitted (L : Limits) (s : List ℕ) (p : ℕ) (G K : List Op) (r : ℕ) : Type 0 where
  pub known : Bool
  pub us : List ℕ
  pub admits : Admits (admission_refusals L ⊥ G (record_digest s p) (record_kind s p) (record_member s p) (record_preds s p)) G (record_digest s p) (record_kind s p) (record_member s p) (record_preds s p) K r known us

-- admitting the records at the places ps, the first of which is number n, takes G to K; t is what is printed of the refused ones
pub data AllAdmitted (L : Limits) (s : List ℕ) : ℕ → List ℕ → List Op → List Op → List ℕ → Type 0 where
  no_records : {n : ℕ} {G : List Op} → AllAdmitted L s n [] G G []
  next_record : {n p r : ℕ} {ps t : List ℕ} {G H K : List Op} → Admitted L s p G H r → AllAdmitted L s (suc n) ps H K t → AllAdmitted L s n (p ∷ ps) G K (record_line n r ++ t)

-- t is what the replay program prints of the log s
pub data Replayed (L : Limits) (s : List ℕ) : List ℕ → Type 0 where
  bad_log : BadLog s → Replayed L s bad_log_line
  good_log : {ps t u : List ℕ} {G : List Op} → GoodLog s ps → AllAdmitted L s 1 ps [] G t → Listing G u → Replayed L s (t ++ u)
