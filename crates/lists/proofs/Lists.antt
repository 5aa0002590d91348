-- What the calls that answer a list share: refusals that do not hold, sets written or without room, the places of predecessors.
-- Assumes nothing.
use Prim.Native.Nat.{ℕ, ◌*◌, ◌≤◌, ◌<◌}
use native.Mathlib.Omega.{arith}
use mathlib.Core.Path.{◌≡◌, refl, sym, ◌∙◌, ap, subst}
use mathlib.Core.List.{List, []}
use lib.ListN.{length, get_or}
use Rattle.std.specs.Prelude.{Result, Ok}
use Rattle.rules.specs.Answers.{Put, Listed}
use Rattle.rules.specs.Bytes.{row}
use Rattle.rules.specs.Graph.{Op, Held, Child}
use Rattle.rules.specs.Lists.{◌∈◌, SetOf}
use Rattle.rules.specs.Numbers.{number_of, value_of}
use Rattle.rules.specs.declared.Refusal.{Refusal}
use Rattle.rules.proofs.Answers.{first_none, listed_past, listed_whole, listed_short, listed_none}
use Rattle.rules.proofs.Bytes.{row_same}
use Rattle.rules.proofs.First.{Apart}
use Rattle.rules.proofs.Formed.{closed}
use Rattle.refusal.specs.Damage.{GraphOf, Tested}
use Rattle.refusal.proofs.Graphs.{unheld}
use Rattle.store.specs.Layout.{count_of, digest_at, preds_at, pred_at, op_of, ops_of}
use Rattle.store.specs.declared.graph.Graph.{Graph}
use Rattle.store.proofs.Ops.{sound_formed, sound_checked, checked_proper}
use Rattle.walk.specs.Marks.{Ready, Tells, Front}
use Rattle.walk.proofs.Painting.{large_ready}
use Rattle.walk.proofs.Places.{op_at_lem, op_here}
use Rattle.order.specs.Sorted.{digests_at, WroteMarked}
use Rattle.order.proofs.Ordered.{wrote_listed}
use Rattle.order.proofs.Sorting.{digests_length}

-- after a test that refuses nothing, the set of held digests that the graph's marks tell of is answered
pub marks_listed : (P : List Op → ℕ → Type 0) {rs : List (ℕ × Type 0)} {s m h t o o' : List ℕ} {g : Graph} {a : Result ℕ Refusal} → Apart 0 rs → Tested rs (GraphOf s) (Ok g) → Tells g.bytes.now (P (ops_of g.bytes.now)) m → ((x : ℕ) → P (ops_of s) x → Held (ops_of s) x) → WroteMarked g.bytes.now [] m h t o o' a → Listed rs (P (ops_of s)) o o' (number_of a) (value_of a)
marks_listed P {rs} A t T H w =
    let e = t.passed.bytes in
    let W = rw e at w in
    listed_past (first_none rs 0 A t.number) (wrote_listed (large_ready t.passed.sound) W.sorted (rw e at T) H (λ j. refl) W.wrote)

-- where no record has the digest, there are no children
pub childless : {rs : List (ℕ × Type 0)} {s o : List ℕ} {g : Graph} {d : ℕ} → Apart 0 rs → Tested rs (GraphOf s) (Ok g) → ((i : ℕ) → i < count_of g.bytes.now → ¬ (digest_at g.bytes.now i ≡ d)) → Listed rs (Child (ops_of s) d) o o 0 0
childless {rs} A t f = listed_past (first_none rs 0 A t.number) (listed_none (λ x k. unheld t.passed f (closed (sound_formed t.passed.sound) k.stands k.lists)))

module _ {s : List ℕ} {r : ℕ} (R : Ready s r) where
  module _ {i d c : ℕ} {h h' : List ℕ} (l : i < count_of s) (e : digest_at s i ≡ d) (q : c ≡ preds_at s i) (W : Front (pred_at s i) h h' c) where
    digests_preds : digests_at s h' c ≡ (op_of s i).preds
    digests_preds = row_same c (λ k. digest_at s (get_or h' k 0)) (λ k. digest_at s (pred_at s i k)) (λ k b. ap (digest_at s) (W.there k b)) ∙ ap (λ n. row n (λ k. digest_at s (pred_at s i k))) q

    -- the digests at the places are the predecessors
    preds_set : SetOf (λ p. Child (ops_of s) p d) (digests_at s h' c)
    preds_set =
        rw digests_preds
        (record {
          ascending = (checked_proper (sound_checked R.sound) i l).preds;
          into = λ p m. record { op = op_of s i; stands = op_at_lem R i l; named = e; lists = m };
          back = λ p k. subst (λ o. p ∈ o.preds) (op_here R i l k.stands (k.named ∙ sym e)) k.lists;
        })

    pub preds_whole : {o o' : List ℕ} → 32 * c ≤ length o → Put (digests_at s h' c) o o' → Listed [] (λ p. Child (ops_of s) p d) o o' 0 c
    preds_whole b p = rw (digests_length s h' c) at (listed_whole preds_set (omega (arith, digests_length s h' c)) p)

    pub preds_short : {o : List ℕ} → length o < 32 * c → Listed [] (λ p. Child (ops_of s) p d) o o 9 0
    preds_short b = listed_short preds_set (omega (arith, digests_length s h' c))
