-- `lists::predecessors_for` meets its contract.
use Prim.Native.Nat.{ℕ, ◌*◌, ◌≤◌, ◌<◌}
use native.Mathlib.Omega.{arith}
use mathlib.Core.Path.{◌≡◌}
use mathlib.Core.List.{List}
use lib.ListN.{length, get_or, take, length-take}
use lib.Seq.{get_or-take}
use Rattle.rules.specs.Answers.{Put, Listed}
use Rattle.rules.specs.Bytes.{digest_of}
use Rattle.rules.specs.Graph.{Child}
use Rattle.rules.specs.Small.{digest_refusals, held_refusals}
use Rattle.rules.proofs.Answers.{listed_past}
use Rattle.rules.proofs.First.{None}
use Rattle.std.specs.Prelude.{Ok}
use Rattle.refusal.specs.Damage.{Damaged, GraphOf, Tested}
use Rattle.refusal.proofs.Graphs.{held, unheld, found_on, lacking_on}
use Rattle.refusal.proofs.Refusals.{refuses_list, tested_part, held_refused, held_lacking, held_none}
use Rattle.store.specs.Layout.{count_of, digest_at, preds_at, pred_at, ops_of}
use Rattle.store.specs.declared.graph.Graph.{Graph}
use Rattle.order.specs.Sorted.{digests_at}
use Rattle.order.proofs.Sorting.{digests_front}
use Rattle.walk.specs.Marks.{Ready, Front}
use Rattle.walk.proofs.Painting.{graph_large, ready_early, ready_few}
use Rattle.lists.proofs.Lists.{preds_whole, preds_short}
use Rattle.lists.proofs.predecessors_for.Goals as goal

-- the digest d of the store s, not refused, stands at place i of its graph g; h' has the c places that record i lists
module _ (s d : List ℕ) {g : Graph} {h h' : List ℕ} {i c : ℕ} (T : Tested (digest_refusals (Damaged s) d) (GraphOf s) (Ok g)) (l : i < count_of g.bytes.now) (e : digest_at g.bytes.now i ≡ digest_of d) (P : (c ≡ preds_at g.bytes.now i) × Front (pred_at g.bytes.now i) h h' c) where
  ready : Ready g.bytes.now 512
  ready = graph_large g

  passed : None (held_refusals (Damaged s) (ops_of s) d)
  passed = held_none s d T.number (held T.passed l e)

  -- each of the places is below the count
  places_below : 16 ≤ length h' → (k : ℕ) → k < length (take c h') → get_or (take c h') k 0 < count_of g.bytes.now
  places_below b k q = omega (arith, length-take c h', get_or-take c h' k 0 (omega (arith, length-take c h')), P.0, P.1.there k (omega (arith, length-take c h')), ready_early ready i l k (omega (arith, P.0, length-take c h')))

  few : 16 ≤ length h' → c ≤ length h'
  few b = omega (arith, P.0, ready_few ready i l)

  -- the predecessors are written, or there is no room for them
  written : {o o' : List ℕ} → 16 ≤ length h' → 32 * c ≤ length o → Put (digests_at g.bytes.now (take c h') (length (take c h'))) o o' → Listed (held_refusals (Damaged s) (ops_of s) d) (λ q. Child (ops_of s) q (digest_of d)) o o' 0 c
  written a b q = listed_past passed (rw T.passed.bytes at (preds_whole ready l e P.0 P.1 b (rw (digests_front g.bytes.now h' c (few a)) at q)))

  unwritten : {o : List ℕ} → length o < 32 * c → Listed (held_refusals (Damaged s) (ops_of s) d) (λ q. Child (ops_of s) q (digest_of d)) o o 9 0
  unwritten b = listed_past passed (rw T.passed.bytes at (preds_short ready l e P.0 P.1 b))

pub returns-in_err-graph : goal.returns-in_err-graph
returns-in_err-graph c = refuses_list _ _ c.from_residual.ensures.1 (held_refused _ _ _ c.in_err-graph.ensures.number)

pub returns-in_err-i : goal.returns-in_err-i
returns-in_err-i c =
    let t = c.in_ok-graph.ensures in
    let n = lacking_on c.place_of.result _ _ _ _ c.in_err-i.ensures.value c.place_of.ensures in
    refuses_list _ _ c.from_residual-in_err-i.ensures.1 (rw n.1 (held_lacking _ _ t.number (unheld t.passed.0 (rw t.passed.1 at n.0))))

pub returns-then-out-c : goal.returns-then-out-c
returns-then-out-c c =
    let t = c.in_ok-graph.ensures in
    let place = found_on c.place_of.result _ _ _ _ c.in_ok-i.ensures.value c.place_of.ensures in unwritten _ _ (tested_part t) place.0 (rw t.passed.1 at place.1) c.copy_preds-c.ensures c.if-out-c.true

pub write_digests-requires-clause-named : goal.write_digests-requires-clause-named
write_digests-requires-clause-named c =
    let t = c.in_ok-graph.ensures in
    let place = found_on c.place_of.result _ _ _ _ c.in_ok-i.ensures.value c.place_of.ensures in places_below _ _ (tested_part t) place.0 (rw t.passed.1 at place.1) c.copy_preds-c.ensures (omega arith)

pub returns : goal.returns
returns c =
    let t = c.in_ok-graph.ensures in
    let place = found_on c.place_of.result _ _ _ _ c.in_ok-i.ensures.value c.place_of.ensures in written _ _ (tested_part t) place.0 (rw t.passed.1 at place.1) c.copy_preds-c.ensures (omega arith) (omega arith) c.write_digests.ensures
