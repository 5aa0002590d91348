-- `ask::find` meets its contract.
use Prim.Native.Nat.{ℕ, ◌<◌}
use mathlib.Core.Path.{◌≡◌, refl, sym, ◌∙◌}
use mathlib.Core.List.{List}
use mathlib.Core.Logic.{◌⊎◌, inl, inr, ⊎_elim}
use lib.ListN.{length}
use Rattle.std.proofs.Common.{rules}
use Rattle.rules.specs.Answers.{Parted}
use Rattle.rules.specs.Bytes.{digest_of}
use Rattle.rules.specs.First.{First}
use Rattle.rules.specs.Graph.{Op, Held}
use Rattle.rules.specs.Small.{HeldIn}
use Rattle.store.specs.Layout.{count_of, digest_at, ops_of}
use Rattle.store.specs.declared.graph.Graph.{Graph}
use Rattle.refusal.specs.Damage.{GraphOf}
use Rattle.refusal.proofs.Graphs.{held, unheld}
use Rattle.ask.proofs.Answers.{parted_none, parted_refused, parted_some}
use Rattle.ask.proofs.find.Goals as goal

-- after a test that refuses nothing, the digest's own bytes in one of the stores
parted_place : {rs : List (ℕ × Type 0)} {G H : List Op} {s t : List ℕ} {g : Graph} {d i : ℕ} → First rs 0 → GraphOf s g → (i < count_of g.bytes.now) × (digest_at g.bytes.now i ≡ d) → (length t ≡ 32) × (digest_of t ≡ digest_at g.bytes.now i) → (Held (ops_of s) d → Held G d ⊎ Held H d) → Parted rs (HeldIn G H d) t
parted_place f p q r h = parted_some f (r.0, r.1 ∙ q.1) (record { same = refl; held = h (held p q.0 q.1) }) (λ x k. sym k.same)

pub returns-in_default : goal.returns-in_default
returns-in_default c = parted_refused _ c.in_default.ensures.number

pub returns-in-Some : goal.returns-in-Some
returns-in-Some c = let t = c.in-Ok.ensures in parted_place t.number t.passed.0 (rw t.passed.2 at c.in-Some.ensures) (search rules, rw (c.record.ensures.0, c.record.ensures.1) at c.digest.ensures) inl

pub returns-in-Some-place_of : goal.returns-in-Some-place_of
returns-in-Some-place_of c = let t = c.in-Ok.ensures in parted_place t.number t.passed.1 (rw t.passed.2 at c.in-Some-place_of.ensures) (search rules, rw (c.record-in-Some-place_of.ensures.0, c.record-in-Some-place_of.ensures.1) at c.digest-in-Some-place_of.ensures) inr

pub returns : goal.returns
returns c =
    let t = c.in-Ok.ensures in
    parted_none (λ f x h. ⊎_elim (unheld t.passed.0 (rw t.passed.2 at c.in_default-place_of.ensures)) (unheld t.passed.1 (rw t.passed.2 at c.in_default-place_of-2.ensures)) h.held)
