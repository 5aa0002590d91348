-- Painting marks: what several turns of it leave.
-- Assumes nothing.
use Prim.Native.Nat.{ℕ, ◌≤◌, ◌<◌}
use native.Mathlib.Omega.{arith}
use native.Mathlib.Decide.{ℕ_discrete}
use mathlib.Core.Path.{◌≡◌, refl, ◌∙◌}
use mathlib.Core.Logic.{◌⊎◌, inl, inr}
use mathlib.Core.List.{List}
use lib.ListN.{length, get_or, set, length-set}
use lib.Seq.{get_or-set_same, get_or-set_other}
use Rattle.store.specs.Layout.{count_of, preds_at, pred_at}
use Rattle.rules.specs.Table.{Limits, limits}
use Rattle.store.specs.Sound.{Roomy, Sound, Laid}
use Rattle.rules.specs.Batches.{Mark}
use Rattle.store.specs.Capacities.{limits_of}
use Rattle.store.specs.declared.graph.Graph.{Graph}
use Rattle.store.proofs.Cut.{checked_sound, capacity_roomy}
use Rattle.store.proofs.Ops.{sound_laid}
use Rattle.walk.specs.Marks.{Ready, Paint, hit, miss, Painted}

-- the same places, said otherwise
pub paint_as : {P Q : Type 0} {v a b : ℕ} → (P → Q) → (Q → P) → Paint P v a b → Paint Q v a b
paint_as f g (hit p e) = hit (f p) e
paint_as f g (miss n e) = miss (λ q. n (g q)) e

paint_two : {P Q : Type 0} {v a b c : ℕ} → Paint P v a b → Paint Q v b c → Paint (P ⊎ Q) v a c
paint_two x (hit q e) = hit (inr q) e
paint_two (hit p d) (miss n e) = hit (inl p) (e ∙ d)
paint_two {P} {Q} (miss m d) (miss n e) = miss neither (e ∙ d)
  where
    neither : P ⊎ Q → ⊥
    neither (inl p) = m p
    neither (inr q) = n q

pub painted_as : {P Q : ℕ → Type 0} {v : ℕ} {m m' : List ℕ} → ((j : ℕ) → P j → Q j) → ((j : ℕ) → Q j → P j) → Painted P v m m' → Painted Q v m m'
painted_as f g w = record { size = w.size; each = λ j. paint_as (f j) (g j) (w.each j) }

pub painted_two : {P Q : ℕ → Type 0} {v : ℕ} {m u m' : List ℕ} → Painted P v m u → Painted Q v u m' → Painted (λ j. P j ⊎ Q j) v m m'
painted_two a b = record { size = b.size ∙ a.size; each = λ j. paint_two (a.each j) (b.each j) }

pub painted_none : {P : ℕ → Type 0} (v : ℕ) (m : List ℕ) → ((j : ℕ) → ¬ P j) → Painted P v m m
painted_none v m f = record { size = refl; each = λ j. miss (f j) refl }

pub painted_one : (m : List ℕ) (p v : ℕ) → p < length m → Painted (λ j. j ≡ p) v m (set m p v)
painted_one m p v h = record { size = length-set m p v; each = λ j. go j (ℕ_discrete j p) }
  where
    go : (j : ℕ) → Dec (j ≡ p) → Paint (j ≡ p) v (get_or m j 0) (get_or (set m p v) j 0)
    go j (yes e) = hit e (rw e (get_or-set_same m p v 0 h))
    go j (no n) = miss n (get_or-set_other m p j v 0 n)

-- a graph is ready where there is room for a mark of each of its operations, and so where there is room for as many as any store holds
pub graph_ready : (g : Graph) {n : ℕ} → count_of g.bytes.now ≤ n → Ready g.bytes.now n
graph_ready g h = let R = capacity_roomy g.capacity in record { limits = limits_of g.capacity; roomy = R; sound = checked_sound R g.checked; enough = h }

pub graph_large : (g : Graph) → Ready g.bytes.now 512
graph_large g = graph_ready g (omega (arith, g.checked.frame.few, g.capacity.roomy.0))

-- a sound store is ready for as many marks as it may hold operations
pub sound_ready : {L : Limits} {s : List ℕ} → Roomy L → Sound L s → Ready s L.operations
sound_ready {L} r S = record { limits = L; roomy = r; sound = S; enough = (sound_laid S).frame.few }

pub large_ready : {s : List ℕ} → Sound limits s → Ready s 512
large_ready S = sound_ready (record { operations = omega arith; predecessors = omega arith }) S

-- what a ready store has
module _ {s : List ℕ} {r : ℕ} (R : Ready s r) where
  pub ready_laid : Laid R.limits s
  ready_laid = sound_laid R.sound

  pub ready_few : (i : ℕ) → i < count_of s → preds_at s i ≤ 16
  ready_few i h = omega (arith, (ready_laid.slots i h).few, R.roomy.predecessors)

  pub ready_early : (i : ℕ) → i < count_of s → (k : ℕ) → k < preds_at s i → pred_at s i k < i
  ready_early i h = (ready_laid.slots i h).early

-- the first i marks tell of P, the others are as they were
pub record Marking (P : ℕ → Type 0) (i : ℕ) (m m' : List ℕ) : Type 0 where
  pub size : length m' ≡ length m
  pub each : (j : ℕ) → j < i → Mark (P j) (get_or m' j 0)
  pub rest : (j : ℕ) → i ≤ j → get_or m' j 0 ≡ get_or m j 0
