-- Places and digests say the same of a ready store.
-- Assumes nothing.
use Prim.Native.Nat.{ℕ, ◌<◌}
use native.Mathlib.Omega.{arith}
use mathlib.Core.Path.{◌≡◌, refl, sym, ◌∙◌, ap, subst}
use mathlib.Core.List.{List}
use Rattle.store.specs.Layout.{count_of, digest_at, preds_at, pred_at, op_of, ops_of}
use Rattle.store.specs.Answers.{Looked}
use Rattle.std.specs.Prelude.{Option, None}
use Rattle.rules.specs.Graph.{Op, Held}
use Rattle.rules.specs.Lists.{◌∈◌}
use Rattle.store.proofs.Ops.{ops_length, ops_at, checked_distinct, sound_formed, sound_checked}
use Rattle.store.proofs.Tests.{looked_none}
use Rattle.rules.proofs.Bytes.{row_in, in_row}
use Rattle.rules.proofs.Formed.{no_op, Formed, one_op}
use Rattle.rules.proofs.Lists.{at_in, in_at}
use Rattle.walk.specs.Marks.{Ready}
use Rattle.walk.specs.Passes.{Lists}
use Rattle.walk.proofs.Painting.{ready_early}

module _ {s : List ℕ} {r : ℕ} (R : Ready s r) where
  pub ready_formed : Formed (ops_of s)
  ready_formed = sound_formed R.sound

  pub op_at_lem : (i : ℕ) → i < count_of s → op_of s i ∈ ops_of s
  op_at_lem i h = subst (λ o. o ∈ ops_of s) (ops_at s i h) (at_in no_op (ops_of s) i (omega (arith, ops_length s)))

  abbrev pub held_at : (i : ℕ) → i < count_of s → Held (ops_of s) (digest_at s i)
  held_at i h = record { op = op_of s i; stands = op_at_lem i h; named = refl }

  -- an operation's place
  pub place_of : {o : Op} → o ∈ ops_of s → (i : ℕ) × (i < count_of s) × (op_of s i ≡ o)
  place_of m =
      let a = in_at no_op m in
      let h : a.0 < count_of s = omega (arith, a.1, ops_length s) in
      (a.0, h, sym (ops_at s a.0 h) ∙ a.2)

  pub one_place : (i j : ℕ) → i < count_of s → j < count_of s → digest_at s i ≡ digest_at s j → i ≡ j
  one_place = checked_distinct (sound_checked R.sound)

  -- the operation at place i is the one with its digest
  pub op_here : {o : Op} (i : ℕ) → i < count_of s → o ∈ ops_of s → o.digest ≡ digest_at s i → o ≡ op_of s i
  op_here i h m e = one_op ready_formed m (op_at_lem i h) e

  pub lists_early : (i j : ℕ) → i < count_of s → Lists s i j → j < i
  lists_early i j h l = omega (arith, ready_early R i h l.nth l.below, l.there)

  pub lists_in : (i j : ℕ) → Lists s i j → digest_at s j ∈ (op_of s i).preds
  lists_in i j l = subst (λ x. digest_at s x ∈ (op_of s i).preds) l.there (row_in 0 (preds_at s i) (λ k. digest_at s (pred_at s i k)) l.nth l.below)

  pub in_lists : (i j : ℕ) → i < count_of s → j < count_of s → digest_at s j ∈ (op_of s i).preds → Lists s i j
  in_lists i j h k m =
      let a = in_row 0 (preds_at s i) (λ k. digest_at s (pred_at s i k)) (digest_at s j) m in
      record { nth = a.0; below = a.1; there = one_place (pred_at s i a.0) j (omega (arith, ready_early R i h a.0 a.1)) k a.2 }

  pub looked_unheld : (f : Option ℕ) (d : ℕ) → Looked f s (count_of s) d → f ≡ None → ¬ Held (ops_of s) d
  looked_unheld f d l e h =
      let a = place_of h.stands in
      looked_none f s (count_of s) d l e a.0 a.1 (ap (λ o. o.digest) a.2 ∙ h.named)
