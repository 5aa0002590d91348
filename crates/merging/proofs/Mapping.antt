-- Slots of the second store mapped to places of the first.
-- Assumes nothing.
use Prim.Native.Nat.{ℕ, ◌≤◌, ◌<◌}
use native.Mathlib.Omega.{arith}
use mathlib.Core.Path.{◌≡◌, refl, ◌∙◌, ap}
use mathlib.Core.List.{List}
use lib.ListN.{length, get_or, take}
use Rattle.std.proofs.lemmas.List.{get_or-take, length-take-le}
use Rattle.rules.specs.Bytes.{digest_of, row}
use Rattle.rules.proofs.Bytes.{row_same}
use Rattle.rules.proofs.Heads.{op_same}
use Rattle.store.specs.Layout.{count_of, digest_at, member_at, kind_at, preds_at, pred_at, op_of}
use Rattle.store.specs.Writes.{offered}
use Rattle.walk.specs.Marks.{Ready, Front}
use Rattle.walk.proofs.Painting.{ready_few, ready_early}
use Rattle.merging.specs.Places.{Places, placed, Mapped}

-- operation i of the second store with its slots mapped
module _ {s o : List ℕ} {q : Places} {h h' : List ℕ} {r i c : ℕ} (R : Ready o r) (l : i < count_of o) (M : Mapped s o q i) (n : c ≡ preds_at o i) (F : Front (λ k. placed q (pred_at o i k)) h h' c) where
  slot : (k : ℕ) → k < c → (get_or h' k 0 < count_of s) × (digest_at s (get_or h' k 0) ≡ digest_at o (pred_at o i k))
  slot k b = let x = M.each (pred_at o i k) (ready_early R i l k (omega arith)) in rw (F.there k b) (x.1, x.2)

  pub mapped_few : c ≤ 16
  mapped_few = omega (arith, ready_few R i l)

  module _ (b : 16 ≤ length h) where
    whole : length (take c h') ≡ c
    whole = length-take-le c h' (omega (arith, mapped_few, F.size))

    pub mapped_op : (d m : List ℕ) → digest_of d ≡ digest_at o i → digest_of m ≡ member_at o i → offered s d (kind_at o i) m (take c h') ≡ op_of o i
    mapped_op d m e f =
        op_same (offered s d (kind_at o i) m (take c h')) (op_of o i) e refl f
        (ap (λ x. row x (λ k. digest_at s (get_or (take c h') k 0))) (whole ∙ n)
        ∙ row_same (preds_at o i) (λ k. digest_at s (get_or (take c h') k 0)) (λ k. digest_at o (pred_at o i k)) (λ k x. ap (digest_at s) (get_or-take c h' k 0 (omega arith)) ∙ (slot k (omega arith)).1))
