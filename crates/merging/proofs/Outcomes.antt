-- Merge has one outcome; sound stores stay sound; a store that lacks nothing of the other doesn't change; stores with the same
-- operations answer the same and hold the same operations after it.
-- Assumes nothing.
use Prim.Native.Nat.{ℕ}
use native.Mathlib.Omega.{arith}
use native.Mathlib.Decide.{ℕ_discrete}
use mathlib.Core.Path.{◌≡◌, refl, sym, ◌∙◌, subst}
use mathlib.Core.List.Memᴰ
use mathlib.Core.List.{List, [], append-nil}
use Rattle.rules.specs.Graph.{Op, Held}
use Rattle.rules.specs.Lists.{◌∈◌, Alike}
use Rattle.rules.specs.Merge.{Missing, no_more, has, lacks}
use Rattle.rules.specs.Table.{limits}
use Rattle.rules.proofs.Merge.{merges_unique, merges_same}
use Rattle.store.specs.Layout.{ops_of}
use Rattle.store.specs.Sound.{Roomy, Sound}
use Rattle.store.proofs.Ops.{sound_formed}
use Rattle.store.proofs.Unique.{store_unique}
use Rattle.merging.specs.Merges.{MergesInto}
use Rattle.merging.proofs.Merging.{undamaged}

roomy : Roomy limits
roomy = record { operations = omega arith; predecessors = omega arith }

module _ {s o t : List ℕ} {n : ℕ} (A : MergesInto s o t n) where
  pub merge_sound : Sound limits s → Sound limits t
  merge_sound S = go (ℕ_discrete n 0)
    where
      go : Dec (n ≡ 0) → Sound limits t
      go (yes z) = A.sound z
      go (no z) = subst (Sound limits) (sym (A.untouched z)) S

  pub merge_unique : {u : List ℕ} {m : ℕ} → MergesInto s o u m → (n ≡ m) × (t ≡ u)
  merge_unique {u} {m} B = let e = merges_unique A.merges B.merges in (e.1, go (ℕ_discrete n 0) e.1 e.0)
    where
      go : Dec (n ≡ 0) → n ≡ m → ops_of t ≡ ops_of u → t ≡ u
      go (yes z) e f = store_unique roomy (A.sound z) (B.sound (sym e ∙ z)) f
      go (no z) e f = A.untouched z ∙ sym (B.untouched (λ x. z (e ∙ x)))

  -- nothing is lacking, and no byte changes
  pub merge_nothing : Sound limits s → ((x : Op) → x ∈ ops_of o → Held (ops_of s) x.digest) → t ≡ s
  merge_nothing S f = go (ℕ_discrete n 0)
    where
      none : {H M : List Op} → ((x : Op) → x ∈ H → Held (ops_of s) x.digest) → Missing (ops_of s) H M → M ≡ []
      none g no_more = refl
      none g (has h m) = none (λ x i. g x (Memᴰ.tail i)) m
      none g (lacks {o = x} h m) = absurd (h (g x (Memᴰ.head refl)))

      go : Dec (n ≡ 0) → t ≡ s
      go (yes z) = let u = A.merges.done z in store_unique roomy (A.sound z) S (u.joined ∙ rw (none f u.missing, append-nil) refl)
      go (no z) = A.untouched z

  pub merge_same : {s' o' t' : List ℕ} {n' : ℕ} → Sound limits s → Sound limits o → Sound limits s' → Sound limits o' → Alike (ops_of s) (ops_of s') → Alike (ops_of o) (ops_of o') → MergesInto s' o' t' n' → (n ≡ n') × Alike (ops_of t) (ops_of t')
  merge_same {s'} {o'} {t'} S O S' O' e f B =
      let r = merges_same limits ((λ d. absurd (undamaged S O d)), (λ d. absurd (undamaged S' O' d))) (λ d. (sound_formed S, sound_formed O, sound_formed S', sound_formed O')) e f A.merges in
      let u = merges_unique r.1 B.merges in
      (u.1, subst (Alike (ops_of t)) u.0 r.2)
