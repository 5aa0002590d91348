-- From comparing and taking over to merge.
-- Assumes nothing.
use Prim.Native.Nat.{ℕ, ◌+◌, ◌≤◌, ◌<◌}
use native.Mathlib.Omega.{arith}
use mathlib.Core.Path.{◌≡◌, refl, sym, ◌∙◌, ap}
use mathlib.Core.Logic.{◌⊎◌, inl, inr, ⊎_elim}
use Rattle.std.specs.Prelude.{Result, IsErrAnd}
use mathlib.Core.List.{List, ◌++◌}
use lib.ListN.{length, length-append}
use Rattle.rules.specs.Graph.{Op}
use Rattle.rules.specs.Merge.{Differ, kinds, members, sets, Clash, Union, Overfull}
use Rattle.rules.specs.First.{First}
use Rattle.rules.specs.Numbers.{code, number_of}
use Rattle.rules.specs.Small.{store_refusals}
use Rattle.rules.specs.Table.{limits}
use Rattle.rules.specs.declared.Refusal.{Refusal}
use Rattle.rules.proofs.First.{first_done, first_here, first_next}
use Rattle.rules.proofs.Merge.{union_unique}
use Rattle.store.specs.Layout.{count_of, ops_of}
use Rattle.store.specs.Sound.{Sound}
use Rattle.store.proofs.Ops.{ops_length}
use Rattle.refusal.specs.Damage.{Damaged, GraphOf}
use Rattle.store.specs.declared.graph.Graph.{Graph}
use Rattle.rules.proofs.Numbers.{code_some}
use Rattle.refusal.proofs.Refusals.{handed_on}
use Rattle.walk.proofs.Painting.{large_ready}
use Rattle.walk.proofs.Places.{place_of}
use Rattle.merging.specs.Merges.{MergesInto}
use Rattle.merging.specs.Places.{Places, Agrees, Taken}
use Rattle.merging.proofs.Taking.{ops_row}

same_differ : {a b : Op} → a ≡ b → Differ a b → ⊥
same_differ e (kinds n) = n (ap (λ o. o.kind) e)
same_differ e (members n) = n (ap (λ o. o.member) e)
same_differ e (sets n) = n (ap (λ o. o.preds) e)

-- the one refusal of a store
store_damaged : {D : Type 0} {n : ℕ} → ¬ (n ≡ 0) → First (store_refusals D) n → D × (n ≡ 3)
unfolding First
store_damaged z (inl x) = x
store_damaged z (inr x) = absurd (z x.1)

-- a damaged store, on either side
pub merges_damaged : {s o : List ℕ} → Damaged s ⊎ Damaged o → MergesInto s o s 3
merges_damaged d = record { merges = record { number = first_here 3 _ _ d; done = λ e. absurd (omega arith); refused = λ n. refl }; untouched = λ n. refl; sound = λ e. absurd (omega arith) }

-- what a `?` hands on where a store is damaged
pub merges_refused : {s o : List ℕ} {D : Type 0} (e : Refusal) (r : Result (Unit {0}) Refusal) → IsErrAnd r (λ y. y ≡ e) → First (store_refusals D) (code e) → (D → Damaged s ⊎ Damaged o) → MergesInto s o s (number_of r)
merges_refused e r h f d = let x = store_damaged (code_some e) f in rw (handed_on r h, x.1) (merges_damaged (d x.0))

module _ {s o : List ℕ} (S : Sound limits s) (O : Sound limits o) where
  pub undamaged : ¬ (Damaged s ⊎ Damaged o)
  undamaged = ⊎_elim (λ n. n S) (λ n. n O)

-- the graphs of two stores that the tests do not refuse
module _ {s o : List ℕ} {g h : Graph} (S : GraphOf s g) (O : GraphOf o h) where
  sound : ¬ (Damaged s ⊎ Damaged o)
  sound = undamaged S.sound O.sound

  pub merges_clash : Clash (ops_of g.bytes.now) (ops_of h.bytes.now) → MergesInto s o s 10
  merges_clash k = record { merges = record { number = first_next 3 _ _ 10 sound (first_here 10 _ _ (rw (S.bytes, O.bytes) at k)); done = λ e. absurd (omega arith); refused = λ n. refl }; untouched = λ n. refl; sound = λ e. absurd (omega arith) }

  module _ {p q : Places} {c : ℕ} (T : Agrees g.bytes.now h.bytes.now p q (count_of h.bytes.now) c) where
    A : Agrees s o p q (count_of o) c
    A = rw (S.bytes, O.bytes) at T

    no_clash : ¬ Clash (ops_of s) (ops_of o)
    no_clash k =
        let x = place_of (large_ready S.sound) k.here in
        let y = place_of (large_ready O.sound) k.there in
        same_differ (sym x.2 ∙ A.alike y.0 x.0 y.1 x.1 (ap (λ z. z.digest) x.2 ∙ k.named ∙ sym (ap (λ z. z.digest) y.2)) ∙ y.2) k.differ

    joined : Union (ops_of s) (ops_of o) (ops_of s ++ A.more)
    joined = record { more = A.more; missing = rw (sym (ops_row o)) A.missing; joined = refl }

    total : length (ops_of s ++ A.more) ≡ count_of s + c
    total = length-append (ops_of s) A.more ∙ omega (arith, ops_length s, A.counted)

    pub merges_full : 512 < count_of g.bytes.now + c → MergesInto s o s 6
    merges_full f =
        record {
          merges = record { number = first_next 3 _ _ 6 sound (first_next 10 _ _ 6 no_clash (first_here 6 _ _ (record { union = ops_of s ++ A.more; is = joined; over = omega (arith, total, rw S.bytes at f) }))); done = λ e. absurd (omega arith); refused = λ n. refl };
          untouched = λ n. refl;
          sound = λ e. absurd (omega arith);
        }

    few : count_of g.bytes.now + c ≤ 512 → ¬ Overfull limits (ops_of s) (ops_of o)
    few f x = omega (arith, x.over, rw S.bytes at f, ap length (union_unique x.is joined), total)

    pub not_overfull : count_of g.bytes.now + c ≤ 512 → ¬ Overfull limits (ops_of s) (ops_of h.bytes.now)
    not_overfull f = rw O.bytes (few f)

    pub merges_done : {t : List ℕ} {u : Places} → count_of g.bytes.now + c ≤ 512 → Taken s h.bytes.now q t u (count_of h.bytes.now) → MergesInto s o t 0
    merges_done {t} {u} f W =
        let T = rw O.bytes at W in
        record {
          merges = record {
            number = first_next 3 _ _ 0 sound (first_next 10 _ _ 0 no_clash (first_next 6 _ _ 0 (few f) first_done));
            done = λ e. record { more = T.more; missing = rw (sym (ops_row o)) T.missing; joined = T.ops };
            refused = λ n. absurd (n refl);
          };
          untouched = λ n. absurd (n refl);
          sound = λ e. T.sound;
        }
