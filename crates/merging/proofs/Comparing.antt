-- When two records hold the same operation, and what comparing the second store's operations one by one finds.
-- Assumes nothing.
use Prim.Native.Nat.{ℕ, ◌+◌, ◌<◌}
use native.Mathlib.Omega.{arith}
use native.Mathlib.Decide.{ℕ_discrete}
use mathlib.Core.Path.{◌≡◌, refl, sym, ◌∙◌, ap, subst}
use mathlib.Core.List.{List, [], ◌∷◌, ◌++◌}
use lib.ListN.{length, get_or, set, length-set, length-append}
use lib.Seq.{get_or-set_same, get_or-set_other}
use Rattle.std.specs.Prelude.{Option, Some, None}
use Rattle.rules.specs.Bytes.{row}
use Rattle.rules.specs.Graph.{Op, Held}
use Rattle.rules.specs.Merge.{Clash, Differ, kinds, members, sets, no_more}
use Rattle.rules.proofs.Heads.{op_same}
use Rattle.rules.proofs.Bytes.{row_length, row_at, row_same, row_none, row_more}
use Rattle.rules.proofs.Merge.{missing_has, missing_lacks}
use Rattle.store.specs.Layout.{count_of, digest_at, member_at, kind_at, preds_at, pred_at, op_of, ops_of}
use Rattle.walk.specs.Marks.{Ready}
use Rattle.walk.proofs.Places.{held_at, one_place, op_at_lem}
use Rattle.merging.specs.Places.{Places, SameSlots, PlaceIn, held, lacks, Placement, Agrees}

module _ (s : List ℕ) (p : ℕ) (o : List ℕ) (i : ℕ) where
  pub record_same : digest_at s p ≡ digest_at o i → kind_at s p ≡ kind_at o i → member_at s p ≡ member_at o i → preds_at s p ≡ preds_at o i → SameSlots s p o i (preds_at s p) → op_of s p ≡ op_of o i
  record_same d k m n f =
      let r : (op_of s p).preds ≡ (op_of o i).preds = row_same (preds_at s p) (λ x. digest_at s (pred_at s p x)) (λ x. digest_at o (pred_at o i x)) f ∙ ap (λ c. row c (λ x. digest_at o (pred_at o i x))) n in
      op_same (op_of s p) (op_of o i) d k m r

  pub same_preds : op_of s p ≡ op_of o i → preds_at s p ≡ preds_at o i
  same_preds e = sym (row_length (preds_at s p) (λ x. digest_at s (pred_at s p x))) ∙ ap (λ q. length q.preds) e ∙ row_length (preds_at o i) (λ x. digest_at o (pred_at o i x))

  pub same_slots : op_of s p ≡ op_of o i → SameSlots s p o i (preds_at s p)
  same_slots e k l = sym (row_at 0 (preds_at s p) (λ x. digest_at s (pred_at s p x)) k l) ∙ ap (λ q. get_or q.preds k 0) e ∙ row_at 0 (preds_at o i) (λ x. digest_at o (pred_at o i x)) k (omega (arith, same_preds e))

-- operations of one digest that aren't the same differ in kind, member or set
pub differs : (a b : Op) → a.digest ≡ b.digest → ¬ (a ≡ b) → Differ a b
differs a b d n = go (ℕ_discrete a.kind b.kind) (ℕ_discrete a.member b.member)
  where
    go : Dec (a.kind ≡ b.kind) → Dec (a.member ≡ b.member) → Differ a b
    go (no x) y = kinds x
    go (yes k) (no x) = members x
    go (yes k) (yes m) = sets (λ e. n (op_same a b d k m e))

-- operations of one digest that aren't the same clash
pub clash_at : {s o : List ℕ} {r t k i : ℕ} → Ready s r → Ready o t → i < count_of o → (k < count_of s) × (digest_at s k ≡ digest_at o i) → ¬ (op_of s k ≡ op_of o i) → Clash (ops_of s) (ops_of o)
clash_at {s} {o} {k = k} {i = i} R O l f n =
    record {
      one = op_of s k;
      other = op_of o i;
      here = op_at_lem R k f.0;
      there = op_at_lem O i l;
      named = f.1;
      differ = differs (op_of s k) (op_of o i) f.1 n;
    }

-- a place more is written
placed_more : {s o : List ℕ} {p q : Places} {i : ℕ} {v : Option ℕ} → i < length q → Placement s o p q i → PlaceIn s (digest_at o i) v → Placement s o p (set q i v) (i + 1)
placed_more {s} {o} {p} {q} {i} {v} b W x =
    record {
      size = length-set q i v ∙ W.size;
      there = λ j l. go j l (ℕ_discrete j i);
      rest = λ j l. get_or-set_other q i j v None (λ e. omega arith) ∙ W.rest j (omega arith);
    }
  where
    go : (j : ℕ) → j < i + 1 → Dec (j ≡ i) → PlaceIn s (digest_at o j) (get_or (set q i v) j None)
    go j l (yes e) = rw e (rw (get_or-set_same q i v None b) x)
    go j l (no n) = rw (get_or-set_other q i j v None n) (W.there j (omega arith))

pub agrees_none : (s o : List ℕ) (p : Places) → Agrees s o p p 0 0
agrees_none s o p =
    record {
      placed = record { size = refl; there = λ j l. absurd (omega arith); rest = λ j l. refl };
      few = omega arith;
      alike = λ j k l. absurd (omega arith);
      more = [];
      missing = rw row_none no_more;
      counted = refl;
    }

module _ {s o : List ℕ} {r : ℕ} (R : Ready s r) {p q : Places} {i c : ℕ} (b : i < length q) (A : Agrees s o p q i c) where
  -- the next operation stands at place k of s
  pub agrees_has : (k : ℕ) → k < count_of s → op_of s k ≡ op_of o i → Agrees s o p (set q i (Some k)) (i + 1) c
  agrees_has k l e =
      record {
        placed = placed_more b A.placed (held l (ap (λ x. x.digest) e));
        few = omega (arith, A.few);
        alike = λ j x u v f. alike j x u v f (ℕ_discrete j i);
        more = A.more;
        missing = rw (row_more i (op_of o)) (missing_has (op_of o i) A.missing (subst (Held (ops_of s)) (ap (λ x. x.digest) e) (held_at R k l)));
        counted = A.counted;
      }
    where
      alike : (j x : ℕ) → j < i + 1 → x < count_of s → digest_at s x ≡ digest_at o j → Dec (j ≡ i) → op_of s x ≡ op_of o j
      alike j x u v f (yes z) =
          let y : x ≡ k = one_place R x k v l (f ∙ ap (digest_at o) z ∙ sym (ap (λ x. x.digest) e)) in
          ap (op_of s) y ∙ e ∙ sym (ap (op_of o) z)
      alike j x u v f (no n) = A.alike j x (omega arith) v f

  -- s lacks the next operation
  pub agrees_lacks : ¬ Held (ops_of s) (digest_at o i) → Agrees s o p (set q i None) (i + 1) (c + 1)
  agrees_lacks h =
      record {
        placed = placed_more b A.placed (lacks h);
        few = omega (arith, A.few);
        alike = λ j x u v f. alike j x u v f (ℕ_discrete j i);
        more = A.more ++ (op_of o i ∷ []);
        missing = rw (row_more i (op_of o)) (missing_lacks (op_of o i) A.missing h);
        counted = length-append A.more (op_of o i ∷ []) ∙ omega (arith, A.counted);
      }
    where
      alike : (j x : ℕ) → j < i + 1 → x < count_of s → digest_at s x ≡ digest_at o j → Dec (j ≡ i) → op_of s x ≡ op_of o j
      alike j x u v f (yes z) = absurd (h (subst (Held (ops_of s)) (f ∙ ap (digest_at o) z) (held_at R x v)))
      alike j x u v f (no n) = A.alike j x (omega arith) v f
