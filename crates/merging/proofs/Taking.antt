-- Operations of the second store taken over, one after the other.
-- Assumes nothing.
use Prim.Native.Nat.{ℕ, zero, suc, ◌+◌, ◌-◌, ◌≤◌, ◌<◌}
use native.Mathlib.Omega.{arith}
use native.Mathlib.Decide.{ℕ_discrete, dec_lt}
use native.Mathlib.Nat.{add-zero}
use mathlib.Core.Path.{◌≡◌, refl, sym, ◌∙◌, ap, subst}
use mathlib.Core.Logic.{◌⊎◌, inl, inr}
use mathlib.Core.List.{List, [], ◌∷◌, ◌++◌, append-nil, append_assoc}
use lib.ListN.{length, get_or, set, length-set, length-append, get_or-append}
use lib.Seq.{get_or-set_same, get_or-set_other, get_or-append_seam, ext_get_or}
use Rattle.std.specs.Prelude.{Option, Some, None}
use Rattle.rules.specs.Admission.{Admissible}
use Rattle.rules.specs.Bytes.{row}
use Rattle.rules.specs.Graph.{Op, Held}
use Rattle.rules.specs.Lists.{◌∈◌}
use Rattle.rules.specs.Merge.{Missing, no_more, Overfull}
use Rattle.rules.specs.Table.{limits}
use Rattle.rules.proofs.Bytes.{row_none, row_more, row_length, row_at, in_row}
use Rattle.rules.proofs.Past.{held?}
use Rattle.rules.proofs.Formed.{no_op, op_at}
use Rattle.rules.proofs.Merge.{missing_has, missing_lacks, missing_unique, union_into, union_is}
use Rattle.store.specs.Layout.{count_of, digest_at, preds_at, pred_at, op_of, ops_of}
use Rattle.store.specs.Sound.{Sound, admit, Admitted}
use Rattle.store.proofs.Ops.{ops_length, ops_at, checked_proper, sound_checked}
use Rattle.walk.specs.Marks.{Ready}
use Rattle.walk.proofs.Painting.{large_ready, ready_few, ready_early}
use Rattle.walk.proofs.Places.{ready_formed, held_at, one_place}
use Rattle.merging.specs.Places.{Places, placed, PlaceIn, held, lacks, AllPlaced, Taken}

-- a store that holds more has the old operations at their places
module _ (s t : List ℕ) (more : List Op) (e : ops_of t ≡ ops_of s ++ more) where
  pub count_more : count_of t ≡ count_of s + length more
  count_more = sym (ops_length t) ∙ ap length e ∙ length-append (ops_of s) more ∙ ap (λ n. n + length more) (ops_length s)

  pub op_stays : (k : ℕ) → k < count_of s → op_of t k ≡ op_of s k
  op_stays k l =
      sym (ops_at t k (omega (arith, count_more)))
      ∙ ap (λ G. op_at G k) e
      ∙ get_or-append (ops_of s) more no_op k (omega (arith, ops_length s))
      ∙ ops_at s k l

pub taken_none : {s : List ℕ} (o : List ℕ) (p : Places) → Sound limits s → Taken s o p s p 0
taken_none {s} o p S =
    record {
      sound = S;
      more = [];
      missing = rw row_none no_more;
      ops = rw append-nil refl;
      size = refl;
      done = record { each = λ j l. absurd (omega arith) };
      todo = λ j l. refl;
    }

module _ {s o : List ℕ} {p : Places} {t : List ℕ} {q : Places} {r i : ℕ} (R : Ready o r) (l : i < count_of o) (T : Taken s o p t q i) where
  -- s holds the next operation at place v
  pub taken_has : (v : ℕ) → get_or q i None ≡ Some v → v < count_of s → digest_at s v ≡ digest_at o i → Held (ops_of s) (digest_at o i) → Taken s o p t q (i + 1)
  taken_has v e b d h =
      record {
        sound = T.sound;
        more = T.more;
        missing = rw (row_more i (op_of o)) (missing_has (op_of o i) T.missing h);
        ops = T.ops;
        size = T.size;
        done = record { each = λ j x. go j x (ℕ_discrete j i) };
        todo = λ j x. T.todo j (omega arith);
      }
    where
      go : (j : ℕ) → j < i + 1 → Dec (j ≡ i) → (get_or q j None ≡ Some (placed q j)) × (placed q j < count_of t) × (digest_at t (placed q j) ≡ digest_at o j)
      go j x (yes z) = rw z (rw e (refl, omega (arith, count_more s t T.more T.ops), ap (λ y. y.digest) (op_stays s t T.more T.ops v b) ∙ d))
      go j x (no n) = T.done.each j (omega arith)

  module _ (h : ¬ Held (ops_of s) (digest_at o i)) where
    fresh : ¬ Held (ops_of t) (digest_at o i)
    fresh g = go (union_into (record { more = T.more; missing = T.missing; joined = T.ops }) g.op g.stands)
      where
        go : (g.op ∈ ops_of s) ⊎ ((g.op ∈ row i (op_of o)) × (¬ Held (ops_of s) g.op.digest)) → ⊥
        go (inl m) = h (record { op = g.op; stands = m; named = g.named })
        go (inr m) =
            let x = in_row no_op i (op_of o) g.op m.0 in
            let z = one_place R x.0 i (omega arith) l (ap (λ y. y.digest) x.2 ∙ g.named) in
            omega arith

    admissible : Admissible (ops_of t) (op_of o i)
    admissible =
        record {
          proper = checked_proper (sound_checked R.sound) i l;
          fresh = fresh;
          rooted = λ e. ap (λ y. y.kind) (sym (ops_at o i l)) ∙ (ready_formed R).rooted i (omega (arith, ops_length o)) (ap (λ y. y.preds) (ops_at o i l) ∙ e);
          known = λ x m.
              let k = in_row 0 (preds_at o i) (λ k. digest_at o (pred_at o i k)) x m in
              let y = T.done.each (pred_at o i k.0) (ready_early R i l k.0 k.1) in
              subst (Held (ops_of t)) (y.2 ∙ k.2) (held_at (large_ready T.sound) (placed q (pred_at o i k.0)) y.1);
        }

    -- the next operation is appended at place n
    pub taken_lacks : {u : List ℕ} → count_of t < 512 → i < length q → Admitted limits t (op_of o i) u → Taken s o p u (set q i (Some (count_of t))) (i + 1)
    taken_lacks {u} room b A =
        record {
          sound = admit T.sound admissible (omega (arith, row_length (preds_at o i) (λ k. digest_at o (pred_at o i k)), ready_few R i l)) (omega (arith, ops_length t)) A;
          more = T.more ++ (op_of o i ∷ []);
          missing = rw (row_more i (op_of o)) (missing_lacks (op_of o i) T.missing h);
          ops = A.ops ∙ ap (λ G. G ++ (op_of o i ∷ [])) T.ops ∙ append_assoc (ops_of s) T.more (op_of o i ∷ []);
          size = length-set q i (Some (count_of t)) ∙ T.size;
          done = record { each = λ j x. go j x (ℕ_discrete j i) };
          todo = λ j x. get_or-set_other q i j (Some (count_of t)) None (λ e. omega arith) ∙ T.todo j (omega arith);
        }
      where
        one : op_of u (count_of t) ≡ op_of o i
        one =
            sym (ops_at u (count_of t) (omega (arith, count_more t u (op_of o i ∷ []) A.ops)))
            ∙ ap (λ G. op_at G (count_of t)) A.ops
            ∙ ap (op_at (ops_of t ++ (op_of o i ∷ []))) (sym (ops_length t))
            ∙ get_or-append_seam (ops_of t) (op_of o i) [] no_op

        go : (j : ℕ) → j < i + 1 → Dec (j ≡ i) → (get_or (set q i (Some (count_of t))) j None ≡ Some (placed (set q i (Some (count_of t))) j)) × (placed (set q i (Some (count_of t))) j < count_of u) × (digest_at u (placed (set q i (Some (count_of t))) j) ≡ digest_at o j)
        go j x (yes z) = rw z (rw (get_or-set_same q i (Some (count_of t)) None b) (refl, omega (arith, count_more t u (op_of o i ∷ []) A.ops), ap (λ y. y.digest) one))
        go j x (no n) =
            let y = T.done.each j (omega arith) in
            rw (get_or-set_other q i j (Some (count_of t)) None n) (y.0, omega (arith, y.1, count_more t u (op_of o i ∷ []) A.ops), ap (λ y. y.digest) (op_stays t u (op_of o i ∷ []) A.ops (placed q j) y.1) ∙ y.2)

-- the operations of a store are those of its records
pub ops_row : (o : List ℕ) → row (count_of o) (op_of o) ≡ ops_of o
ops_row o = ext_get_or no_op (row (count_of o) (op_of o)) (ops_of o) (row_length (count_of o) (op_of o) ∙ sym (ops_length o)) (λ i l. let b : i < count_of o = omega (arith, row_length (count_of o) (op_of o)) in row_at no_op (count_of o) (op_of o) i b ∙ sym (ops_at o i b))

-- one operation more leaves no fewer missing
missing_last : {G H B : List Op} (x : Op) → Missing G (H ++ (x ∷ [])) B → (A : List Op) → Missing G H A → length A ≤ length B
missing_last {G} {H} {B} x m A a = go (held? G x.digest)
  where
    go : Dec (Held G x.digest) → length A ≤ length B
    go (yes h) = omega (arith, ap length (missing_unique (missing_has x a h) m))
    go (no n) = omega (arith, ap length (missing_unique (missing_lacks x a n) m), length-append A (x ∷ []))

missing_grows : {G : List Op} (f : ℕ → Op) (a d : ℕ) {A B : List Op} → Missing G (row a f) A → Missing G (row (a + d) f) B → length A ≤ length B
missing_grows f a zero m n = omega (arith, ap length (missing_unique m (rw add-zero at n)))
missing_grows {G} f a (suc d) {A} {B} m n =
    let u = (union_is G (row (a + d) f)).1 in
    let e : a + suc d ≡ a + d + 1 = omega arith in
    omega (arith, missing_grows f a d m u.missing, missing_last (f (a + d)) (rw (e, row_more (a + d) f) at n) u.more u.missing)

-- there is room for the next one
module _ {s o : List ℕ} {p : Places} {t : List ℕ} {q : Places} {i : ℕ} (l : i < count_of o) (T : Taken s o p t q i) where
  pub taken_room : ¬ Overfull limits (ops_of s) (ops_of o) → ¬ Held (ops_of s) (digest_at o i) → count_of t < 512
  taken_room n h =
      let u = union_is (ops_of s) (ops_of o) in
      let m = missing_lacks (op_of o i) T.missing h in
      let e : i + 1 + (count_of o - (i + 1)) ≡ count_of o = omega arith in
      let g = missing_grows {G = ops_of s} (op_of o) (i + 1) (count_of o - (i + 1)) {A = T.more ++ (op_of o i ∷ [])} {B = u.1.more} (rw (row_more i (op_of o)) m) (rw (e, ops_row o) u.1.missing) in
      go (dec_lt 512 (length u.0)) (omega (arith, g, length-append T.more (op_of o i ∷ []), ap length u.1.joined, length-append (ops_of s) u.1.more, ops_length s, count_more s t T.more T.ops))
    where
      go : Dec (512 < length (union_is (ops_of s) (ops_of o)).0) → count_of t + 1 ≤ length (union_is (ops_of s) (ops_of o)).0 → count_of t < 512
      go (yes x) y = absurd (n (record { union = (union_is (ops_of s) (ops_of o)).0; is = (union_is (ops_of s) (ops_of o)).1; over = x }))
      go (no x) y = omega arith

-- the next operation, whose place is known from comparing
module _ {s o : List ℕ} {p : Places} {t : List ℕ} {q : Places} {i : ℕ} (S : Sound limits s) (O : Ready o (length p)) (P : AllPlaced s o p) (l : i < count_of o) (T : Taken s o p t q i) where
  next_place : PlaceIn s (digest_at o i) (get_or q i None)
  next_place = rw (T.todo i (omega arith)) (P.each i l)

  -- s holds it
  pub next_has : ¬ (get_or q i None ≡ None) → Taken s o p t q (i + 1)
  next_has n = go (get_or q i None) refl next_place
    where
      go : (v : Option ℕ) → get_or q i None ≡ v → PlaceIn s (digest_at o i) v → Taken s o p t q (i + 1)
      go (Some v) e (held b d) = taken_has O l T v e b d (subst (Held (ops_of s)) d (held_at (large_ready S) v b))
      go None e (lacks h) = absurd (n e)

  -- s lacks it: there is room, and it is taken over
  module _ (z : get_or q i None ≡ None) (n : ¬ Overfull limits (ops_of s) (ops_of o)) where
    unheld : ¬ Held (ops_of s) (digest_at o i)
    unheld = go (rw z at next_place)
      where
        go : PlaceIn s (digest_at o i) None → ¬ Held (ops_of s) (digest_at o i)
        go (lacks h) = h

    pub next_room : count_of t < 512
    next_room = taken_room l T n unheld

    pub next_lacks : {u : List ℕ} → Admitted limits t (op_of o i) u → Taken s o p u (set q i (Some (count_of t))) (i + 1)
    next_lacks A = taken_lacks O l T unheld next_room (omega (arith, l, T.size, O.enough)) A
