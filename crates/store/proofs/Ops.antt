-- The operations of a store: from places to the graph, and back.
-- Assumes nothing.
use Prim.Native.Nat.{ℕ, ◌+◌, ◌*◌, ◌<◌}
use native.Mathlib.Omega.{arith}
use native.Mathlib.Decide.{ℕ_discrete, dec_lt}
use mathlib.Core.Path.{◌≡◌, sym, ◌∙◌, ap, subst}
use mathlib.Core.List.{List, []}
use lib.ListN.{length}
use Rattle.rules.specs.Admission.{Grown}
use Rattle.rules.specs.Bytes.{Bytes, row}
use Rattle.rules.specs.Graph.{Proper}
use Rattle.rules.specs.Lists.{◌∈◌}
use Rattle.rules.specs.Table.{Limits}
use Rattle.rules.proofs.Bytes.{row_length, row_at, in_row, number_below}
use Rattle.rules.proofs.Formed.{no_op, op_at, Formed}
use Rattle.rules.proofs.Growth.{grown_formed}
use Rattle.rules.proofs.Lists.{ordered_at, at_ordered, rising}
use Rattle.store.specs.Checked.{Checked}
use Rattle.store.specs.Layout.{count_of, digest_at, kind_at, preds_at, pred_at, op_of, ops_of}
use Rattle.store.specs.Sound.{Blank, Laid, Sound, fresh, admit}

pub ops_length : (s : List ℕ) → length (ops_of s) ≡ count_of s
unfolding ops_of
ops_length s = row_length (count_of s) (op_of s)

pub ops_at : (s : List ℕ) (i : ℕ) → i < count_of s → op_at (ops_of s) i ≡ op_of s i
unfolding ops_of
ops_at s i h = row_at no_op (count_of s) (op_of s) i h

pub no_preds : (s : List ℕ) (i : ℕ) → preds_at s i ≡ 0 → (op_of s i).preds ≡ []
unfolding row
no_preds s i e = ap (λ c. row c (λ k. digest_at s (pred_at s i k))) e

some_preds : (s : List ℕ) (i : ℕ) → 0 < preds_at s i → (op_of s i).preds ≡ [] → ⊥
some_preds s i h e = omega (arith, ap length e, row_length (preds_at s i) (λ k. digest_at s (pred_at s i k)))

module _ {L : Limits} {s : List ℕ} (C : Checked L s) where
  pub checked_laid : Laid L s
  checked_laid = record { frame = C.frame; slots = λ i h. (C.good i h).slots }

  pub checked_distinct : (i j : ℕ) → i < count_of s → j < count_of s → digest_at s i ≡ digest_at s j → i ≡ j
  checked_distinct i j h k e = go (dec_lt i j) (dec_lt j i)
    where
      go : Dec (i < j) → Dec (j < i) → i ≡ j
      go (yes l) x = absurd ((C.good j k).distinct i l e)
      go (no n) (yes l) = absurd ((C.good i h).distinct j l (sym e))
      go (no n) (no m) = omega arith

  pub checked_proper : (i : ℕ) → i < count_of s → Proper (op_of s i)
  checked_proper i h =
      let G = C.good i h in
      let f : ℕ → ℕ = λ k. digest_at s (pred_at s i k) in
      let b : Bytes s = record { small = C.frame.bytes } in
      record {
        digest = number_below s (64 + 98 * i) 32 b;
        kind = G.kinded.kind;
        member = number_below s (96 + 98 * i) 32 b;
        zero = G.kinded.member;
        preds = at_ordered 0 (op_of s i).preds (λ x y p q.
            let l : y < preds_at s i = omega (arith, row_length (preds_at s i) f) in
            rw (row_at 0 (preds_at s i) f x (omega arith), row_at 0 (preds_at s i) f y l) (rising f (preds_at s i) G.rising x y p l));
      }

  pub checked_formed : Formed (ops_of s)
  checked_formed =
      record {
        distinct = λ i j h k e.
            let h' : i < count_of s = omega (arith, ops_length s) in
            let k' : j < count_of s = omega (arith, ops_length s) in
            checked_distinct i j h' k' (ap (λ o. o.digest) (sym (ops_at s i h')) ∙ e ∙ ap (λ o. o.digest) (ops_at s j k'));
        earlier = λ i p h m.
            let h' : i < count_of s = omega (arith, ops_length s) in
            let r = in_row 0 (preds_at s i) (λ k. digest_at s (pred_at s i k)) p (subst (λ o. p ∈ o.preds) (ops_at s i h') m) in
            let l : pred_at s i r.0 < i = (C.good i h').slots.early r.0 r.1 in
            (pred_at s i r.0, l, ap (λ o. o.digest) (ops_at s (pred_at s i r.0) (omega arith)) ∙ r.2);
        rooted = λ i h e.
            let h' : i < count_of s = omega (arith, ops_length s) in
            ap (λ o. o.kind) (ops_at s i h') ∙ root i h' (ap (λ o. o.preds) (sym (ops_at s i h')) ∙ e) (ℕ_discrete (kind_at s i) 0);
        proper = λ i h. let h' : i < count_of s = omega (arith, ops_length s) in subst Proper (sym (ops_at s i h')) (checked_proper i h');
      }
    where
      root : (i : ℕ) → i < count_of s → (op_of s i).preds ≡ [] → Dec (kind_at s i ≡ 0) → kind_at s i ≡ 0
      root i h e (yes k) = k
      root i h e (no n) = absurd (some_preds s i ((C.good i h).kinded.rooted n) e)

pub blank_ops : {n : ℕ} {s : List ℕ} → Blank n s → ops_of s ≡ []
unfolding ops_of row
blank_ops {s = s} b = let e : count_of s ≡ 0 = omega (arith, b.zeros 0, b.zeros 1) in ap (λ n. row n (op_of s)) e

pub blank_laid : {L : Limits} {s : List ℕ} → Blank L.operations s → Laid L s
blank_laid {L} {s} b =
    record {
      frame = record { size = b.size; bytes = λ j. omega (arith, b.zeros j); few = omega (arith, b.zeros 0, b.zeros 1); reserved = λ j h l. b.zeros j; rest = λ j h. b.zeros j };
      slots = λ i h. absurd (omega (arith, b.zeros 0, b.zeros 1, h));
    }

pub sound_laid : {L : Limits} {s : List ℕ} → Sound L s → Laid L s
sound_laid (fresh b) = blank_laid b
sound_laid (admit d o few room a) = a.laid

-- the operations of a sound store are what admissions leave
pub sound_grown : {L : Limits} {s : List ℕ} → Sound L s → Grown L (ops_of s)
sound_grown {L} (fresh b) = subst (Grown L) (sym (blank_ops b)) Grown.fresh
sound_grown {L} (admit d o few room a) = subst (Grown L) (sym a.ops) (Grown.admit (sound_grown d) o few room)

pub sound_formed : {L : Limits} {s : List ℕ} → Sound L s → Formed (ops_of s)
sound_formed d = grown_formed (sound_grown d)

pub laid_checked : {L : Limits} {s : List ℕ} → Laid L s → Formed (ops_of s) → Checked L s
laid_checked {L = B} {s} L F =
    record {
      frame = L.frame;
      good = λ i h.
          record {
            slots = L.slots i h;
            kinded = record { kind = (well i h).kind; member = (well i h).zero; rooted = λ n. root i h n (ℕ_discrete (preds_at s i) 0) };
            rising = λ k l. up i h k l;
            distinct = λ j l e. apart i j h l e;
          };
    }
  where
    at : (i : ℕ) → i < count_of s → i < length (ops_of s)
    at i h = omega (arith, ops_length s)

    well : (i : ℕ) → i < count_of s → Proper (op_of s i)
    well i h = subst Proper (ops_at s i h) (F.proper i (at i h))

    root : (i : ℕ) → i < count_of s → ¬ (kind_at s i ≡ 0) → Dec (preds_at s i ≡ 0) → 0 < preds_at s i
    root i h n (no x) = omega arith
    root i h n (yes e) = absurd (n (ap (λ o. o.kind) (sym (ops_at s i h)) ∙ F.rooted i (at i h) (ap (λ o. o.preds) (ops_at s i h) ∙ no_preds s i e)))

    up : (i : ℕ) → i < count_of s → (k : ℕ) → k + 1 < preds_at s i → digest_at s (pred_at s i k) < digest_at s (pred_at s i (k + 1))
    up i h k l =
        rw (row_at 0 (preds_at s i) (λ k. digest_at s (pred_at s i k)) k (omega arith), row_at 0 (preds_at s i) (λ k. digest_at s (pred_at s i k)) (k + 1) l) at
        (ordered_at 0 (well i h).preds k (k + 1) (omega arith) (omega (arith, row_length (preds_at s i) (λ k. digest_at s (pred_at s i k)))))

    apart : (i j : ℕ) → i < count_of s → j < i → digest_at s j ≡ digest_at s i → ⊥
    apart i j h l e =
        let k : j < count_of s = omega arith in
        let q : j ≡ i = F.distinct j i (at j k) (at i h) (ap (λ o. o.digest) (ops_at s j k) ∙ e ∙ sym (ap (λ o. o.digest) (ops_at s i h))) in
        omega arith

pub sound_checked : {L : Limits} {s : List ℕ} → Sound L s → Checked L s
sound_checked d = laid_checked (sound_laid d) (sound_formed d)
