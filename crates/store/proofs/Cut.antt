-- A store cut to its first records, and so: what the check finds is sound.
-- Assumes nothing.
use Prim.Native.Nat.{ℕ, zero, suc, ◌+◌, ◌*◌, ◌/◌, ◌%◌, ◌≤◌, ◌<◌}
use native.Mathlib.Omega.{arith}
use native.Mathlib.Decide.{ℕ_discrete, dec_lt}
use mathlib.Core.Path.{◌≡◌, refl, sym, ◌∙◌, ap, subst}
use mathlib.Core.Logic.{◌↔◌}
use mathlib.Core.List.{List, [], ◌∷◌, ◌++◌}
use lib.ListN.{length, get_or, get_or-eq_default}
use lib.Seq.{ext_get_or}
use Rattle.rules.specs.Admission.{Admissible}
use Rattle.rules.specs.Bytes.{row}
use Rattle.rules.specs.Table.{Limits}
use Rattle.rules.proofs.Bytes.{number_same, row_length, row_at, row_same, row_in, in_row}
use Rattle.rules.proofs.Formed.{no_op}
use Rattle.rules.proofs.Heads.{op_same}
use Rattle.store.specs.Capacities.{limits_of}
use Rattle.store.specs.Checked.{Checked}
use Rattle.store.specs.declared.capacity.Capacity.{Capacity}
use Rattle.store.specs.Layout.{count_of, digest_at, member_at, kind_at, preds_at, pred_at, op_of, ops_of}
use Rattle.store.specs.Sound.{Roomy, Slots, Laid, Sound, fresh, admit}
use Rattle.store.proofs.Ops.{checked_proper, sound_checked}

-- the records below n have the same bytes
pub record Agree (s t : List ℕ) (n : ℕ) : Type 0 where
  pub same : (j : ℕ) → 64 ≤ j → j < 64 + 98 * n → get_or s j 0 ≡ get_or t j 0

module _ {s t : List ℕ} {n : ℕ} (A : Agree s t n) where
  pub same_digest : (i : ℕ) → i < n → digest_at s i ≡ digest_at t i
  same_digest i h = number_same s t (64 + 98 * i) (64 + 98 * i) 32 (λ j l. A.same (64 + 98 * i + j) (omega arith) (omega arith))

  same_member : (i : ℕ) → i < n → member_at s i ≡ member_at t i
  same_member i h = number_same s t (96 + 98 * i) (96 + 98 * i) 32 (λ j l. A.same (96 + 98 * i + j) (omega arith) (omega arith))

  same_kind : (i : ℕ) → i < n → kind_at s i ≡ kind_at t i
  same_kind i h = A.same (128 + 98 * i) (omega arith) (omega arith)

  pub same_preds : (i : ℕ) → i < n → preds_at s i ≡ preds_at t i
  same_preds i h = A.same (129 + 98 * i) (omega arith) (omega arith)

  pub same_pred : (i k : ℕ) → i < n → k < 16 → pred_at s i k ≡ pred_at t i k
  same_pred i k h l = omega (arith, A.same (130 + 98 * i + 2 * k) (omega arith) (omega arith), A.same (130 + 98 * i + 2 * k + 1) (omega arith) (omega arith))

  pub same_slots : {most : ℕ} → most ≤ 16 → (i : ℕ) → i < n → Slots most s i → Slots most t i
  same_slots b i h S =
      let e = same_preds i h in
      record {
        few = omega (arith, S.few);
        early = λ k l. omega (arith, S.few, S.early k (omega arith), same_pred i k h (omega (arith, S.few)));
        unused = λ k l m. omega (arith, S.unused k (omega arith) m, same_pred i k h m);
      }

  pub same_op : {most : ℕ} → most ≤ 16 → (i : ℕ) → i < n → Slots most s i → op_of s i ≡ op_of t i
  same_op b i h S =
      op_same (op_of s i) (op_of t i) (same_digest i h) (same_kind i h) (same_member i h)
      (row_same (preds_at s i) (λ k. digest_at s (pred_at s i k)) (λ k. digest_at t (pred_at t i k))
      (λ k l. let e = S.early k l in same_digest (pred_at s i k) (omega arith) ∙ ap (digest_at t) (same_pred i k h (omega (arith, S.few)))) ∙
      ap (λ c. row c (λ k. digest_at t (pred_at t i k))) (same_preds i h))

-- the byte of a store with the first n records of s
keep : {P : Type 0} → Dec P → ℕ → ℕ
keep (yes p) x = x
keep (no p) x = 0

cut_byte : ℕ → List ℕ → ℕ → ℕ
cut_byte n s zero = n % 256
cut_byte n s (suc zero) = n / 256
cut_byte n s (suc (suc j)) = keep (dec_lt (suc (suc j)) (64 + 98 * n)) (get_or s (suc (suc j)) 0)

cut : ℕ → List ℕ → List ℕ
cut n s = row (length s) (cut_byte n s)

cut_length : (n : ℕ) (s : List ℕ) → length (cut n s) ≡ length s
unfolding cut
cut_length n s = row_length (length s) (cut_byte n s)

cut_byte_lem : (n : ℕ) (s : List ℕ) (j : ℕ) → j < length s → get_or (cut n s) j 0 ≡ cut_byte n s j
unfolding cut
cut_byte_lem n s j h = row_at 0 (length s) (cut_byte n s) j h

keep_yes : {P : Type 0} (d : Dec P) (x : ℕ) → P → keep d x ≡ x
unfolding keep
keep_yes (yes p) x q = refl
keep_yes (no p) x q = absurd (p q)

keep_no : {P : Type 0} (d : Dec P) (x : ℕ) → ¬ P → keep d x ≡ 0
unfolding keep
keep_no (yes p) x q = absurd (q p)
keep_no (no p) x q = refl

cut_byte_kept : (n : ℕ) (s : List ℕ) (j : ℕ) → 2 ≤ j → j < 64 + 98 * n → cut_byte n s j ≡ get_or s j 0
unfolding cut_byte
cut_byte_kept n s zero a b = absurd (omega arith)
cut_byte_kept n s (suc zero) a b = absurd (omega arith)
cut_byte_kept n s (suc (suc j)) a b = keep_yes (dec_lt (suc (suc j)) (64 + 98 * n)) (get_or s (suc (suc j)) 0) b

cut_byte_rest : (n : ℕ) (s : List ℕ) (j : ℕ) → 64 + 98 * n ≤ j → cut_byte n s j ≡ 0
unfolding cut_byte
cut_byte_rest n s zero a = absurd (omega arith)
cut_byte_rest n s (suc zero) a = absurd (omega arith)
cut_byte_rest n s (suc (suc j)) a = keep_no (dec_lt (suc (suc j)) (64 + 98 * n)) (get_or s (suc (suc j)) 0) (λ h. omega arith)

module _ {L : Limits} {s : List ℕ} (R : Roomy L) (C : Checked L s) (n : ℕ) (h : n ≤ count_of s) where
  small : n ≤ L.operations
  small = omega (arith, C.frame.few)

  cut_kept : (j : ℕ) → 2 ≤ j → j < 64 + 98 * n → get_or (cut n s) j 0 ≡ get_or s j 0
  cut_kept j a b = cut_byte_lem n s j (omega (arith, small, C.frame.size)) ∙ cut_byte_kept n s j a b

  cut_rest : (j : ℕ) → 64 + 98 * n ≤ j → get_or (cut n s) j 0 ≡ 0
  cut_rest j a = go (dec_lt j (length s))
    where
      go : Dec (j < length s) → get_or (cut n s) j 0 ≡ 0
      go (yes l) = cut_byte_lem n s j l ∙ cut_byte_rest n s j a
      go (no x) = get_or-eq_default (cut n s) 0 (omega (arith, cut_length n s))

  cut_low : get_or (cut n s) 0 0 ≡ n % 256
  unfolding cut_byte
  cut_low = cut_byte_lem n s 0 (omega (arith, C.frame.size))

  cut_high : get_or (cut n s) 1 0 ≡ n / 256
  unfolding cut_byte
  cut_high = cut_byte_lem n s 1 (omega (arith, C.frame.size))

  cut_count : count_of (cut n s) ≡ n
  cut_count = omega (arith, cut_low, cut_high)

  cut_bytes : (j : ℕ) → get_or (cut n s) j 0 < 256
  cut_bytes j = go (ℕ_discrete j 0) (ℕ_discrete j 1) (dec_lt j (64 + 98 * n))
    where
      go : Dec (j ≡ 0) → Dec (j ≡ 1) → Dec (j < 64 + 98 * n) → get_or (cut n s) j 0 < 256
      go (yes e) b c = rw e (omega (arith, cut_low))
      go (no a) (yes e) c = rw e (omega (arith, cut_high, small, R.operations))
      go (no a) (no b) (yes l) = omega (arith, cut_kept j (omega arith) l, C.frame.bytes j)
      go (no a) (no b) (no c) = omega (arith, cut_rest j (omega arith))

  cut_agree : Agree s (cut n s) n
  cut_agree = record { same = λ j a b. sym (cut_kept j (omega arith) b) }

  cut_laid : Laid L (cut n s)
  cut_laid =
      record {
        frame = record {
          size = cut_length n s ∙ C.frame.size;
          bytes = cut_bytes;
          few = omega (arith, cut_count, small);
          reserved = λ j a b. cut_kept j a (omega arith) ∙ C.frame.reserved j a b;
          rest = λ j a. cut_rest j (omega (arith, cut_count));
        };
        slots = λ i l. let l' : i < n = omega (arith, cut_count) in same_slots cut_agree R.predecessors i l' (C.good i (omega arith)).slots;
      }

  cut_ops : ops_of (cut n s) ≡ row n (op_of s)
  unfolding ops_of
  cut_ops = ap (λ c. row c (op_of (cut n s))) cut_count ∙ row_same n (op_of (cut n s)) (op_of s) (λ i l. sym (same_op cut_agree R.predecessors i l (C.good i (omega arith)).slots))

module _ {L : Limits} {s : List ℕ} (R : Roomy L) (C : Checked L s) where
  -- record n may be admitted to the n before it
  next : (n : ℕ) → n < count_of s → Admissible (row n (op_of s)) (op_of s n)
  next n h =
      let G = C.good n h in
      record {
        proper = checked_proper C n h;
        fresh = λ k.
            let r = in_row no_op n (op_of s) k.op k.stands in
            G.distinct r.0 r.1 (ap (λ o. o.digest) r.2 ∙ k.named);
        rooted = λ e. root e (ℕ_discrete (kind_at s n) 0);
        known = λ p m.
            let r = in_row 0 (preds_at s n) (λ k. digest_at s (pred_at s n k)) p m in
            record { op = op_of s (pred_at s n r.0); stands = row_in no_op n (op_of s) (pred_at s n r.0) (G.slots.early r.0 r.1); named = r.2 };
      }
    where
      root : (op_of s n).preds ≡ [] → Dec (kind_at s n ≡ 0) → kind_at s n ≡ 0
      root e (yes z) = z
      root e (no z) = absurd (omega (arith, (C.good n h).kinded.rooted z, ap length e, row_length (preds_at s n) (λ k. digest_at s (pred_at s n k))))

  cut_sound : (n : ℕ) → n ≤ count_of s → Sound L (cut n s)
  unfolding row
  cut_sound zero h = fresh (record { size = cut_length 0 s ∙ C.frame.size; zeros = blank })
    where
      blank : (j : ℕ) → get_or (cut 0 s) j 0 ≡ 0
      blank j = go (ℕ_discrete j 0) (ℕ_discrete j 1) (dec_lt j 64)
        where
          go : Dec (j ≡ 0) → Dec (j ≡ 1) → Dec (j < 64) → get_or (cut 0 s) j 0 ≡ 0
          go (yes e) b c = rw e (cut_low R C 0 h)
          go (no a) (yes e) c = rw e (cut_high R C 0 h)
          go (no a) (no b) (yes l) = cut_kept R C 0 h j (omega arith) (omega arith) ∙ C.frame.reserved j (omega arith) l
          go (no a) (no b) (no x) = cut_rest R C 0 h j (omega arith)
  cut_sound (suc n) h =
      let l : n ≤ count_of s = omega arith in
      let e = cut_ops R C n l in
      admit (cut_sound n l) (subst (λ G. Admissible G (op_of s n)) (sym e) (next n h))
      (omega (arith, row_length (preds_at s n) (λ k. digest_at s (pred_at s n k)), (C.good n h).slots.few))
      (omega (arith, ap length e, row_length n (op_of s), C.frame.few))
      (record { laid = cut_laid R C (suc n) h; ops = cut_ops R C (suc n) h ∙ ap (λ G. G ++ (op_of s n ∷ [])) (sym e) })

  cut_whole : cut (count_of s) s ≡ s
  cut_whole = ext_get_or 0 (cut n s) s (cut_length n s) (λ j h. go j (ℕ_discrete j 0) (ℕ_discrete j 1) (dec_lt j (64 + 98 * n)))
    where
      n : ℕ
      n = count_of s

      le : n ≤ count_of s
      le = omega arith

      go : (j : ℕ) → Dec (j ≡ 0) → Dec (j ≡ 1) → Dec (j < 64 + 98 * n) → get_or (cut n s) j 0 ≡ get_or s j 0
      go j (yes e) b c = rw e (omega (arith, cut_low R C n le, C.frame.bytes 0))
      go j (no a) (yes e) c = rw e (omega (arith, cut_high R C n le, C.frame.bytes 0))
      go j (no a) (no b) (yes l) = cut_kept R C n le j (omega arith) l
      go j (no a) (no b) (no x) = cut_rest R C n le j (omega arith) ∙ sym (C.frame.rest j (omega arith))

  pub checked_sound : Sound L s
  checked_sound = subst (Sound L) cut_whole (cut_sound (count_of s) (omega arith))

pub sound_iff : {L : Limits} {s : List ℕ} → Roomy L → Sound L s ↔ Checked L s
sound_iff R = (sound_checked, checked_sound R)

-- the limits of a capacity
pub capacity_roomy : (c : Capacity) → Roomy (limits_of c)
capacity_roomy c = record { operations = c.roomy.0; predecessors = c.roomy.1 }
