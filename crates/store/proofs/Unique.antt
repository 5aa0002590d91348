-- The operations of a store decide its bytes.
-- Assumes nothing.
use Prim.Native.Nat.{ℕ, ◌+◌, ◌*◌, ◌/◌, ◌%◌, ◌-◌, ◌≤◌, ◌<◌}
use native.Mathlib.Omega.{arith}
use native.Mathlib.Decide.{ℕ_discrete, dec_lt}
use mathlib.Core.Path.{◌≡◌, sym, ◌∙◌, ap, subst}
use mathlib.Core.List.{List}
use lib.ListN.{length, get_or}
use lib.Seq.{ext_get_or}
use Rattle.rules.specs.Admission.{AsOffered, Admissible}
use Rattle.rules.specs.Bytes.{digests_of}
use Rattle.rules.specs.Graph.{Op}
use Rattle.rules.specs.Lists.{Alike}
use Rattle.rules.specs.Table.{Limits}
use Rattle.rules.proofs.Admission.{as_offered_unique}
use Rattle.rules.proofs.Bytes.{number_bytes, row_length, row_at}
use Rattle.rules.proofs.Formed.{op_at, Formed}
use Rattle.rules.proofs.Lists.{set_same}
use Rattle.store.specs.Layout.{count_of, digest_at, preds_at, pred_at, op_of, ops_of}
use Rattle.store.specs.Sound.{Roomy, Laid, Admitted, Sound, admit}
use Rattle.store.proofs.Ops.{ops_length, ops_at, sound_laid, sound_formed}

module _ {B : Limits} {s t : List ℕ} (R : Roomy B) (L : Laid B s) (M : Laid B t) (F : Formed (ops_of s)) (e : ops_of s ≡ ops_of t) where
  counts : count_of s ≡ count_of t
  counts = omega (arith, ops_length s, ops_length t, ap length e)

  ops : (i : ℕ) → i < count_of s → op_of s i ≡ op_of t i
  ops i h = sym (ops_at s i h) ∙ ap (λ G. op_at G i) e ∙ ops_at t i (omega (arith, counts))

  preds : (i : ℕ) → i < count_of s → preds_at s i ≡ preds_at t i
  preds i h = omega (arith, ap (λ o. length o.preds) (ops i h), row_length (preds_at s i) (λ k. digest_at s (pred_at s i k)), row_length (preds_at t i) (λ k. digest_at t (pred_at t i k)))

  pred : (i k : ℕ) → i < count_of s → k < 16 → pred_at s i k ≡ pred_at t i k
  pred i k h l = go (dec_lt k (preds_at s i))
    where
      named : k < preds_at s i → digest_at s (pred_at s i k) ≡ digest_at t (pred_at t i k)
      named a = sym (row_at 0 (preds_at s i) (λ k. digest_at s (pred_at s i k)) k a) ∙ ap (λ o. get_or o.preds k 0) (ops i h) ∙ row_at 0 (preds_at t i) (λ k. digest_at t (pred_at t i k)) k (omega (arith, preds i h))

      go : Dec (k < preds_at s i) → pred_at s i k ≡ pred_at t i k
      go (yes a) =
          let p : pred_at s i k < count_of s = omega (arith, (L.slots i h).early k a) in
          let q : pred_at t i k < count_of s = omega (arith, (M.slots i (omega (arith, counts))).early k (omega (arith, preds i h))) in
          F.distinct (pred_at s i k) (pred_at t i k) (omega (arith, ops_length s)) (omega (arith, ops_length s))
          (ap (λ o. o.digest) (ops_at s (pred_at s i k) p) ∙ named a ∙ sym (ap (λ o. o.digest) (ops_at s (pred_at t i k) q ∙ ops (pred_at t i k) q)))
      go (no x) = (L.slots i h).unused k (omega arith) l ∙ sym ((M.slots i (omega (arith, counts))).unused k (omega (arith, preds i h)) l)

  -- byte m of record i
  inside : (i m : ℕ) → i < count_of s → m < 98 → get_or s (64 + 98 * i + m) 0 ≡ get_or t (64 + 98 * i + m) 0
  inside i m h l = go (dec_lt m 32) (dec_lt m 64) (ℕ_discrete m 64) (ℕ_discrete m 65) (ℕ_discrete (m % 2) 0)
    where
      bs : (j : ℕ) → get_or s j 0 < 256
      bs = L.frame.bytes

      bt : (j : ℕ) → get_or t j 0 < 256
      bt = M.frame.bytes

      at : (p : ℕ) → p ≡ 64 + 98 * i + m → get_or s p 0 ≡ get_or t p 0 → get_or s (64 + 98 * i + m) 0 ≡ get_or t (64 + 98 * i + m) 0
      at p q r = subst (λ x. get_or s x 0 ≡ get_or t x 0) q r

      k : ℕ
      k = (m - 66) / 2

      go : Dec (m < 32) → Dec (m < 64) → Dec (m ≡ 64) → Dec (m ≡ 65) → Dec (m % 2 ≡ 0) → get_or s (64 + 98 * i + m) 0 ≡ get_or t (64 + 98 * i + m) 0
      go (yes a) b c d f = number_bytes s t (64 + 98 * i) (64 + 98 * i) 32 bs bt (ap (λ o. o.digest) (ops i h)) m a
      go (no a) (yes b) c d f = at (96 + 98 * i + (m - 32)) (omega arith) (number_bytes s t (96 + 98 * i) (96 + 98 * i) 32 bs bt (ap (λ o. o.member) (ops i h)) (m - 32) (omega arith))
      go (no a) (no b) (yes c) d f = at (128 + 98 * i) (omega arith) (ap (λ o. o.kind) (ops i h))
      go (no a) (no b) (no c) (yes d) f = at (129 + 98 * i) (omega arith) (preds i h)
      go (no a) (no b) (no c) (no d) (yes f) =
          at (130 + 98 * i + 2 * k) (omega arith) (omega (arith, pred i k h (omega arith), bs (130 + 98 * i + 2 * k), bt (130 + 98 * i + 2 * k)))
      go (no a) (no b) (no c) (no d) (no f) =
          at (130 + 98 * i + 2 * k + 1) (omega arith) (omega (arith, pred i k h (omega arith), bs (130 + 98 * i + 2 * k), bt (130 + 98 * i + 2 * k)))

  pub bytes_unique : s ≡ t
  bytes_unique = ext_get_or 0 s t (L.frame.size ∙ sym M.frame.size) (λ j h. go j (ℕ_discrete j 0) (ℕ_discrete j 1) (dec_lt j 64) (dec_lt j (64 + 98 * count_of s)))
    where
      go : (j : ℕ) → Dec (j ≡ 0) → Dec (j ≡ 1) → Dec (j < 64) → Dec (j < 64 + 98 * count_of s) → get_or s j 0 ≡ get_or t j 0
      go j (yes q) b c d = rw q (omega (arith, counts, L.frame.bytes 0, M.frame.bytes 0))
      go j (no a) (yes q) c d = rw q (omega (arith, counts, L.frame.bytes 0, M.frame.bytes 0))
      go j (no a) (no b) (yes c) d = L.frame.reserved j (omega arith) c ∙ sym (M.frame.reserved j (omega arith) c)
      go j (no a) (no b) (no c) (no d) = L.frame.rest j (omega arith) ∙ sym (M.frame.rest j (omega (arith, counts)))
      go j (no a) (no b) (no c) (yes d) =
          let q : 64 + 98 * ((j - 64) / 98) + (j - 64) % 98 ≡ j = omega arith in
          subst (λ x. get_or s x 0 ≡ get_or t x 0) q (inside ((j - 64) / 98) ((j - 64) % 98) (omega arith) (omega arith))

-- two sound stores with the same operations are the same bytes
pub store_unique : {L : Limits} {s t : List ℕ} → Roomy L → Sound L s → Sound L t → ops_of s ≡ ops_of t → s ≡ t
store_unique R c d e = bytes_unique R (sound_laid c) (sound_laid d) (sound_formed c) e

-- an admission leaves one list of bytes
pub admitted_unique : {L : Limits} {s t u : List ℕ} {o : Op} → Roomy L → Sound L s → Admissible (ops_of s) o → length o.preds ≤ L.predecessors → length (ops_of s) < L.operations → Admitted L s o t → Admitted L s o u → t ≡ u
admitted_unique R d f few room a b = store_unique R (admit d f few room a) (admit d f few room b) (a.ops ∙ sym b.ops)

-- stores that hold the same operations, one of one size after an admission in which the predecessors came in another order or with
-- repeats: the operation as offered is the same, so the bytes are
pub offers_alike : {L : Limits} {s t u : List ℕ} {d m l l' : List ℕ} {k : ℕ} {o p : Op} → Roomy L → Sound L s → Admissible (ops_of s) o → length o.preds ≤ L.predecessors → length (ops_of s) < L.operations → Alike (digests_of l) (digests_of l') → AsOffered d k m l o → AsOffered d k m l' p → Admitted L s o t → Admitted L s p u → t ≡ u
offers_alike {L} {s} {t} {u} {d} {m} {l} {l'} {k} {o} {p} R c f few room e a b x y = admitted_unique R c f few room x (subst (λ q. Admitted L s q u) (sym same) y)
  where
    same : o ≡ p
    same = as_offered_unique (record { digest = a.digest; kind = a.kind; member = a.member; preds = set_same (λ q. (e.into q, e.back q)) a.preds }) b
