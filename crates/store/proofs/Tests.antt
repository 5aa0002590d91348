-- What the tests find.
-- Assumes nothing.
use Prim.Native.Nat.{ℕ, ◌+◌, ◌*◌, ◌/◌, ◌%◌, ◌-◌, ◌≤◌, ◌<◌}
use native.Mathlib.Omega.{arith}
use native.Mathlib.Decide.{ℕ_discrete, dec_lt}
use native.Mathlib.Nat.{zero-add}
use mathlib.Core.Path.{◌≡◌, refl, sym, ◌∙◌, ap, subst}
use mathlib.Core.Bool.{Bool}
use Rattle.std.specs.Prelude.{Option, Some, None}
use mathlib.Core.List.{List, []}
use lib.ListN.{length, get_or, drop}
use Rattle.std.specs.Bool.{MatchBool}
use Rattle.std.specs.Option.{MatchOption}
use Rattle.std.specs.List.{AllWithin, HoldsAt, range_with_len}
use Rattle.std.specs.Int.{from_be_bytes}
use Rattle.std.specs.Simd.{first_chunks}
use Rattle.std.proofs.Common.{w64}
use Rattle.std.proofs.lemmas.List.{get_or-take, get_or-drop, length-take-le, length-drop}
use Rattle.digest.proofs.Chunks.{chunk_at, spelled}
use Rattle.std.proofs.lemmas.List.FromFn.{length-range_with_len, get_or-range_with_len}
use Rattle.rules.specs.Answers.{Says}
use Rattle.rules.specs.Bytes.{part}
use Rattle.rules.proofs.Answers.{says_same}
use Rattle.rules.proofs.Bytes.{number_zero, zero_bytes}
use Rattle.rules.proofs.Chains.{says_each}
use Rattle.store.specs.Answers.{Looked, Zeros}
use Rattle.store.specs.Layout.{digest_at, pred_at}

-- nothing is found, or something
pub looked_none : (f : Option ℕ) (s : List ℕ) (n d : ℕ) → Looked f s n d → f ≡ None → (j : ℕ) → j < n → digest_at s j ≡ d → ⊥
looked_none f s n d h e = subst (λ x. Looked x s n d) e h

pub looked_some : (f : Option ℕ) (s : List ℕ) (n d : ℕ) → Looked f s n d → (f ≡ None → ⊥) → (i : ℕ) × (i < n) × (digest_at s i ≡ d)
looked_some (Some i) s n d h e = (i, h.0, h.1)
looked_some None s n d h e = absurd (e refl)

-- the first place where the digest stands
pub looked_first : (s : List ℕ) (n d : ℕ) (r : Option ℕ) → MatchOption r ((k : ℕ) → 0 ≤ k → k < n → ¬ (digest_at s k ≡ d)) (λ i. (0 ≤ i) × (i < n) × (digest_at s i ≡ d) × ((k : ℕ) → 0 ≤ k → k < i → ¬ (digest_at s k ≡ d))) → Looked r s n d
looked_first s n d None f = λ k l. f k (omega arith) l
looked_first s n d (Some i) f = (f.1, f.2)

-- the slots from c on are zero exactly if their bytes are
pub zero_slots : (s : List ℕ) (i c : ℕ) → Zeros s (130 + 98 * i + 2 * c) (162 + 98 * i) → (k : ℕ) → c ≤ k → k < 16 → pred_at s i k ≡ 0
zero_slots s i c z k h l = omega (arith, z (130 + 98 * i + 2 * k) (omega arith) (omega arith), z (130 + 98 * i + 2 * k + 1) (omega arith) (omega arith))

pub slots_zero : (s : List ℕ) (i c : ℕ) → c ≤ 16 → ((k : ℕ) → c ≤ k → k < 16 → pred_at s i k ≡ 0) → Zeros s (130 + 98 * i + 2 * c) (162 + 98 * i)
slots_zero s i c b z j h l = go (ℕ_discrete ((j - (130 + 98 * i)) % 2) 0)
  where
    k : ℕ
    k = (j - (130 + 98 * i)) / 2

    go : Dec ((j - (130 + 98 * i)) % 2 ≡ 0) → get_or s j 0 ≡ 0
    go (yes e) =
        let q : 130 + 98 * i + 2 * k ≡ j = omega arith in
        rw (← q) (omega (arith, z k (omega arith) (omega arith)))
    go (no n) =
        let q : 130 + 98 * i + 2 * k + 1 ≡ j = omega arith in
        rw (← q) (omega (arith, z k (omega arith) (omega arith)))

pub looked_at : (f : Option ℕ) (s : List ℕ) (n d i : ℕ) → Looked f s n d → f ≡ Some i → (i < n) × (digest_at s i ≡ d)
looked_at f s n d i h e = subst (λ x. Looked x s n d) e h

-- the bytes from a up to e, cut into words of 8 and the rest
module _ (s : List ℕ) (a e : ℕ) (h : a ≤ e) (l : e ≤ length s) where
  size : length (part s a (e - a)) ≡ e - a
  size = length-take-le (e - a) (drop a s) (omega (arith, length-drop a s))

  byte : (i : ℕ) → i < e - a → get_or (part s a (e - a)) i 0 ≡ get_or s (a + i) 0
  byte i m = get_or-take (e - a) (drop a s) i 0 m ∙ get_or-drop a s i 0

  -- whether all of them are zero
  pub says_zeros : (r : Bool) → Says r ((i : ℕ) → i < length (part s a (e - a)) → get_or (part s a (e - a)) i 0 ≡ 0) → Says r (Zeros s a e)
  says_zeros r = says_same r
      (λ f j m n. let i : a + (j - a) ≡ j = omega arith in rw i at (sym (byte (j - a) (omega arith)) ∙ f (j - a) (omega (arith, size))))
      (λ z i m. let k : i < e - a = omega (arith, size) in byte i k ∙ z (a + i) (omega arith) (omega arith))

  -- whether the words are zero
  pub says_words : (cs : List (List ℕ)) (r : Bool) → cs ≡ first_chunks 8 (length (part s a (e - a)) / 8) (part s a (e - a)) → length cs ≡ length (part s a (e - a)) / 8 → Says r ((i : ℕ) → i < length cs → from_be_bytes w64 (get_or cs i []) ≡ 0) → Says r (Zeros s a (a + (e - a) / 8 * 8))
  says_words cs r cut many = says_same r
      (λ f j m n. let q : a + (8 * ((j - a) / 8) + (j - a) % 8) ≡ j = omega arith in rw q at (zero f ((j - a) / 8) ((j - a) % 8) (omega (arith, size)) (omega arith)))
      (λ z i m. spelled (get_or cs i []) ∙ number_zero (get_or cs i []) 0 8 (λ k n. let b : 0 + k ≡ k = zero-add k in rw b (at i k m n ∙ z (a + (8 * i + k)) (omega arith) (omega (arith, size)))))
    where
      array : (i : ℕ) → i < length cs → get_or cs i [] ≡ part (part s a (e - a)) (8 * i) 8
      array i m = ap (λ x. get_or x i []) cut ∙ chunk_at 8 (length (part s a (e - a)) / 8) (part s a (e - a)) i [] (omega arith)

      whole : (i : ℕ) → i < length cs → length (get_or cs i []) ≡ 8
      whole i m = let xs = part s a (e - a) in rw (array i m) (length-take-le 8 (drop (8 * i) xs) (omega (arith, length-drop (8 * i) xs)))

      at : (i k : ℕ) → i < length cs → k < 8 → get_or (get_or cs i []) k 0 ≡ get_or s (a + (8 * i + k)) 0
      at i k m n = let xs = part s a (e - a) in rw (array i m) (get_or-take 8 (drop (8 * i) xs) k 0 n ∙ get_or-drop (8 * i) xs k 0 ∙ byte (8 * i + k) (omega (arith, size)))

      zero : ((i : ℕ) → i < length cs → from_be_bytes w64 (get_or cs i []) ≡ 0) → (i k : ℕ) → i < length cs → k < 8 → get_or s (a + (8 * i + k)) 0 ≡ 0
      zero f i k m n = let b : 0 + k ≡ k = zero-add k in sym (at i k m n) ∙ rw b at (zero_bytes (get_or cs i []) 0 8 (sym (spelled (get_or cs i [])) ∙ f i m) k n)

  -- whether the rest is zero
  pub says_rest : (xs : List ℕ) (r : Bool) → xs ≡ drop (length (part s a (e - a)) / 8 * 8) (part s a (e - a)) → Says r ((i : ℕ) → i < length xs → get_or xs i 0 ≡ 0) → Says r (Zeros s (a + (e - a) / 8 * 8) e)
  says_rest xs r cut = says_same r
      (λ f j m n.
      let i = j - (a + (e - a) / 8 * 8) in
      let q : a + ((e - a) / 8 * 8 + i) ≡ j = omega arith in
      rw q at (sym (at i (omega arith)) ∙ f i (omega (arith, many))))
      (λ z i m. at i (omega (arith, many)) ∙ z (a + ((e - a) / 8 * 8 + i)) (omega arith) (omega (arith, many)))
    where
      k : ℕ
      k = (e - a) / 8 * 8

      left : xs ≡ drop k (part s a (e - a))
      left = rw size at cut

      many : length xs ≡ e - a - k
      many = rw left (omega (arith, length-drop k (part s a (e - a)), size))

      at : (i : ℕ) → i < e - a - k → get_or xs i 0 ≡ get_or s (a + (k + i)) 0
      at i m = rw left (get_or-drop k (part s a (e - a)) i 0 ∙ byte (k + i) (omega arith))

-- two parts that meet are zero together
pub zeros_joined : (s : List ℕ) (a m e : ℕ) → Zeros s a m → Zeros s m e → Zeros s a e
zeros_joined s a m e f g j h l = go (dec_lt j m)
  where
    go : Dec (j < m) → get_or s j 0 ≡ 0
    go (yes b) = f j h b
    go (no b) = g j (omega arith) l

-- whether all numbers from a up to b have P
pub says_range : (P : ℕ → Type 0) (a b : ℕ) (r : Bool) → MatchBool r (AllWithin P (range_with_len a (b - a)) 0 (length (range_with_len a (b - a)))) ((k : ℕ) × (k < length (range_with_len a (b - a))) × HoldsAt (λ x. ¬ P x) (range_with_len a (b - a)) k) → Says r ((i : ℕ) → a ≤ i → i < b → P i)
says_range P a b r h = says_same r
    (λ f i l m. let e : a + (i - a) ≡ i = omega arith in rw e at (subst P (get_or-range_with_len a (b - a) (i - a) 0 (omega arith)) (f (i - a) (omega (arith, length-range_with_len a (b - a))))))
    (λ f i l. let m : i < b - a = omega (arith, length-range_with_len a (b - a)) in subst P (sym (get_or-range_with_len a (b - a) i 0 m)) (f (a + i) (omega arith) (omega arith)))
    (says_each P 0 (range_with_len a (b - a)) r h)

-- whether each value is above the one before
pub says_rising : (f : ℕ → ℕ) {n m : ℕ} (r : Bool) → n ≡ m → Says r ((k : ℕ) → 1 ≤ k → k < n → f (k - 1) < f k) → Says r ((k : ℕ) → k + 1 < m → f k < f (k + 1))
says_rising f r n = says_same r
    (λ h k l. let e : k + 1 - 1 ≡ k = omega arith in rw e at (h (k + 1) (omega arith) (omega arith)))
    (λ h k l m. let e : k - 1 + 1 ≡ k = omega arith in rw e at (h (k - 1) (omega arith)))
