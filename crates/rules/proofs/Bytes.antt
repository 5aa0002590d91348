-- The number of k bytes is injective and compares as the bytes do, the first that differs deciding. Rows by places.
-- Assumes nothing.
use Prim.Native.Nat.{ℕ, zero, suc, ◌+◌, ◌*◌, ◌^◌, ◌≤◌, ◌<◌}
use native.Mathlib.Omega.{arith}
use native.Mathlib.Decide.{ℕ_discrete, dec_lt}
use native.Mathlib.Numerals.{add-one}
use native.Mathlib.Nat.{pow-suc, add-zero, zero-add}
use mathlib.Core.Path.{◌≡◌, refl, sym, ◌∙◌, ap, subst}
use mathlib.Core.List.{List, [], ◌∷◌, ◌++◌}
use lib.ListN.{length, get_or, take, drop, length-append, get_or-append}
use Rattle.std.proofs.lemmas.List.{get_or-take, get_or-drop, get_or_past, length-take}
use lib.Seq.{get_or_at}
use Rattle.std.proofs.Common.{Fits, w8}
use Rattle.rules.specs.Bytes.{Bytes, number_at, digest_of, row}
use Rattle.rules.specs.Lists.{◌∈◌}
use Rattle.rules.proofs.Lists.{at_in, in_at}

-- the same bytes, the same number
pub number_same : (s t : List ℕ) (p q k : ℕ) → ((j : ℕ) → j < k → get_or s (p + j) 0 ≡ get_or t (q + j) 0) → number_at s p k ≡ number_at t q k
unfolding number_at
number_same s t p q zero h = refl
number_same s t p q (suc k) h = omega (arith, number_same s t p q k (λ j l. h j (omega arith)), h k (omega arith))

-- the first byte that differs decides
pub number_less : (s t : List ℕ) (p q k n : ℕ) → ((j : ℕ) → get_or s j 0 < 256) → ((j : ℕ) → get_or t j 0 < 256) → k ≤ n → number_at s p k < number_at t q k → number_at s p n < number_at t q n
unfolding number_at
number_less s t p q k zero a b l h = let e : k ≡ 0 = omega arith in absurd (omega (arith, rw e at h))
number_less s t p q k (suc n) a b l h = go (ℕ_discrete k (suc n)) (λ l'. number_less s t p q k n a b l' h)
  where
    go : Dec (k ≡ suc n) → (k ≤ n → number_at s p n < number_at t q n) → number_at s p (suc n) < number_at t q (suc n)
    go (yes e) r = subst (λ x. number_at s p x < number_at t q x) e h
    go (no x) r = omega (arith, r (omega arith), a (p + n), b (q + n))

-- the same number, the same bytes
pub number_bytes : (s t : List ℕ) (p q n : ℕ) → ((j : ℕ) → get_or s j 0 < 256) → ((j : ℕ) → get_or t j 0 < 256) → number_at s p n ≡ number_at t q n → (j : ℕ) → j < n → get_or s (p + j) 0 ≡ get_or t (q + j) 0
unfolding number_at
number_bytes s t p q zero a b h j l = absurd (omega arith)
number_bytes s t p q (suc n) a b h j l = go (ℕ_discrete j n) (λ e l'. number_bytes s t p q n a b e j l')
  where
    go : Dec (j ≡ n) → (number_at s p n ≡ number_at t q n → j < n → get_or s (p + j) 0 ≡ get_or t (q + j) 0) → get_or s (p + j) 0 ≡ get_or t (q + j) 0
    go (yes e) r = rw e (omega (arith, a (p + n), b (q + n)))
    go (no x) r = r (omega (arith, a (p + n), b (q + n))) (omega arith)

-- zero bytes
pub number_zero : (s : List ℕ) (p n : ℕ) → ((j : ℕ) → j < n → get_or s (p + j) 0 ≡ 0) → number_at s p n ≡ 0
unfolding number_at
number_zero s p zero h = refl
number_zero s p (suc n) h = omega (arith, number_zero s p n (λ j l. h j (omega arith)), h n (omega arith))

pub zero_bytes : (s : List ℕ) (p n : ℕ) → number_at s p n ≡ 0 → (j : ℕ) → j < n → get_or s (p + j) 0 ≡ 0
unfolding number_at
zero_bytes s p zero h j l = absurd (omega arith)
zero_bytes s p (suc n) h j l = go (ℕ_discrete j n) (λ e l'. zero_bytes s p n e j l')
  where
    go : Dec (j ≡ n) → (number_at s p n ≡ 0 → j < n → get_or s (p + j) 0 ≡ 0) → get_or s (p + j) 0 ≡ 0
    go (yes e) r = rw e (omega arith)
    go (no x) r = r (omega arith) (omega arith)

pub row_none : {A : Type 0} (f : ℕ → A) → row 0 f ≡ []
unfolding row
row_none f = refl

pub row_more : {A : Type 0} (n : ℕ) (f : ℕ → A) → row (n + 1) f ≡ row n f ++ (f n ∷ [])
unfolding row
row_more n f = rw add-one refl

pub row_length : {A : Type 0} (n : ℕ) (f : ℕ → A) → length (row n f) ≡ n
unfolding row
row_length zero f = refl
row_length (suc n) f = omega (arith, length-append (row n f) (f n ∷ []), row_length n f)

pub row_at : {A : Type 0} (z : A) (n : ℕ) (f : ℕ → A) (i : ℕ) → i < n → get_or (row n f) i z ≡ f i
unfolding row
row_at z zero f i h = absurd (omega arith)
row_at {A} z (suc n) f i h = go (dec_lt i n) (λ l. row_at z n f i l)
  where
    go : Dec (i < n) → (i < n → get_or (row n f) i z ≡ f i) → get_or (row n f ++ (f n ∷ [])) i z ≡ f i
    go (yes l) r = get_or-append (row n f) (f n ∷ []) z i (omega (arith, row_length n f)) ∙ r l
    go (no x) r =
        let e : n ≡ i = omega arith in
        get_or_at (row n f) (f n) [] z i (row_length n f ∙ e) ∙ ap f e

pub row_same : {A : Type 0} (n : ℕ) (f g : ℕ → A) → ((i : ℕ) → i < n → f i ≡ g i) → row n f ≡ row n g
unfolding row
row_same zero f g h = refl
row_same {A} (suc n) f g h =
    let r : row n f ≡ row n g = row_same n f g (λ i l. h i (omega arith)) in
    let e : f n ≡ g n = h n (omega arith) in
    cc

pub row_in : {A : Type 0} (z : A) (n : ℕ) (f : ℕ → A) (i : ℕ) → i < n → f i ∈ row n f
row_in z n f i h = rw (row_at z n f i h) at (at_in z (row n f) i (omega (arith, row_length n f)))

pub in_row : {A : Type 0} (z : A) (n : ℕ) (f : ℕ → A) (x : A) → x ∈ row n f → (i : ℕ) × (i < n) × (f i ≡ x)
in_row z n f x m =
    let r = in_at z m in
    let l : r.0 < n = omega (arith, row_length n f) in
    (r.0, l, sym (row_at z n f r.0 l) ∙ r.2)

pub number_step : (s : List ℕ) (p k : ℕ) → number_at s p (k + 1) ≡ number_at s p k * 256 + get_or s (p + k) 0
unfolding number_at
number_step s p k = rw add-one

-- k bytes are less than 256 ^ k
pub number_below : (s : List ℕ) (p k : ℕ) → Bytes s → number_at s p k < 256 ^ k
unfolding number_at
number_below s p zero a = omega arith
number_below s p (suc k) a = rw pow-suc (omega (arith, number_below s p k a, a.small (p + k)))

-- bytes compare from the first: the first place where they differ decides
pub number_order : (s t : List ℕ) (p q k j : ℕ) → Bytes s → Bytes t → j < k → ((i : ℕ) → i < j → get_or s (p + i) 0 ≡ get_or t (q + i) 0) → get_or s (p + j) 0 < get_or t (q + j) 0 → number_at s p k < number_at t q k
number_order s t p q k j a b h e l = number_less s t p q (j + 1) k a.small b.small (omega arith) (omega (arith, number_same s t p q j e, number_step s p j, number_step t q j))

-- k bytes and then j more
pub number_append : (s : List ℕ) (p k j : ℕ) → number_at s p (k + j) ≡ number_at s p k * 256 ^ j + number_at s (p + k) j
unfolding number_at
number_append s p k zero = rw add-zero (omega arith)
number_append s p k (suc j) =
    let e : k + suc j ≡ suc (k + j) = omega arith in
    let f : p + (k + j) ≡ p + k + j = omega arith in
    rw (e, pow-suc) (omega (arith, number_append s p k j, ap (λ x. get_or s x 0) f))

-- the first k bytes and then j more
pub number_more : (s : List ℕ) (k j : ℕ) → number_at s 0 (k + j) ≡ number_at s 0 k * 256 ^ j + number_at s k j
number_more s k j = let e : 0 + k ≡ k = zero-add k in rw e at (number_append s 0 k j)

-- a number in a part of a list is the one that stands there
pub number_part : (s : List ℕ) (a m k : ℕ) → k ≤ m → number_at (take m (drop a s)) 0 k ≡ number_at s a k
number_part s a m k h = number_same (take m (drop a s)) s 0 a k (λ j l. get_or-take m (drop a s) (0 + j) 0 (omega arith) ∙ get_or-drop a s (0 + j) 0 ∙ ap (λ x. get_or s x 0) (omega arith))

-- the first digest of a part of a list is the one that stands there
pub digest_take : (s : List ℕ) (m : ℕ) → 32 ≤ m → digest_of (take m s) ≡ digest_of s
digest_take s m h = number_same (take m s) s 0 0 32 (λ j l. get_or-take m s (0 + j) 0 (omega arith))

pub digest_drop : (s : List ℕ) (a : ℕ) → digest_of (drop a s) ≡ number_at s a 32
digest_drop s a = number_same (drop a s) s 0 a 32 (λ j l. get_or-drop a s (0 + j) 0 ∙ ap (λ x. get_or s x 0) (omega arith))

pub digest_part : (s : List ℕ) (a m : ℕ) → 32 ≤ m → digest_of (take m (drop a s)) ≡ number_at s a 32
digest_part s a m h = digest_take (drop a s) m h ∙ digest_drop s a

-- a byte and then n more
pub number_front : (x : ℕ) (s : List ℕ) (n : ℕ) → number_at (x ∷ s) 0 (1 + n) ≡ x * 256 ^ n + number_at s 0 n
unfolding number_at
number_front x s n =
    let e : number_at (x ∷ s) 0 1 ≡ x = omega arith in
    let f : number_at (x ∷ s) 1 n ≡ number_at s 0 n = number_same (x ∷ s) s 1 0 n (λ j l. next j) in
    number_append (x ∷ s) 0 1 n ∙ rw (e, f) refl
  where
    next : (j : ℕ) → get_or (x ∷ s) (1 + j) 0 ≡ get_or s (0 + j) 0
    next j = let e : 1 + j ≡ suc j = omega arith in let f : 0 + j ≡ j = omega arith in rw (e, f) refl

-- numbers of eight bits are bytes
pub fit_bytes : {s : List ℕ} → ((i : ℕ) → Fits w8 (get_or s i 0)) → Bytes s
fit_bytes h = record { small = λ i. omega (arith, h i) }

-- the numbers of a part are as small as those of the list
pub small_take : (s : List ℕ) (m : ℕ) → ((i : ℕ) → get_or s i 0 < 256) → (i : ℕ) → get_or (take m s) i 0 < 256
small_take s m h i = go (dec_lt i m)
  where
    go : Dec (i < m) → get_or (take m s) i 0 < 256
    go (yes l) = rw (get_or-take m s i 0 l) (h i)
    go (no n) =
        let e : get_or (take m s) i 0 ≡ 0 = get_or_past (take m s) i 0 (omega (arith, length-take m s)) in
        rw e (omega arith)
