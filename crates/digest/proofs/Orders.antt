-- Comparing bytes, or words of 8 bytes, is comparing their numbers; what an answer rules out, and the tests of it.
-- Assumes nothing.
use Prim.Native.Nat.{ℕ, suc, ◌+◌, ◌≤◌, ◌<◌}
use native.Mathlib.Omega.{arith}
use mathlib.Core.Path.{◌≡◌, refl}
use mathlib.Core.List.{List, [], ◌∷◌}
use lib.ListN.{length, get_or}
use Rattle.std.specs.Cmp.Lexicographic.{slice_cmp}
use Rattle.std.specs.Ordering.{nat_cmp, ordering_then, MatchOrdering, is_eq, is_lt}
use Rattle.rules.specs.Answers.{Says}
use Rattle.std.proofs.lemmas.Cmp.{ranked}
use Rattle.rules.specs.Bytes.{Bytes, number_at, digest_of}
use Rattle.rules.proofs.Bytes.{number_front, number_less, number_more}
use Rattle.digest.specs.Order.{Stands}
use Rattle.std.specs.declared.cmp.Ordering.{Ordering}
use Rattle.std.specs.declared.cmp.Ordering.TheVariants.{Less, Equal, Greater}

-- what an answer rules out
pub stands_apart : (o : Ordering) {x y : ℕ} → Stands o x y → (o ≡ Equal → ⊥) → x ≡ y → ⊥
stands_apart Less t n e = omega (arith, t)
stands_apart Equal t n e = n refl
stands_apart Greater t n e = omega (arith, t)

pub stands_not_less : (o : Ordering) {x y : ℕ} → Stands o x y → (o ≡ Less → ⊥) → x < y → ⊥
stands_not_less Less t n e = n refl
stands_not_less Equal t n e = omega (arith, t)
stands_not_less Greater t n e = omega (arith, t)

pub stands_not_greater : (o : Ordering) {x y : ℕ} → Stands o x y → (o ≡ Greater → ⊥) → x ≤ y
stands_not_greater Less t n = omega (arith, t)
stands_not_greater Equal t n = omega (arith, t)
stands_not_greater Greater t n = absurd (n refl)

-- digests stand as their first words do that differ
pub words_stand : (s t : List ℕ) (i : ℕ) → Bytes s → Bytes t → i + 8 ≤ 32 → number_at s 0 i ≡ number_at t 0 i → (number_at s i 8 ≡ number_at t i 8 → ⊥) → Stands (nat_cmp (number_at s i 8) (number_at t i 8)) (digest_of s) (digest_of t)
words_stand s t i a b l same apart = go (nat_cmp (number_at s i 8) (number_at t i 8)) (ranked (number_at s i 8) (number_at t i 8) _ refl)
  where
    go : (o : Ordering) → MatchOrdering o (number_at s i 8 < number_at t i 8) (number_at s i 8 ≡ number_at t i 8) (number_at t i 8 < number_at s i 8) → Stands o (digest_of s) (digest_of t)
    go Less h = number_less s t 0 0 (i + 8) 32 a.small b.small l (omega (arith, number_more s i 8, number_more t i 8))
    go Equal h = absurd (apart h)
    go Greater h = number_less t s 0 0 (i + 8) 32 b.small a.small l (omega (arith, number_more s i 8, number_more t i 8))

-- the same before both
stands_after : (o : Ordering) (h x y : ℕ) → Stands o x y → Stands o (h + x) (h + y)
stands_after Less h x y t = omega (arith, t)
stands_after Equal h x y t = omega (arith, t)
stands_after Greater h x y t = omega (arith, t)

-- bytes in the order of the library stand as their numbers do
pub cmp_stands : (xs ys : List ℕ) (n : ℕ) → length xs ≡ n → length ys ≡ n → ((i : ℕ) → get_or xs i 0 < 256) → ((i : ℕ) → get_or ys i 0 < 256) → Stands (slice_cmp nat_cmp xs ys) (number_at xs 0 n) (number_at ys 0 n)
unfolding number_at
cmp_stands [] [] n e f a b = let z : n ≡ 0 = omega arith in rw z refl
cmp_stands [] (y ∷ ys) n e f a b = absurd (omega arith)
cmp_stands (x ∷ xs) [] n e f a b = absurd (omega arith)
cmp_stands (x ∷ xs) (y ∷ ys) n e f a b = let z : n ≡ 1 + length xs = omega arith in rw z (step (nat_cmp x y) (ranked x y _ refl) (cmp_stands xs ys (length xs) refl (omega arith) (λ i. a (suc i)) (λ i. b (suc i))))
  where
    step : (o : Ordering) → MatchOrdering o (x < y) (x ≡ y) (y < x) → Stands (slice_cmp nat_cmp xs ys) (number_at xs 0 (length xs)) (number_at ys 0 (length xs)) → Stands (ordering_then o (slice_cmp nat_cmp xs ys)) (number_at (x ∷ xs) 0 (1 + length xs)) (number_at (y ∷ ys) 0 (1 + length xs))
    step Less h t = number_less (x ∷ xs) (y ∷ ys) 0 0 1 (1 + length xs) a b (omega arith) (omega arith)
    step Equal h t = rw (number_front x xs (length xs), number_front y ys (length xs), h) (stands_after (slice_cmp nat_cmp xs ys) _ _ _ t)
    step Greater h t = number_less (y ∷ ys) (x ∷ xs) 0 0 1 (1 + length xs) b a (omega arith) (omega arith)

-- there is one such answer
pub stands_unique : (o p : Ordering) (x y : ℕ) → Stands o x y → Stands p x y → o ≡ p
stands_unique Less Less x y t u = refl
stands_unique Less Equal x y t u = absurd (omega arith)
stands_unique Less Greater x y t u = absurd (omega arith)
stands_unique Equal Less x y t u = absurd (omega arith)
stands_unique Equal Equal x y t u = refl
stands_unique Equal Greater x y t u = absurd (omega arith)
stands_unique Greater Less x y t u = absurd (omega arith)
stands_unique Greater Equal x y t u = absurd (omega arith)
stands_unique Greater Greater x y t u = refl

-- the tests of an answer
pub says_eq : (o : Ordering) (x y : ℕ) → Stands o x y → Says (is_eq o) (x ≡ y)
says_eq Less x y t = λ l. omega (arith, t)
says_eq Equal x y t = t
says_eq Greater x y t = λ l. omega (arith, t)

pub says_lt : (o : Ordering) (x y : ℕ) → Stands o x y → Says (is_lt o) (x < y)
says_lt Less x y t = t
says_lt Equal x y t = λ l. omega (arith, t)
says_lt Greater x y t = λ l. omega (arith, t)
