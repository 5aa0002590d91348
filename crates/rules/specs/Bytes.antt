-- Bytes as numbers. A digest is the number of its 32 bytes, the first the highest: so digests compare byte by byte from the first.
-- Assumes nothing.
use Rattle.std.specs.Prelude.{ℕ, zero, suc, ◌+◌, ◌*◌, ◌/◌, ◌<◌, List, [], ◌∷◌, ◌++◌, length, get_or, take, drop}

-- each is a byte
pub record Bytes (s : List ℕ) : Type 0 where
  pub small : (j : ℕ) → get_or s j 0 < 256

-- the number of k bytes from p on, the first byte the highest
unfoldable pub number_at : List ℕ → ℕ → ℕ → ℕ
number_at s p zero = 0
number_at s p (suc k) = number_at s p k * 256 + get_or s (p + k) 0

-- the digest, or the member, that 32 bytes are
abbrev pub digest_of : List ℕ → ℕ
digest_of s = number_at s 0 32

-- f 0, f 1, .., n of them
unfoldable pub row : {A : Type 0} → ℕ → (ℕ → A) → List A
row zero f = []
row (suc n) f = row n f ++ (f n ∷ [])

-- the digests of a list that is lent, 32 bytes each
abbrev pub digests_of : List ℕ → List ℕ
digests_of s = row (length s / 32) (λ k. number_at s (32 * k) 32)

-- k bytes from p on
abbrev pub part : List ℕ → ℕ → ℕ → List ℕ
part s p k = take k (drop p s)
