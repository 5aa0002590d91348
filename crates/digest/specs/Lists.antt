-- The cursor over a list of digests, and the digests of a list by their places.
-- Assumes nothing.
use Rattle.std.specs.Prelude.{ℕ, Option, Some, None, ◌+◌, ◌*◌, ◌<◌, ◌≡◌, List, leb}
use Rattle.std.specs.Cmp.Lexicographic.{slice_cmp}
use Rattle.std.specs.List.Sorted.{IsSortedWithin}
use Rattle.std.specs.Ordering.{nat_cmp, is_lt}
use Rattle.rules.specs.Bytes.{number_at}
use Rattle.rules.specs.Log.{choose}
use Rattle.digest.specs.declared.Cursor.{Cursor}

-- the cursor at a place of a list of n bytes: a digest's place and the cursor one place further, or no more
abbrev pub next_at : ℕ → ℕ → Option (ℕ × Cursor)
next_at n p = choose (leb (p + 32) n) (Some (p, record { at = p + 32 })) None

-- the k-th digest of a list
abbrev pub nth : List ℕ → ℕ → ℕ
nth s k = number_at s (32 * k) 32

-- x is one of the first n digests of s
pub record Among (s : List ℕ) (n x : ℕ) : Type 0 where
  pub place : ℕ
  pub within : place < n
  pub there : nth s place ≡ x

-- the first n of a list of arrays ascend
abbrev pub Ascends : List (List ℕ) → ℕ → Type 0
Ascends xs n = IsSortedWithin (λ x y. is_lt (slice_cmp nat_cmp x y)) xs 0 n
