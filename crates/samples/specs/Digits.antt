-- Lists of digests, written as digits.
-- Assumes nothing.
use Rattle.std.specs.Prelude.{ℕ, ◌*◌, ◌/◌, ◌%◌, min, List, length, get_or}
use Rattle.rules.specs.Bytes.{row}

-- the list that the digits stand for: for each a digest, 32 bytes of its value, but so many bytes at most
abbrev pub spelled : List ℕ → ℕ → List ℕ
spelled digits most = row (min (32 * length digits) most) (λ j. get_or digits (j / 32) 0 % 16)
