-- A store's bytes: 0 and 1 the number of operations; 64 + 98 i the i-th record: digest 32, member 32, kind, number of predecessors,
-- 16 slots of two bytes, each the place of a predecessor.
-- Assumes nothing.
use Rattle.std.specs.Prelude.{ℕ, ◌+◌, ◌*◌, List, get_or}
use Rattle.rules.specs.Bytes.{number_at, row}
use Rattle.rules.specs.Graph.{Op}

-- two bytes from p on, the first the lowest
abbrev pub pair_at : List ℕ → ℕ → ℕ
pair_at s p = get_or s p 0 + 256 * get_or s (p + 1) 0

abbrev pub count_of : List ℕ → ℕ
count_of s = pair_at s 0

abbrev pub digest_at : List ℕ → ℕ → ℕ
digest_at s i = number_at s (64 + 98 * i) 32

abbrev pub member_at : List ℕ → ℕ → ℕ
member_at s i = number_at s (96 + 98 * i) 32

abbrev pub kind_at : List ℕ → ℕ → ℕ
kind_at s i = get_or s (128 + 98 * i) 0

abbrev pub preds_at : List ℕ → ℕ → ℕ
preds_at s i = get_or s (129 + 98 * i) 0

-- the place that slot k of record i names
abbrev pub pred_at : List ℕ → ℕ → ℕ → ℕ
pred_at s i k = pair_at s (130 + 98 * i + 2 * k)

abbrev pub op_of : List ℕ → ℕ → Op
op_of s i = record { digest = digest_at s i; kind = kind_at s i; member = member_at s i; preds = row (preds_at s i) (λ k. digest_at s (pred_at s i k)) }

-- the operations that a store holds, in order of admission
unfoldable pub ops_of : List ℕ → List Op
ops_of s = row (count_of s) (op_of s)
