-- The list that digits stand for, byte by byte.
-- Assumes nothing.
use Prim.Native.Nat.{ℕ, ◌*◌, ◌/◌, ◌%◌, ◌<◌, min}
use native.Mathlib.Omega.{arith}
use mathlib.Core.Path.{◌≡◌, sym, ◌∙◌}
use mathlib.Core.List.{List}
use lib.ListN.{length, get_or, take, length-take}
use lib.Seq.{ext_get_or, get_or-take}
use Rattle.rules.proofs.Bytes.{row_length, row_at}
use Rattle.samples.specs.Digits.{spelled}

pub spelled_of : (ds s : List ℕ) (n : ℕ) → n ≡ min (32 * length ds) (length s) → ((k : ℕ) → k < n → get_or s k 0 ≡ get_or ds (k / 32) 0 % 16) → take n s ≡ spelled ds (length s)
spelled_of ds s n e h = ext_get_or 0 (take n s) (spelled ds (length s)) (omega (arith, length-take n s, long)) same
  where
    long : length (spelled ds (length s)) ≡ min (32 * length ds) (length s)
    long = row_length (min (32 * length ds) (length s)) (λ k. get_or ds (k / 32) 0 % 16)

    same : (k : ℕ) → k < length (take n s) → get_or (take n s) k 0 ≡ get_or (spelled ds (length s)) k 0
    same k l =
        let below : k < n = omega (arith, length-take n s) in
        get_or-take n s k 0 below ∙ h k below ∙ sym (row_at 0 (min (32 * length ds) (length s)) (λ j. get_or ds (j / 32) 0 % 16) k (omega (arith, e)))
