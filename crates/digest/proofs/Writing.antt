-- Laws of writing bytes.
-- Assumes nothing.
use Prim.Native.Nat.{ℕ, ◌+◌, ◌≤◌, ◌<◌}
use native.Mathlib.Omega.{arith}
use mathlib.Core.Path.{◌≡◌, ◌∙◌}
use mathlib.Core.Logic.{◌⊎◌, inl, inr}
use mathlib.Core.List.{List}
use lib.ListN.{set, length-set}
use lib.Seq.{get_or-set_other}
use Rattle.rules.specs.Bytes.{number_at}
use Rattle.rules.proofs.Bytes.{number_same}
use Rattle.digest.specs.Writes.{Written, Copied}

pub written_set : (s : List ℕ) (p v a b : ℕ) → a ≤ p → p < b → Written s (set s p v) a b
written_set s p v a b h l =
    record {
      size = length-set s p v;
      below = λ j k. get_or-set_other s p j v 0 (λ e. omega arith);
      above = λ j k. get_or-set_other s p j v 0 (λ e. omega arith);
    }

-- one write after another
pub written_then : {s t u : List ℕ} {a b c d : ℕ} (x y : ℕ) → Written s t a b → Written t u c d → x ≤ a → x ≤ c → b ≤ y → d ≤ y → Written s u x y
written_then x y v w h k l m =
    record {
      size = w.size ∙ v.size;
      below = λ j n. w.below j (omega arith) ∙ v.below j (omega arith);
      above = λ j n. w.above j (omega arith) ∙ v.above j (omega arith);
    }

-- 32 bytes copied are one digest copied
pub copied_number : {s t : List ℕ} {p : ℕ} {d : List ℕ} {at : ℕ} → Copied s t p d at 32 → number_at t p 32 ≡ number_at d at 32
copied_number {s} {t} {p} {d} {at} C = number_same t d p at 32 C.there

-- a number that lies outside what is written stays
pub written_number : {s t : List ℕ} {a b : ℕ} (p k : ℕ) → Written s t a b → (p + k ≤ a) ⊎ (b ≤ p) → number_at t p k ≡ number_at s p k
written_number {s} {t} p k w (inl h) = number_same t s p p k (λ j l. w.below (p + j) (omega arith))
written_number {s} {t} p k w (inr h) = number_same t s p p k (λ j l. w.above (p + j) (omega arith))
