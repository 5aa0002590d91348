-- Laws of lists of digests: one digest more, the cursor.
-- Assumes nothing.
use Prim.Native.Nat.{ℕ, ◌+◌, ◌≤◌, ◌<◌}
use native.Mathlib.Omega.{arith}
use native.Mathlib.Decide.{ℕ_discrete}
use mathlib.Core.Path.{◌≡◌, refl, sym, ap}
use mathlib.Core.Bool.{Bool, true, false}
use mathlib.Core.Logic.{◌⊎◌, inl, inr}
use mathlib.Core.List.{List}
use lib.Dec.{leb}
use Rattle.std.specs.Prelude.{Some, None}
use borrow.Author.Tests.{leb-true, leb-false}
use Rattle.rules.specs.Log.{choose}
use Rattle.digest.specs.Lists.{next_at, nth, Among}
use Rattle.digest.specs.declared.Cursor.{Cursor}

-- one digest more of a list
pub among_wider : {l : List ℕ} {k d : ℕ} → Among l k d → Among l (k + 1) d
among_wider x = record { place = x.place; within = omega (arith, x.within); there = x.there }

pub among_last : (l : List ℕ) (k : ℕ) {d : ℕ} → nth l k ≡ d → Among l (k + 1) d
among_last l k e = record { place = k; within = omega arith; there = e }

pub among_split : {l : List ℕ} {k d : ℕ} → Among l (k + 1) d → Among l k d ⊎ (nth l k ≡ d)
among_split {l} {k} {d} x = go (ℕ_discrete x.place k)
  where
    go : Dec (x.place ≡ k) → Among l k d ⊎ (nth l k ≡ d)
    go (yes e) = inr (rw e at x.there)
    go (no n) = inl (record { place = x.place; within = omega (arith, x.within, n); there = x.there })

-- what the cursor answered
module _ (n p : ℕ) where
  more_at : ℕ × Cursor
  more_at = (p, record { at = p + 32 })

  digest_cases : (b : Bool) → leb (p + 32) n ≡ b → (q : ℕ × Cursor) → choose b (Some more_at) None ≡ Some q → (p + 32 ≤ n) × (q.0 ≡ p) × (q.1.at ≡ p + 32)
  unfolding more_at
  digest_cases true t q e = let h : more_at ≡ q = cc in (leb-true _ _ t, ap (λ (x : ℕ × Cursor). x.0) (sym h), ap (λ (x : ℕ × Cursor). x.1.at) (sym h))
  digest_cases false t q e = absurd cc

  pub next_digest : (q : ℕ × Cursor) → next_at n p ≡ Some q → (p + 32 ≤ n) × (q.0 ≡ p) × (q.1.at ≡ p + 32)
  unfolding more_at
  next_digest = digest_cases (leb (p + 32) n) refl

  done_cases : (b : Bool) → leb (p + 32) n ≡ b → choose b (Some more_at) None ≡ None → n < p + 32
  done_cases true t e = absurd cc
  done_cases false t e = leb-false _ _ t

  pub next_done : next_at n p ≡ None → n < p + 32
  unfolding more_at
  next_done = done_cases (leb (p + 32) n) refl
