-- What writing a record leaves.
-- Assumes nothing.
use Rattle.std.specs.Prelude.{ℕ, ◌+◌, ◌*◌, ◌≤◌, ◌<◌, ◌≡◌, List, length, get_or}
use Rattle.rules.specs.Graph.{Op}
use Rattle.rules.specs.Bytes.{digest_of, row}
use Rattle.digest.specs.Writes.{Written}
use Rattle.store.specs.Layout.{pair_at, digest_at, member_at, kind_at, preds_at, pred_at}

pub record Paired (s t : List ℕ) (p v : ℕ) : Type 0 where
  pub written : Written s t p (p + 2)
  pub there : pair_at t p ≡ v

pub record Placed (s t : List ℕ) (p : ℕ) (ps : List ℕ) (c : ℕ) : Type 0 where
  pub written : Written s t p (p + 2 * c)
  pub there : (k : ℕ) → k < c → pair_at t (p + 2 * k) ≡ get_or ps k 0

-- the places of an operation to be written are below n
abbrev pub Early : ℕ → List ℕ → Type 0
Early n ps = (k : ℕ) → k < length ps → get_or ps k 0 < n

-- record n of t has these bytes of its digest and member, this kind and these places, and all else is as in s
pub record Recorded (s t : List ℕ) (n : ℕ) (d : List ℕ) (k : ℕ) (m ps : List ℕ) : Type 0 where
  pub written : Written s t (64 + 98 * n) (162 + 98 * n)
  pub digest : digest_at t n ≡ digest_of d
  pub member : member_at t n ≡ digest_of m
  pub kind : kind_at t n ≡ k
  pub preds : preds_at t n ≡ length ps
  pub slots : (x : ℕ) → x < length ps → pred_at t n x ≡ get_or ps x 0
  pub unused : (x : ℕ) → length ps ≤ x → x < 16 → pred_at t n x ≡ pred_at s n x

-- the operation that is offered to the store s
abbrev pub offered : List ℕ → List ℕ → ℕ → List ℕ → List ℕ → Op
offered s d kind m ps = record { digest = digest_of d; kind = kind; member = digest_of m; preds = row (length ps) (λ k. digest_at s (get_or ps k 0)) }
