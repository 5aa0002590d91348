-- Making fresh: a buffer of a store's length is never refused.
-- Assumes nothing.
use Prim.Native.Nat.{ℕ}
use mathlib.Core.Path.{◌≡◌}
use mathlib.Core.Logic.{inl, inr}
use mathlib.Core.List.{List, [], ◌∷◌}
use lib.ListN.{length}
use Rattle.rules.specs.First.{First}
use Rattle.store.specs.Sound.{Blank, Freshened, size_of}

pub blank_of : {s t : List ℕ} {n : ℕ} → length s ≡ size_of 512 → Freshened 512 s t n → Blank 512 t
unfolding First
blank_of {s} {t} {n} long made = go made.number
  where
    go : First ((1, ¬ (length s ≡ size_of 512)) ∷ []) n → Blank 512 t
    go (inl other) = absurd (other.0 long)
    go (inr done) = made.done done.1
