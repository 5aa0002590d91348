-- What a chain over a slice answers.
-- Assumes nothing.
use Prim.Native.Nat.{ℕ, ◌<◌}
use native.Mathlib.Omega.{arith}
use mathlib.Core.Bool.{Bool, true, false}
use mathlib.Core.List.{List}
use lib.ListN.{length, get_or}
use Rattle.std.specs.Bool.{MatchBool}
use Rattle.std.specs.List.{AllWithin, HoldsAt}
use Rattle.rules.specs.Answers.{Says}

-- whether all of a list have P
pub says_each : {X : Type 0} (P : X → Type 0) (d : X) (xs : List X) (r : Bool) → MatchBool r (AllWithin P xs 0 (length xs)) ((k : ℕ) × (k < length xs) × HoldsAt (λ x. ¬ P x) xs k) → Says r ((i : ℕ) → i < length xs → P (get_or xs i d))
says_each P d xs true h = λ i l. h i d (omega arith) l
says_each P d xs false h = λ f. h.2 d (f h.0 h.1)
