-- `refusal::whole` meets its contract.
use Prim.Native.Nat.{ℕ}
use denote.Ref.{Bor}
use mathlib.Core.List.{List, [], ◌∷◌}
use mathlib.Core.Logic.{◌≢◌}
use mathlib.Core.Path.{◌≡◌}
use lib.ListN.{length}
use Rattle.std.specs.Array.{IsWholeChunk}
use Rattle.std.specs.Option.{ok_or}
use Rattle.std.specs.Prelude.{Result, Ok, Err}
use Rattle.std.specs.Result.{MatchResult, result_ok}
use Rattle.rules.specs.Table.{OneDigest}
use Rattle.rules.specs.declared.Refusal.TheVariants.{Shape}
use Rattle.rules.proofs.First.{first_done, first_here, first_next}
use Rattle.refusal.specs.Damage.{Tested}
use Rattle.refusal.proofs.Refusals.{tested_refused}
use Rattle.refusal.proofs.whole.Goals as goal

tested : {E : Type 0} (r : Result (Bor (List ℕ)) E) (s : List ℕ) → MatchResult r (λ y. IsWholeChunk s y.now 32) (λ e. length s ≢ 32) → Tested ((1, ¬ OneDigest s) ∷ []) (λ d. (d.now ≡ s) × OneDigest s) (ok_or (result_ok r) Shape)
tested (Ok x) s m = record { number = first_next _ _ _ _ (λ n. n m.long) first_done; passed = (m.same, m.long) }
tested (Err e) s m = tested_refused (first_here _ _ _ m)

pub returns : goal.returns
returns c = rw (c.ok_or.ensures.value, c.ok.ensures.value) (tested c.try_into.result c.args.bytes.now c.try_into.ensures.1)
