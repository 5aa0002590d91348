-- `refusal::of_list_and_kind` meets its contract.
use Prim.Native.Nat.{◌≤◌}
use mathlib.Core.Logic.{inl, inr, ⊎_elim}
use mathlib.Core.Path.{refl}
use native.Mathlib.Omega.{arith}
use Rattle.rules.specs.Numbers.{kind_code}
use Rattle.rules.specs.declared.Kind.{Kind}
use Rattle.rules.proofs.First.{iff, first_here, first_moves}
use Rattle.refusal.proofs.Refusals.{tested_on}
use Rattle.refusal.proofs.of_list_and_kind.Goals as goal

-- no kind is above 2
kind_small : (k : Kind) → kind_code k ≤ 2
kind_small k = grind arith

pub returns-in_err-try_from : goal.returns-in_err-try_from
returns-in_err-try_from c = let h = c.in_err-try_from.ensures in tested_on _ c.from_residual.ensures.1 (rw h.0 (first_here _ _ _ (inr h.1)))

pub returns : goal.returns
returns c =
    let t = c.of_list.ensures in
    let few = kind_small c.in_ok-try_from.field-0 in
    record { number = first_moves _ _ _ (refl, (inl, ⊎_elim (λ n. n) (λ n. omega (arith, c.in_ok-try_from.ensures))), λ n. (refl, iff, λ m. (refl, iff, λ k. tt))) t.number; passed = t.passed }
