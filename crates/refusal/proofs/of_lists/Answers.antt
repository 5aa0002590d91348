-- `refusal::of_lists` meets its contract.
use mathlib.Core.Logic.{inl, inr, ⊎_elim}
use native.Mathlib.Omega.{arith}
use Rattle.rules.proofs.First.{first_here, first_next}
use Rattle.refusal.proofs.Refusals.{tested_refused, tested_next}
use Rattle.refusal.proofs.of_lists.Goals as goal
use Rattle.refusal.proofs.of_lists.Goals.{then-first-ne0-via-then-first-ne0, then-first-ne0-via-else-first-ne0+then-second-ne0}
use Rattle.refusal.proofs.of_lists.Goals.{then-first-gt512-via-then-first-gt512, then-first-gt512-via-else-first-gt512+then-second-gt512}

pub returns-then-first-ne0 : goal.returns-then-first-ne0
returns-then-first-ne0 c = tested_refused (first_here _ _ _ (elim c.then-first-ne0.branch [ then-first-ne0-via-then-first-ne0 w ↦ inl w.if-first-ne0.true | then-first-ne0-via-else-first-ne0+then-second-ne0 w ↦ inr w.if-second-ne0.true ]))

pub returns-then-first-gt512 : goal.returns-then-first-gt512
returns-then-first-gt512 c =
    tested_refused (first_next _ _ _ _ (⊎_elim (λ n. n c.if-first-ne0.false) (λ n. n c.if-second-ne0.false))
    (first_here _ _ _ (elim c.then-first-gt512.branch [ then-first-gt512-via-then-first-gt512 w ↦ inl w.if-first-gt512.true | then-first-gt512-via-else-first-gt512+then-second-gt512 w ↦ inr w.if-second-gt512.true ])))

pub returns : goal.returns
returns c =
    tested_next (⊎_elim (λ n. n c.if-first-ne0.false) (λ n. n c.if-second-ne0.false))
    (tested_next (⊎_elim (λ n. omega (arith, n, c.if-first-gt512.false)) (λ n. omega (arith, n, c.if-second-gt512.false))) c.of_store.ensures)
