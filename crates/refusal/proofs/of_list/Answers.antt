-- `refusal::of_list` meets its contract.
use native.Mathlib.Omega.{arith}
use Rattle.rules.proofs.First.{first_here, first_next}
use Rattle.refusal.proofs.Refusals.{tested_refused, tested_next}
use Rattle.refusal.proofs.of_list.Goals as goal

pub returns-then-list-ne0 : goal.returns-then-list-ne0
returns-then-list-ne0 c = tested_refused (first_here _ _ _ c.if-list-ne0.true)

pub returns-then-list-gt512 : goal.returns-then-list-gt512
returns-then-list-gt512 c = tested_refused (first_next _ _ _ _ (λ n. n c.if-list-ne0.false) (first_here _ _ _ c.if-list-gt512.true))

pub returns : goal.returns
returns c = tested_next (λ n. n c.if-list-ne0.false) (tested_next (λ n. omega (arith, n, c.if-list-gt512.false)) c.of_store.ensures)
