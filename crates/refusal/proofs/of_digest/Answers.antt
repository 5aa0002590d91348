-- `refusal::of_digest` meets its contract.
use native.Mathlib.Omega.{arith}
use Rattle.rules.proofs.Answers.{first_none}
use Rattle.rules.proofs.First.{first_next, first_stays}
use Rattle.rules.proofs.Numbers.{code_some}
use Rattle.refusal.proofs.Refusals.{tested_on}
use Rattle.refusal.proofs.of_digest.Goals as goal

pub returns-in_err-digest : goal.returns-in_err-digest
returns-in_err-digest c = tested_on _ c.from_residual.ensures.1 (first_stays _ _ _ (code_some c.in_err-digest.field-0.0) c.in_err-digest.ensures.number)

pub returns-in_err-of_store : goal.returns-in_err-of_store
returns-in_err-of_store c =
    let n = first_none _ 0 (omega arith) c.in_ok-digest.ensures.number in
    tested_on _ c.from_residual-in_err-of_store.ensures.1 (first_next _ _ _ _ n.0 c.in_err-of_store.ensures.number)

pub returns : goal.returns
returns c =
    let n = first_none _ 0 (omega arith) c.in_ok-digest.ensures.number in
    record { number = first_next _ _ _ _ n.0 c.in_ok-of_store.ensures.number; passed = (c.in_ok-of_store.ensures.passed, c.in_ok-digest.ensures.passed.0) }
