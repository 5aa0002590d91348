-- `refusal::of_two` meets its contract.
use Rattle.refusal.proofs.Refusals.{tested_on, two_first, two_second}
use Rattle.refusal.proofs.of_two.Goals as goal

pub returns-in_err-graph : goal.returns-in_err-graph
returns-in_err-graph c = tested_on _ c.from_residual.ensures.1 (two_first _ _ _ _ c.in_err-graph.ensures.number)

pub returns-in_err-of_store : goal.returns-in_err-of_store
returns-in_err-of_store c = tested_on _ c.from_residual-in_err-of_store.ensures.1 (two_second _ _ _ _ c.in_ok-graph.ensures.number c.in_err-of_store.ensures.number)

pub returns : goal.returns
returns c = record { number = two_second _ _ _ _ c.in_ok-graph.ensures.number c.in_ok-of_store.ensures.number; passed = (c.in_ok-graph.ensures.passed.0, c.in_ok-of_store.ensures.passed, c.in_ok-graph.ensures.passed.1) }
