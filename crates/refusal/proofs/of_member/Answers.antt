-- `refusal::of_member` meets its contract.
use mathlib.Core.Logic.{inl}
use Rattle.refusal.proofs.Refusals.{tested_on, first_wider, member_second}
use Rattle.refusal.proofs.of_member.Goals as goal

pub returns-in_err-member : goal.returns-in_err-member
returns-in_err-member c = tested_on _ c.from_residual.ensures.1 (first_wider _ _ inl _ c.in_err-member.ensures.number)

pub returns-in_err-graph : goal.returns-in_err-graph
returns-in_err-graph c = tested_on _ c.from_residual-in_err-graph.ensures.1 (member_second _ _ _ _ c.in_ok-member.ensures.number c.in_err-graph.ensures.number)

pub returns : goal.returns
returns c =
    let p = c.in_ok-graph.ensures.passed in
    record { number = member_second _ _ _ _ c.in_ok-member.ensures.number c.in_ok-graph.ensures.number; passed = (p.0, c.in_ok-member.ensures.passed.0, p.1) }
