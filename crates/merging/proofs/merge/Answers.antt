-- `merging::merge` meets its contract.
use native.Mathlib.Omega.{arith}
use mathlib.Core.Logic.{inl, inr}
use Rattle.refusal.proofs.Refusals.{handed_on}
use Rattle.merging.proofs.Merging.{merges_refused, merges_clash, merges_full, not_overfull, merges_done}
use Rattle.merging.proofs.merge.Goals as goal

pub returns-in_err-graph : goal.returns-in_err-graph
returns-in_err-graph c = merges_refused _ _ c.from_residual.ensures.1 c.in_err-graph.ensures.number inl

pub returns-in_err-other : goal.returns-in_err-other
returns-in_err-other c = merges_refused _ _ c.from_residual-in_err-other.ensures.1 c.in_err-other.ensures.number inr

pub returns-in_err-lacking : goal.returns-in_err-lacking
returns-in_err-lacking c = let x = c.in_err-lacking.ensures in rw (handed_on c.from_residual-in_err-lacking.result c.from_residual-in_err-lacking.ensures.1, x.0) (merges_clash c.in_ok-graph.ensures.passed c.in_ok-other.ensures.passed x.1)

pub returns-then-count-lacking-gt512 : goal.returns-then-count-lacking-gt512
returns-then-count-lacking-gt512 c = merges_full c.in_ok-graph.ensures.passed c.in_ok-other.ensures.passed c.in_ok-lacking.ensures (omega (arith, c.count.ensures.0))

pub take_over-requires-clause-not_overfull : goal.take_over-requires-clause-not_overfull
take_over-requires-clause-not_overfull c = not_overfull c.in_ok-graph.ensures.passed c.in_ok-other.ensures.passed c.in_ok-lacking.ensures (omega (arith, c.count.ensures.0))

pub returns : goal.returns
returns c = merges_done c.in_ok-graph.ensures.passed c.in_ok-other.ensures.passed c.in_ok-lacking.ensures (omega (arith, c.count.ensures.0)) c.take_over.ensures
