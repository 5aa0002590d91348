-- `lists::heads` meets its contract.
use native.Mathlib.Omega.{arith}
use Rattle.rules.specs.Graph.{Head}
use Rattle.refusal.proofs.Refusals.{refuses_list}
use Rattle.lists.proofs.Lists.{marks_listed}
use Rattle.lists.proofs.heads.Goals as goal

pub returns-in_err-graph : goal.returns-in_err-graph
returns-in_err-graph c = refuses_list _ _ c.from_residual.ensures.1 c.in_err-graph.ensures.number

pub returns : goal.returns
returns c = marks_listed Head (omega arith) c.in_ok-graph.ensures c.mark_heads.ensures.tells (λ x p. p.held) c.write_set.ensures
