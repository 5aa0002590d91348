-- `lists::children_of` meets its contract.
use native.Mathlib.Omega.{arith}
use Rattle.rules.specs.Bytes.{digest_of}
use Rattle.rules.specs.Graph.{Child}
use Rattle.refusal.proofs.Refusals.{refuses_list, tested_part}
use Rattle.lists.proofs.Lists.{marks_listed, childless}
use Rattle.lists.proofs.children_of.Goals as goal

pub returns-in_err-graph : goal.returns-in_err-graph
returns-in_err-graph c = refuses_list _ _ c.from_residual.ensures.1 c.in_err-graph.ensures.number

pub returns-in_default : goal.returns-in_default
returns-in_default c = let t = c.in_ok-graph.ensures in childless (omega arith) (tested_part t) (rw t.passed.1 at c.in_default.ensures)

pub returns : goal.returns
returns c =
    let t = c.in_ok-graph.ensures in
    marks_listed (λ G. Child G (digest_of c.args.digest.now)) (omega arith) (tested_part t) (rw (c.in-Some.ensures.1, t.passed.1) at c.children.ensures.tells) (λ x p. record { op = p.op; stands = p.stands; named = p.named }) c.write_set.ensures
