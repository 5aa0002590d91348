-- `lists::nearest_update_ancestors` meets its contract.
use native.Mathlib.Omega.{arith}
use Rattle.rules.specs.Bytes.{digests_of}
use Rattle.rules.specs.Updates.{Nearest}
use Rattle.refusal.proofs.Refusals.{refuses_list}
use Rattle.walk.proofs.Painting.{graph_large}
use Rattle.walk.proofs.Told.{nearest_told}
use Rattle.lists.proofs.Lists.{marks_listed}
use Rattle.lists.proofs.nearest_update_ancestors.Goals as goal

pub returns-in_err-graph : goal.returns-in_err-graph
returns-in_err-graph c = refuses_list _ _ c.from_residual.ensures.1 c.in_err-graph.ensures.number

pub returns : goal.returns
returns c =
    let told = nearest_told (graph_large c.in_ok-graph.graph) c.nearest.ensures _ c.mark_held.ensures.0.tells in
    marks_listed (λ G. Nearest G (digests_of c.args.list.now)) (omega arith) c.in_ok-graph.ensures told.tells (λ x p. p.update.held) c.write_set.ensures
