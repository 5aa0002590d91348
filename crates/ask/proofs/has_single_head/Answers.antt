-- `ask::has_single_head` meets its contract.
use native.Mathlib.Omega.{arith}
use Rattle.rules.proofs.Answers.{answered_done}
use Rattle.walk.proofs.Painting.{graph_large}
use Rattle.ask.proofs.Marks.{front_says, single_told}
use Rattle.ask.proofs.has_single_head.Goals as goal

pub returns : goal.returns
returns c =
    let t = c.in_ok-graph.ensures in
    let one = rw c.count.ensures.0 at (front_says c.mark_heads.new.marks c.count.result c.one_mark.result (omega arith) c.one_mark.ensures) in
    answered_done t.number (rw t.passed.bytes at (single_told (graph_large c.in_ok-graph.graph) c.mark_heads.ensures c.one_mark.result one))
