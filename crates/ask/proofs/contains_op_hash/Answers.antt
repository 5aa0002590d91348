-- `ask::contains_op_hash` meets its contract.
use Rattle.rules.proofs.Answers.{answered_done}
use Rattle.refusal.proofs.Graphs.{says_held}
use Rattle.ask.proofs.contains_op_hash.Goals as goal

pub returns : goal.returns
returns c = let t = c.in_ok-graph.ensures in rw c.is_some.ensures (answered_done t.number (says_held t.passed.0 _ c.place_of.result (rw t.passed.1 at c.place_of.ensures)))
