-- `ask::contains_all` meets its contract.
use Rattle.rules.proofs.Answers.{answered_done}
use Rattle.ask.proofs.Answers.{missing_says}
use Rattle.ask.proofs.contains_all.Goals as goal

pub returns : goal.returns
returns c = let t = c.in_ok-graph.ensures in answered_done t.number (rw t.passed.bytes at (missing_says c.mark_held-missing.ensures.1))
