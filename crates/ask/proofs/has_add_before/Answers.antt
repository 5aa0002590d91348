-- `ask::has_add_before` meets its contract.
use Rattle.rules.proofs.Answers.{answered_done}
use Rattle.refusal.proofs.Graphs.{unheld}
use Rattle.ask.proofs.Answers.{add_before_held}
use Rattle.ask.proofs.has_add_before.Goals as goal

pub returns-in_default : goal.returns-in_default
returns-in_default c = let t = c.in_ok-graph.ensures in answered_done t.number (λ x. unheld t.passed.0 (rw t.passed.2 at c.in_default.ensures) (add_before_held x))
