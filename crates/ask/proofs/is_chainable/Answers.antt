-- `ask::is_chainable` meets its contract.
use Rattle.rules.proofs.Answers.{answered_done}
use Rattle.refusal.proofs.Graphs.{unheld}
use Rattle.ask.proofs.is_chainable.Goals as goal

pub returns-in_default : goal.returns-in_default
returns-in_default c = let t = c.in_ok-graph.ensures in answered_done t.number (λ x. unheld t.passed.0 (rw t.passed.1 at c.in_default.ensures) x.update.held)
