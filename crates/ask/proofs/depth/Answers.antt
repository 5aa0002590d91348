-- `ask::depth` meets its contract.
use Rattle.rules.proofs.Answers.{valued_done}
use Rattle.refusal.proofs.Graphs.{held, unheld, found_on, lacking_on}
use Rattle.refusal.proofs.Refusals.{refuses_value, held_refused, held_lacking, held_done}
use Rattle.ask.proofs.depth.Goals as goal

pub returns-in_err-graph : goal.returns-in_err-graph
returns-in_err-graph c = refuses_value _ _ c.from_residual.ensures.1 (held_refused _ _ _ c.in_err-graph.ensures.number)

pub returns-in_err-i : goal.returns-in_err-i
returns-in_err-i c =
    let t = c.in_ok-graph.ensures in
    let n = lacking_on c.place_of.result _ _ _ _ c.in_err-i.ensures.value c.place_of.ensures in
    refuses_value _ _ c.from_residual-in_err-i.ensures.1 (rw n.1 (held_lacking _ _ t.number (unheld t.passed.0 (rw t.passed.1 at n.0))))

pub returns : goal.returns
returns c =
    let t = c.in_ok-graph.ensures in
    let place = found_on c.place_of.result _ _ _ _ c.in_ok-i.ensures.value (rw t.passed.1 at c.place_of.ensures) in
    valued_done (held_done _ _ t.number (held t.passed.0 place.0 place.1)) (rw c.from.ensures (rw (place.1, t.passed.0.bytes) at (c.depths.ensures.each _ place.0)))
