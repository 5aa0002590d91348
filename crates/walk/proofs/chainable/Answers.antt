-- `walk::chainable` meets its contract.
use Rattle.walk.proofs.Painting.{graph_ready}
use Rattle.walk.proofs.Told.{chainable_told}
use Rattle.walk.proofs.chainable.Goals as goal

pub returns : goal.returns
returns c = chainable_told (graph_ready c.args.graph c.requires.room) (rw c.count.ensures.0 at c.fill.ensures) c.mark_all_listed.ensures c.nearest.ensures
