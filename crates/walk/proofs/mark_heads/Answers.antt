-- `walk::mark_heads` meets its contract.
use Rattle.walk.proofs.Painting.{graph_ready}
use Rattle.walk.proofs.Told.{heads_told}
use Rattle.walk.proofs.mark_heads.Goals as goal

pub returns : goal.returns
returns c = heads_told (graph_ready c.args.graph c.requires.room) (rw c.count.ensures.0 at c.fill.ensures) c.mark_all_listed.ensures
