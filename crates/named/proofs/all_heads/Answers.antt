-- `named::all_heads` meets its contract.
use Rattle.walk.proofs.Painting.{graph_ready}
use Rattle.named.proofs.Naming.{heads_listed}
use Rattle.named.proofs.all_heads.Goals as goal

pub returns : goal.returns
returns c = let t = c.mark_heads.ensures in (heads_listed (graph_ready c.args.graph c.requires.room) t.tells _ c.all_listed.result c.all_listed.ensures, t)
