use native.Mathlib.Omega.{arith}
use mathlib.Core.Path.{◌≡◌}
use Rattle.store.specs.Layout.{count_of}
use Rattle.walk.proofs.Painting.{graph_ready}
use Rattle.walk.proofs.Told.{children_told}
use Rattle.walk.proofs.children.Goals as goal

pub returns : goal.returns
returns c = let e : c.loop-i.i ≡ count_of c.args.graph.bytes.now = omega (arith, c.count-i-end.ensures.0) in children_told (graph_ready c.args.graph c.requires.room) c.args.p c.requires.p_bound (rw e at c.loop-i.invariant)
