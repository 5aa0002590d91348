use native.Mathlib.Omega.{arith}
use Rattle.walk.proofs.Painting.{graph_ready}
use Rattle.walk.proofs.Told.{measured_more}
use Rattle.walk.proofs.depths.Goals as goal

pub loop-i-preserved : goal.loop-i-preserved
loop-i-preserved c = measured_more (graph_ready c.args.graph c.requires.room) c.loop-i.i c.depth_at.result (omega arith) (omega (arith, c.loop-i.invariant.size)) c.depth_at.ensures.0 c.depth_at.ensures.1 c.loop-i.invariant
