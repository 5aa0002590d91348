use native.Mathlib.Omega.{arith}
use Rattle.walk.proofs.Painting.{graph_ready, ready_early}
use Rattle.walk.proofs.Passes.{deepest_max}
use Rattle.walk.proofs.depth_at.Goals as goal

pub loop-k-preserved : goal.loop-k-preserved
loop-k-preserved c =
    let r = c.record-record.ensures in
    let e = rw (r.0, r.1) at c.pred.ensures.0 in
    let n = rw (r.0, r.1) at c.preds-k-end.ensures.0 in
    let early = ready_early (graph_ready c.args.graph c.requires.room) c.args.i c.requires.i_bound c.loop-k.k (omega (arith, n)) in
    (omega (arith, e, early, c.requires.by_index _ early, c.max-deep.ensures), rw (c.max-deep.ensures, c.from.ensures, e) (deepest_max _ _ _ c.loop-k.k c.loop-k.deep c.loop-k.invariant.1))
