use Prim.Native.Nat.{◌<◌}
use native.Mathlib.Omega.{arith}
use lib.ListN.{length}
use Rattle.store.specs.Layout.{pred_at}
use Rattle.walk.proofs.Painting.{graph_ready, ready_early}
use Rattle.span.proofs.Raising.{lifted_max}
use Rattle.span.proofs.raise_listed.Goals as goal

pub loop-k-preserved : goal.loop-k-preserved
loop-k-preserved c =
    let r = c.record-record.ensures in
    let n = rw (r.0, r.1) at c.preds-k-end.ensures.0 in
    let g = pred_at c.args.graph.bytes.now c.args.i in
    let in_far : g c.loop-k.k < length c.loop-k.far = omega (arith, ready_early (graph_ready c.args.graph c.requires.room) _ c.requires.i_bound c.loop-k.k (omega (arith, n)), c.loop-k.invariant.size) in
    rw (c.max.ensures, rw (r.0, r.1) at c.pred-p.ensures.0) (lifted_max g c.loop-k.k c.loop-k.invariant in_far)
