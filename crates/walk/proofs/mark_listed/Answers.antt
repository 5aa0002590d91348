use native.Mathlib.Omega.{arith}
use Rattle.walk.proofs.Painting.{graph_ready, ready_early}
use Rattle.walk.proofs.Passes.{one_more}
use Rattle.walk.proofs.mark_listed.Goals as goal

pub loop-k-preserved : goal.loop-k-preserved
loop-k-preserved c =
    let r = c.record-record.ensures in
    let e = rw (r.0, r.1) at c.pred.ensures.0 in
    let n = rw (r.0, r.1) at c.preds-k-end.ensures.0 in
    let R = graph_ready c.args.graph c.requires.room in
    one_more c.loop-k.invariant e (omega (arith, e, ready_early R c.args.i c.requires.i_bound c.loop-k.k (omega (arith, n))))
