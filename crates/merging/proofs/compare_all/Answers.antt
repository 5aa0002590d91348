use native.Mathlib.Omega.{arith}
use mathlib.Core.Path.{refl}
use Rattle.rules.proofs.Answers.{says_yes, says_no}
use Rattle.store.proofs.Tests.{looked_at}
use Rattle.walk.proofs.Painting.{graph_large, graph_ready}
use Rattle.walk.proofs.Places.{looked_unheld}
use Rattle.merging.proofs.Comparing.{agrees_none, agrees_has, agrees_lacks, clash_at}
use Rattle.merging.proofs.compare_all.Goals as goal
use Rattle.merging.proofs.compare_all.Goals.{in-Some+else-not-same_op, in-None}

pub loop-i-init : goal.loop-i-init
loop-i-init c = agrees_none _ _ _

pub returns-then-not-same_op : goal.returns-then-not-same_op
returns-then-not-same_op c =
    let looked = rw (rw (c.record.ensures.0, c.record.ensures.1) at c.digest.ensures) at c.place_of.ensures in
    let l = c.loop-i in (
      refl,
      clash_at (graph_large c.args.s) (graph_ready c.args.o c.requires) (omega (arith, c.count-i-end.ensures.0)) (looked_at c.place_of.result _ _ _ _ looked c.in-Some.is) (says_no c.same_op.result c.same_op.ensures c.if-not-same_op.true),
      (l.i, l.lacking, l.invariant),
    )

pub loop-i-preserved : goal.loop-i-preserved
loop-i-preserved c =
    let looked = rw (rw (c.record.ensures.0, c.record.ensures.1) at c.digest.ensures) at c.place_of.ensures in
    let S = graph_large c.args.s in
    let A = c.loop-i.invariant in
    elim c.match-place_of.branch [
      | in-Some+else-not-same_op w ↦ rw (w.places-is, w.lacking-is) (agrees_has S (omega (arith, A.placed.size, c.requires)) A w.in-Some.p (looked_at c.place_of.result _ _ _ _ looked w.in-Some.is).0 (says_yes w.same_op.result w.same_op.ensures w.if-not-same_op.false))
      | in-None w ↦ rw (w.places-is, w.lacking-is) (agrees_lacks S (omega (arith, A.placed.size, c.requires)) A (looked_unheld S c.place_of.result _ looked w.in-None.is))
    ]
