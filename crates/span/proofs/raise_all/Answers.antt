use native.Mathlib.Omega.{arith}
use mathlib.Core.Path.{◌≡◌}
use Rattle.store.specs.Layout.{count_of}
use Rattle.span.proofs.Raising.{raised_more, raised_skip}
use Rattle.span.proofs.raise_all.Goals as goal
use Rattle.span.proofs.raise_all.Goals.{then-marks-i-eq1, else-marks-i-eq1}

pub loop-i-preserved : goal.loop-i-preserved
loop-i-preserved c =
    elim c.if-marks-i-eq1.branch [
      | then-marks-i-eq1 w ↦ rw w.far-is (raised_more c.loop-i.invariant w.if-marks-i-eq1.true w.raise_listed.ensures)
      | else-marks-i-eq1 w ↦ rw w.far-is (raised_skip c.loop-i.invariant w.if-marks-i-eq1.false)
    ]

pub returns : goal.returns
returns c = let e : c.loop-i.i ≡ count_of c.args.graph.bytes.now = omega (arith, c.count-i-end.ensures.0) in rw e at c.loop-i.invariant
