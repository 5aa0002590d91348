-- `walk::depths` meets its contract. The loop's invariant: i operations are measured.
use Rattle.walk.proofs.Told.{Measured}
use Rattle.walk.proofs.depths.Given as goal

abbrev pub invariant-loop-i : goal.invariant-loop-i
invariant-loop-i l = Measured l.graph.bytes.now l.i l.initial.depths l.depths
