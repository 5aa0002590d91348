-- `walk::spread` meets its contract. The loop's invariant: the records from i on are done.
use Rattle.walk.specs.Marks.{Painted}
use Rattle.walk.specs.Passes.{Reached}
use Rattle.walk.proofs.spread.Given as goal

abbrev pub invariant-loop-i : goal.invariant-loop-i
invariant-loop-i l = Painted (Reached l.pick l.graph.bytes.now l.initial.marks l.i) 1 l.initial.marks l.marks
