-- `walk::mark_all_listed` meets its contract. The loop's invariant: i records are done.
use Rattle.walk.specs.Marks.{Painted}
use Rattle.walk.specs.Passes.{SomeLists}
use Rattle.walk.proofs.mark_all_listed.Given as goal

abbrev pub invariant-loop-i : goal.invariant-loop-i
invariant-loop-i l = Painted (SomeLists l.pick l.graph.bytes.now l.i) l.v l.initial.marks l.marks
