-- `walk::keep_updates` meets its contract. The loop's invariant: i records are done.
use Rattle.walk.specs.Marks.{Painted}
use Rattle.walk.specs.Passes.{Plain}
use Rattle.walk.proofs.keep_updates.Given as goal

abbrev pub invariant-loop-i : goal.invariant-loop-i
invariant-loop-i l = Painted (Plain l.graph.bytes.now l.i) 0 l.initial.marks l.marks
