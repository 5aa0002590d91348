-- `walk::children` meets its contract. The loop's invariant: i records are done.
use Rattle.walk.specs.Passes.{Lists}
use Rattle.walk.proofs.Painting.{Marking}
use Rattle.walk.proofs.children.Given as goal

abbrev pub invariant-loop-i : goal.invariant-loop-i
invariant-loop-i l = Marking (λ j. Lists l.graph.bytes.now j l.p) l.i l.initial.marks l.marks
