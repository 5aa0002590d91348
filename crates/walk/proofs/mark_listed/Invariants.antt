-- `walk::mark_listed` meets its contract. The loop's invariant: the first k places that record i lists have the mark.
use Rattle.store.specs.Layout.{pred_at}
use Rattle.walk.specs.Marks.{Painted}
use Rattle.walk.specs.Passes.{OneOf}
use Rattle.walk.proofs.mark_listed.Given as goal

abbrev pub invariant-loop-k : goal.invariant-loop-k
invariant-loop-k l = Painted (OneOf (pred_at l.graph.bytes.now l.i) l.k) l.v l.initial.marks l.marks
