-- `span::raise_listed` meets its contract. The loop's invariant: the first k places that record i lists are raised.
use Rattle.store.specs.Layout.{pred_at}
use Rattle.walk.specs.Passes.{OneOf}
use Rattle.span.specs.Far.{Lifted}
use Rattle.span.proofs.raise_listed.Given as goal

abbrev pub invariant-loop-k : goal.invariant-loop-k
invariant-loop-k l = Lifted (OneOf (pred_at l.graph.bytes.now l.i) l.k) l.v l.initial.far l.far
