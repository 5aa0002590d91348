-- `lists::copy_preds` meets its contract. The loop's invariant: the first k places that record i lists are copied.
use Rattle.walk.specs.Marks.{Front}
use Rattle.store.specs.Layout.{pred_at}
use Rattle.lists.proofs.copy_preds.Given as goal

abbrev pub invariant-loop-k : goal.invariant-loop-k
invariant-loop-k l = Front (pred_at l.graph.bytes.now l.i) l.initial.places l.places l.k
