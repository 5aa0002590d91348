-- `admission::mark_passed` meets its contract.
use native.Mathlib.Omega.{arith}
use Rattle.admission.proofs.Passing.{passed_told}
use Rattle.walk.proofs.Painting.{graph_ready}
use Rattle.admission.proofs.mark_passed.Goals as goal

pub returns : goal.returns
returns c =
    let e = c.count-n.ensures.0 in
    let q = c.chainable.ensures in
    (passed_told (graph_ready c.args.graph c.requires.room.0) c.args.places.now c.requires.early (rw e at c.fill.ensures) c.mark_slots.ensures c.nearest.ensures q (omega arith) c.unmark.ensures, q)
