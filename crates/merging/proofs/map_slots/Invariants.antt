-- `merging::map_slots` meets its contract. The loop's invariant: the first k slots are mapped.
use Rattle.store.specs.Layout.{pred_at}
use Rattle.walk.specs.Marks.{Front}
use Rattle.merging.specs.Places.{placed}
use Rattle.merging.proofs.map_slots.Given as goal

abbrev pub invariant-loop-k : goal.invariant-loop-k
invariant-loop-k l = Front (λ x. placed l.places (pred_at l.o.bytes.now l.i x)) l.initial.slots l.slots l.k
