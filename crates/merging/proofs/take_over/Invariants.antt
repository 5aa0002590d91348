-- `merging::take_over` meets its contract. The loop's invariant: the first i operations are taken over.
use Rattle.merging.specs.Places.{Taken}
use Rattle.merging.proofs.take_over.Given as goal

abbrev pub invariant-loop-i : goal.invariant-loop-i
invariant-loop-i l = Taken l.initial.s l.o.bytes.now l.initial.places l.s l.places l.i
