-- `merging::compare_all` meets its contract. The loop's invariant: the first i operations agree, and `lacking` of them are missing.
use Rattle.merging.specs.Places.{Agrees}
use Rattle.merging.proofs.compare_all.Given as goal

abbrev pub invariant-loop-i : goal.invariant-loop-i
invariant-loop-i l = Agrees l.s.bytes.now l.o.bytes.now l.initial.places l.places l.i l.lacking
