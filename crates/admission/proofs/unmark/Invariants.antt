-- `admission::unmark` meets its contract. The loop's invariant: it is done for the first i places.
use Rattle.admission.specs.Marks.{MarkSet}
use Rattle.walk.specs.Marks.{Painted}
use Rattle.admission.proofs.unmark.Given as goal

abbrev pub invariant-loop-i : goal.invariant-loop-i
invariant-loop-i l = Painted (MarkSet l.other l.i) 0 l.initial.marks l.marks
