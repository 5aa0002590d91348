-- `admission::mark_slots` meets its contract. The loop's invariant: the first places have the mark.
use Rattle.walk.specs.Passes.{OneOf}
use Rattle.walk.specs.Marks.{Painted}
use lib.ListN.{get_or}
use Rattle.admission.proofs.mark_slots.Given as goal

abbrev pub invariant-loop-place : goal.invariant-loop-place
invariant-loop-place l = Painted (OneOf (λ x. get_or l.places x 0) l.place-index) 1 l.initial.marks l.marks
