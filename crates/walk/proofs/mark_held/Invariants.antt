-- `walk::mark_held` meets its contract. The loop's invariant: k digests of the list are done.
use Prim.Native.Nat.{◌≤◌}
use Rattle.walk.specs.Held.{Sized, UnheldAmong, Wanted}
use Rattle.walk.specs.Marks.{Painted}
use Rattle.walk.proofs.mark_held.Given as goal

abbrev pub invariant-loop-k : goal.invariant-loop-k
invariant-loop-k l = (l.missing ≤ l.k) × Painted (Wanted l.graph.bytes.now l.list l.k) 1 l.initial.marks l.marks × Sized (UnheldAmong l.graph.bytes.now l.list l.k) l.missing
