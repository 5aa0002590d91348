-- `walk::depth_at` meets its contract. The loop's invariant: k slots are measured.
use Prim.Native.Nat.{◌≤◌}
use Rattle.walk.specs.Passes.{Deepest}
use Rattle.walk.proofs.depth_at.Given as goal

abbrev pub invariant-loop-k : goal.invariant-loop-k
invariant-loop-k l = (l.deep ≤ l.i) × Deepest l.graph.bytes.now l.i l.depths l.k l.deep
