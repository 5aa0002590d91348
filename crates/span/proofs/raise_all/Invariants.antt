-- `span::raise_all` meets its contract. The loop's invariant: i records are done.
use Rattle.span.specs.Far.{Raised}
use Rattle.span.proofs.raise_all.Given as goal

abbrev pub invariant-loop-i : goal.invariant-loop-i
invariant-loop-i l = Raised l.graph.bytes.now l.marks l.ranks l.i l.initial.far l.far
