-- `store::Graph::new` meets its contract.
use Rattle.store.proofs.Ops.{sound_checked}
use Rattle.store.proofs.graph.Graph.new.Goals as goal

pub invariant_of-result : goal.invariant_of-result
invariant_of-result c = record { checked = sound_checked c.if-sound.ensures }
