-- `merging::append_from` meets its contract.
use native.Mathlib.Omega.{arith}
use Rattle.walk.proofs.Painting.{graph_large}
use Rattle.merging.proofs.Mapping.{mapped_op}
use Rattle.merging.proofs.append_from.Goals as goal

pub returns : goal.returns
returns c =
    let f = c.map_slots-c.ensures in
    let R = graph_large c.args.o in
    let r = c.record-record.ensures in
    (rw (rw (r.0, r.1) at c.kind.ensures, mapped_op R c.requires.s_bound.1 c.requires.mapped f.0 f.1 (omega arith) _ _ (rw (r.0, r.1) at c.digest.ensures) (rw (r.0, r.1) at c.member.ensures)) at c.append.ensures, rw f.0 at f.1)
