-- `walk::add_before` meets its contract.
use native.Mathlib.Omega.{arith}
use Rattle.walk.proofs.Held.{before_told, add_told}
use Rattle.walk.proofs.Painting.{graph_ready, painted_one}
use Rattle.walk.proofs.add_before.Goals as goal

pub returns : goal.returns
returns c =
    let R = graph_ready c.args.graph c.requires.room in
    let t = before_told R c.args.p c.requires.p_bound (rw c.count.ensures.0 at c.fill.ensures) (painted_one c.fill.new.marks c.args.p 1 (omega (arith, c.fill.ensures.size))) c.past.ensures in
    (add_told _ R t.tells c.any_add.result c.any_add.ensures, t)
