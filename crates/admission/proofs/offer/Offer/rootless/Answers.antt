-- `Offer::rootless` meets its contract.
use native.Mathlib.Omega.{arith}
use mathlib.Core.Path.{◌≡◌}
use lib.ListN.{length}
use Rattle.rules.specs.Numbers.{kind_code}
use Rattle.rules.proofs.Answers.{says_equal, says_same}
use Rattle.admission.proofs.Offering.{no_bytes, no_digests}
use Rattle.admission.proofs.offer.Offer.rootless.Goals as goal

pub returns-then-ne : goal.returns-then-ne
returns-then-ne c =
    let o = c.args.self in
    let l = o.predecessors.now in
    let n : ¬ (kind_code o.kind ≡ 0) = grind (arith, c.if-ne.ensures) in
    rw c.is_empty.ensures (says_same _ (λ e. (no_bytes l e, n)) (λ x. no_digests l o.shaped.0.list x.0) (says_equal (length l) 0))
