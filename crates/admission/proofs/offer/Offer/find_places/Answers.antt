-- `Offer::find_places` meets its contract.
use Prim.Native.Nat.{ℕ}
use native.Mathlib.Omega.{arith}
use mathlib.Core.List.{List}
use Rattle.std.specs.Prelude.{Option}
use Rattle.rules.proofs.Answers.{says_yes, says_no}
use Rattle.refusal.proofs.Refusals.{handed_on, some_on, none_on}
use Rattle.store.specs.Layout.{count_of}
use Rattle.store.specs.Slots.{Gathers}
use Rattle.walk.proofs.Painting.{graph_large}
use Rattle.admission.proofs.Offering.{fits_rootless, fits_lacking, fits_full, fits_done}
use Rattle.admission.proofs.offer.Offer.find_places.Goals as goal

abbrev gathers : List ℕ → List ℕ → List ℕ → List ℕ → Option ℕ → Type 0
gathers s l p q o = Gathers o s (count_of s) l p q

pub returns-then-rootless : goal.returns-then-rootless
returns-then-rootless c = fits_rootless (says_yes _ c.rootless.ensures c.if-rootless.true)

pub returns-in_err-slots : goal.returns-in_err-slots
returns-in_err-slots c =
    let n = none_on (gathers _ _ _ _) c.gather.result _ c.in_err-slots.ensures.value (rw c.count-n.ensures.0 at c.gather.ensures) in
    rw (handed_on c.from_residual.result c.from_residual.ensures.1, n.1) (fits_lacking (graph_large c.args.graph) (says_no _ c.rootless.ensures c.if-rootless.false) n.0)

pub returns-then-n : goal.returns-then-n
returns-then-n c =
    let g = some_on (gathers _ _ _ _) c.gather.result _ c.in_ok-slots.ensures.value (rw c.count-n.ensures.0 at c.gather.ensures) in
    fits_full (graph_large c.args.graph) (says_no _ c.rootless.ensures c.if-rootless.false) g (omega arith)

pub returns : goal.returns
returns c =
    let g = some_on (gathers _ _ _ _) c.gather.result _ c.in_ok-slots.ensures.value (rw c.count-n.ensures.0 at c.gather.ensures) in
    fits_done (graph_large c.args.graph) (says_no _ c.rootless.ensures c.if-rootless.false) g (omega arith)
