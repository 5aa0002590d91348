-- `admission::list_passed` meets its contract.
use native.Mathlib.Omega.{arith}
use mathlib.Core.Path.{◌≡◌, refl}
use Rattle.rules.specs.Numbers.{kind_code}
use Rattle.rules.proofs.Answers.{listed_none}
use Rattle.order.proofs.Sorting.{digests_front}
use Rattle.walk.proofs.Painting.{graph_large}
use Rattle.admission.proofs.Passing.{made_listed}
use Rattle.admission.proofs.list_passed.Goals as goal

pub returns-then-ne : goal.returns-then-ne
returns-then-ne c =
    let n : ¬ (kind_code c.args.kind ≡ 2) = grind (arith, c.if-ne.ensures) in
    (listed_none (λ x m. n m.update), record { marks = λ e. absurd (n e); chainable = λ e. absurd (n e); count = 0; order = λ e. absurd (n e); other = λ x. (refl, refl, refl) }, refl)

pub returns : goal.returns
returns c =
    let k = rw (digests_front c.args.graph.bytes.now c.args.work.now.places c.args.slots (omega arith)) at c.mark_passed.ensures in
    let o = c.write_set.ensures in
    let e : kind_code c.args.kind ≡ 2 = grind (arith, c.if-ne.ensures) in
    (made_listed (graph_large c.args.graph) _ (kind_code c.args.kind) o e k.0.tells, record { marks = λ x. k.0; chainable = λ x. k.1; count = o.count; order = λ x. o.sorted; other = λ n. absurd (n e) }, refl)
