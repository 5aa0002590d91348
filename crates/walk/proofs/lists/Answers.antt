-- `walk::lists` meets its contract.
use mathlib.Core.Path.{◌≡◌}
use Rattle.std.proofs.Common.{rules, tests}
use Rattle.rules.proofs.Answers.{says_same}
use Rattle.rules.proofs.Ranges.{says_any}
use Rattle.store.specs.Layout.{pred_at}
use Rattle.walk.proofs.lists.Goals as goal

pub returns : goal.returns
returns c =
    let s = c.args.graph.bytes.now in
    let r = c.record-record.ensures in
    let n = rw (r.0, r.1) at c.preds.ensures.0 in
    says_same c.any.result
    (λ x. record { nth = x.0; below = rw n at x.1; there = x.2 })
    (λ x. (x.nth, rw n x.below, x.there))
    (says_any (λ k. pred_at s c.args.i k ≡ c.args.p) c.preds.result _ _ _ c.any.ensures.ran (λ x q k. search (rules, tests)) (λ x q k. search (rules, tests)))
