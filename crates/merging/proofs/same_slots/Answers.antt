-- `merging::same_slots` meets its contract.
use mathlib.Core.Path.{◌≡◌}
use Rattle.std.proofs.Common.{rules, tests}
use Rattle.rules.proofs.Answers.{says_yes, says_no}
use Rattle.rules.proofs.Ranges.{says_all}
use Rattle.store.specs.Layout.{digest_at, pred_at}
use Rattle.merging.proofs.same_slots.Goals as goal

pub returns : goal.returns
returns c =
    let s = c.args.s.bytes.now in
    let o = c.args.o.bytes.now in
    says_all (λ k. digest_at s (pred_at s c.args.p k) ≡ digest_at o (pred_at o c.args.i k)) c.args.c _ _ _ c.all.ensures.ran (λ x q k. search (rules, tests, says_yes, says_no)) (λ x q k. search (rules, tests, says_yes, says_no))
