-- `store::Record::rising_ok` meets its contract.
use Prim.Native.Nat.{ℕ, ◌-◌, ◌<◌}
use mathlib.Core.Path.{refl}
use borrow.Author.Tests.{tests}
use Rattle.std.proofs.Common.{rules}
use Rattle.std.proofs.lemmas.Iterator.{cases_from_all, YieldsList-from_range}
use Rattle.rules.proofs.Answers.{says_yes, says_no}
use Rattle.digest.proofs.Orders.{says_lt}
use Rattle.store.specs.Layout.{digest_at, pred_at}
use Rattle.store.proofs.Tests.{says_range, says_rising}
use Rattle.store.proofs.record.Record.rising_ok.Goals as goal

pub returns : goal.returns
returns c =
    let s = c.args.self.bytes.now in
    let f = λ (k : ℕ). digest_at s (pred_at s c.args.self.place k) in
    let P = λ (k : ℕ). f (k - 1) < f k in
    let n = c.preds.result in
    says_rising f c.all.result c.preds.ensures.0 (says_range P 1 n c.all.result (cases_from_all _ _ _ P (λ k. ¬ P k) c.all.ensures.ran (YieldsList-from_range 1 n _ refl refl) (λ x q k. search (rules, tests, says_lt, says_yes)) (λ x q k. search (rules, tests, says_lt, says_no))))
