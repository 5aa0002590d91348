-- `ask::one_mark` meets its contract.
use mathlib.Core.Path.{◌≡◌}
use Rattle.std.proofs.Common.{rules}
use Rattle.ask.proofs.Marks.{set_marks, count_says}
use Rattle.ask.proofs.one_mark.Goals as goal

pub returns : goal.returns
returns c = let e : c.count.result ≡ set_marks c.args.marks.now = search rules in rw e (count_says c.args.marks.now)
