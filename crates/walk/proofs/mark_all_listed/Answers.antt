use Rattle.rules.proofs.Answers.{says_yes, says_no}
use Rattle.walk.proofs.Passes.{listed_more, listed_skip}
use Rattle.walk.proofs.mark_all_listed.Goals as goal
use Rattle.walk.proofs.mark_all_listed.Goals.{then-takes, else-takes}

pub loop-i-preserved : goal.loop-i-preserved
loop-i-preserved c =
    elim c.if-takes.branch [
      | then-takes w ↦ rw w.marks-is (listed_more (says_yes _ c.takes.ensures w.if-takes.true) c.loop-i.invariant w.mark_listed.ensures)
      | else-takes w ↦ rw w.marks-is (listed_skip (says_no _ c.takes.ensures w.if-takes.false) c.loop-i.invariant)
    ]
