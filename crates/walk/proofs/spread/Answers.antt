use Prim.Native.Nat.{ℕ, suc, ◌-◌, ◌<◌}
use native.Mathlib.Omega.{arith}
use mathlib.Core.Path.{◌≡◌}
use mathlib.Core.List.{List}
use Rattle.rules.proofs.Answers.{says_yes, says_no}
use Rattle.walk.specs.Marks.{Painted}
use Rattle.walk.specs.Passes.{Reached}
use Rattle.walk.specs.declared.Pick.{Pick}
use Rattle.walk.proofs.Painting.{graph_ready}
use Rattle.walk.proofs.Passes.{spread_start, spread_more, spread_skip}
use Rattle.walk.proofs.spread.Goals as goal
use Rattle.walk.proofs.spread.Goals.{else-marks-i-eq1-via-then-marks-i-eq1+else-takes, else-marks-i-eq1-via-else-marks-i-eq1}

-- the records from i on are those past i - 1
done_past : {p : Pick} {s m m' : List ℕ} (i : ℕ) → 0 < i → Painted (Reached p s m i) 1 m m' → Painted (Reached p s m (suc (i - 1))) 1 m m'
done_past i h w = let e : suc (i - 1) ≡ i = omega arith in rw e w

pub loop-i-init : goal.loop-i-init
loop-i-init c = rw c.count-i.ensures.0 (spread_start (graph_ready c.args.graph c.requires.room))

pub loop-i-preserved-then-takes : goal.loop-i-preserved-then-takes
loop-i-preserved-then-takes c = spread_more (graph_ready c.args.graph c.requires.room) (omega arith) (done_past c.loop-i.i (omega arith) c.loop-i.invariant) c.if-marks-i-eq1.true (says_yes _ c.takes.ensures c.if-takes.true) c.mark_listed.ensures

pub loop-i-preserved : goal.loop-i-preserved
loop-i-preserved c =
    spread_skip (graph_ready c.args.graph c.requires.room)
    (λ e. elim c.else-marks-i-eq1.branch [ else-marks-i-eq1-via-then-marks-i-eq1+else-takes w ↦ says_no _ w.takes.ensures w.if-takes.false | else-marks-i-eq1-via-else-marks-i-eq1 w ↦ absurd (w.if-marks-i-eq1.false e) ])
    (done_past c.loop-i.i (omega arith) c.loop-i.invariant)
