use native.Mathlib.Omega.{arith}
use Prim.Native.Nat.{ℕ, ◌<◌}
use mathlib.Core.Path.{◌≡◌, refl, sym}
use mathlib.Core.Bool.{Bool, true, false, not, true≢false}
use Rattle.std.specs.Prelude.{Option, Some, None}
use Rattle.std.specs.Option.{is_some}
use Rattle.store.specs.Layout.{count_of}
use Rattle.rules.proofs.Answers.{says_yes, says_no}
use Rattle.rules.specs.Answers.{Says}
use Rattle.store.proofs.Ops.{sound_laid}
use Rattle.walk.proofs.Painting.{graph_ready}
use Rattle.merging.proofs.Taking.{taken_none, next_has, next_room, next_lacks}
use Rattle.merging.proofs.take_over.Goals as goal
use Rattle.merging.proofs.take_over.Goals.{then-is_none, else-is_none}

-- what `is_none` answers
says_none : (v : Option ℕ) (b : Bool) → is_some v ≡ not b → Says b (v ≡ None)
says_none None true e = refl
says_none None false e = absurd (true≢false (sym e))
says_none (Some x) true e = absurd (true≢false e)
says_none (Some x) false e = λ z. absurd cc

pub loop-i-init : goal.loop-i-init
loop-i-init c = taken_none _ _ c.requires.sound

pub count-n-requires : goal.count-n-requires
count-n-requires c = omega (arith, (sound_laid c.loop-i.invariant.sound).frame.size)

pub append_from-requires-clause-laid : goal.append_from-requires-clause-laid
append_from-requires-clause-laid c = sound_laid c.loop-i.invariant.sound

pub append_from-requires-clause-s_bound : goal.append_from-requires-clause-s_bound
append_from-requires-clause-s_bound c =
    let T = c.loop-i.invariant in
    let l : c.loop-i.i < count_of c.args.o.bytes.now = omega (arith, c.count-i-end.ensures.0) in
    (next_room c.requires.sound (graph_ready c.args.o c.requires.room) c.requires.all_placed l T (says_yes _ (says_none _ _ c.is_none.ensures) c.if-is_none.true) c.requires.not_overfull, l, omega (arith, T.size, l, c.requires.room))

pub loop-i-preserved : goal.loop-i-preserved
loop-i-preserved c =
    let O = graph_ready c.args.o c.requires.room in
    let l : c.loop-i.i < count_of c.args.o.bytes.now = omega (arith, c.count-i-end.ensures.0) in
    let T = c.loop-i.invariant in
    elim c.if-is_none.branch [
      | then-is_none w ↦ rw (w.s-is, w.places-is, w.count-n.ensures.0) (next_lacks c.requires.sound O c.requires.all_placed l T (says_yes _ (says_none _ _ c.is_none.ensures) w.if-is_none.true) c.requires.not_overfull w.append_from.ensures.0)
      | else-is_none w ↦ rw (w.s-is, w.places-is) (next_has c.requires.sound O c.requires.all_placed l T (says_no _ (says_none _ _ c.is_none.ensures) w.if-is_none.false))
    ]
