use Prim.Native.Nat.{◌/◌, ◌<◌}
use native.Mathlib.Omega.{arith}
use mathlib.Core.Path.{◌≡◌}
use mathlib.Core.List.{[]}
use lib.ListN.{length}
use Rattle.std.proofs.lemmas.Bool.Decides.{not_from_Decides}
use Rattle.rules.proofs.Bytes.{fit_bytes}
use Rattle.digest.proofs.Chunks.{cut_digest, before_decides}
use Rattle.store.proofs.Tests.{looked_none, looked_at}
use Rattle.walk.proofs.Held.{missing_none, wanted_more, missing_held, wanted_same, missing_again, missing_more, held_told, wanted_none}
use Rattle.walk.proofs.Painting.{graph_ready}
use Rattle.walk.proofs.mark_held.Goals as goal
use Rattle.walk.proofs.mark_held.Goals.{in-Some, in_default+then-not-contains, in_default+else-not-contains}

pub loop-k-init : goal.loop-k-init
loop-k-init c = (omega arith, wanted_none _ _ _, missing_none _ _)

pub loop-k-preserved : goal.loop-k-preserved
loop-k-preserved c =
    let R = graph_ready c.args.graph c.requires.room in
    let l = c.args.list.now in
    let v = c.loop-k.invariant in
    let cut = c.as_chunks.ensures in
    let h : c.loop-k.k < length l / 32 = omega arith in
    let f = rw (cut_digest l cut.front cut.front_len c.loop-k.k [] h) at c.place_of.ensures in
    let before = before_decides l cut.front cut.front_len [] c.loop-k.k h (fit_bytes c.type_inv.list) in
    elim c.match-place_of.branch [
      | in-Some w ↦
          let x = looked_at _ _ _ _ w.in-Some.i f w.in-Some.is in
          rw (w.marks-is, w.missing-is) (omega arith, wanted_more R l c.loop-k.k _ x.0 x.1 (omega (arith, x.0, v.1.size, c.fill.ensures.size)) v.1, missing_held R l c.loop-k.k _ x.0 x.1 v.2)
      | in_default+then-not-contains w ↦
          let n = looked_none _ _ _ _ f w.in_default.is in
          rw (w.marks-is, w.missing-is) (omega arith, wanted_same R l c.loop-k.k n v.1, missing_more R l c.loop-k.k n (not_from_Decides _ (before _ w.contains.ensures.cases) w.if-not-contains.true) v.2)
      | in_default+else-not-contains w ↦
          let n = looked_none _ _ _ _ f w.in_default.is in
          rw (w.marks-is, w.missing-is) (omega arith, wanted_same R l c.loop-k.k n v.1, missing_again R l c.loop-k.k n ((before _ w.contains.ensures.cases).0 w.if-not-contains.false) v.2)
    ]

pub returns : goal.returns
returns c = let e : c.loop-k.k ≡ length c.args.list.now / 32 = omega arith in (held_told (rw c.count.ensures.0 at c.fill.ensures) (rw e at c.loop-k.invariant.1), rw e at c.loop-k.invariant.2)
