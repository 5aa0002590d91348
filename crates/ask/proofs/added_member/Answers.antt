-- `ask::added_member` meets its contract.
use native.Mathlib.Omega.{arith}
use mathlib.Core.Path.{◌≡◌, ◌∙◌}
use mathlib.Core.Bool.{false}
use denote.Enum.Bare.{sameb}
use Rattle.std.proofs.Common.{rules}
use Rattle.rules.specs.Numbers.{kind_code}
use Rattle.rules.specs.contracts.Kind.{the_type}
use Rattle.rules.specs.declared.Kind.{Kind}
use Rattle.rules.specs.declared.Kind.TheVariants.{Add}
use Rattle.refusal.proofs.Graphs.{unheld}
use Rattle.store.specs.Layout.{kind_at}
use Rattle.ask.proofs.Answers.{added_here, added_kind, added_member, parted_none, parted_refused, parted_some}
use Rattle.ask.proofs.added_member.Goals as goal
use Rattle.ask.proofs.added_member.Goals.{in_default-place_of-via-in-Some+else-eq, in_default-place_of-via-in_default-place_of}

-- a kind that isn't that of an add
other_kind : (k : Kind) → false ≡ sameb the_type k Add → ¬ (kind_code k ≡ 0)
other_kind k e z = grind arith

pub returns-in_default : goal.returns-in_default
returns-in_default c = parted_refused _ c.in_default.ensures.number

pub returns-in-Some : goal.returns-in-Some
returns-in-Some c =
    let t = c.in-Ok.ensures in
    let p = rw t.passed.1 at c.in-Some.ensures in
    let k : kind_at c.in-Ok.graph.bytes.now c.in-Some.i ≡ 0 = grind arith in
    parted_some t.number (search rules, rw (c.record.ensures.0, c.record.ensures.1, t.passed.0.bytes) at c.member.ensures) (added_here t.passed.0 p.0 p.1 k) (λ x a. added_member t.passed.0 p.0 p.1 a)

pub returns-in_default-place_of : goal.returns-in_default-place_of
returns-in_default-place_of c =
    let t = c.in-Ok.ensures in
    parted_none
    (λ f x a. elim c.in_default-place_of.branch [
      | in_default-place_of-via-in-Some+else-eq w ↦ other_kind w.kind.result w.if-eq.ensures (w.kind.ensures ∙ added_kind t.passed.0 w.in-Some.ensures.0 (rw t.passed.1 at w.in-Some.ensures.1) a)
      | in_default-place_of-via-in_default-place_of w ↦ unheld t.passed.0 (rw t.passed.1 at w.in_default-place_of.ensures) a.held
    ])
