-- `merging::same_op` meets its contract.
use native.Mathlib.Omega.{arith}
use mathlib.Core.Path.{◌≡◌, sym, ◌∙◌}
use mathlib.Core.Bool.{false, not}
use denote.Enum.Bare.{sameb}
use Rattle.rules.specs.Numbers.{kind_code}
use Rattle.rules.specs.contracts.Kind.{the_type}
use Rattle.rules.specs.declared.Kind.{Kind}
use Rattle.rules.proofs.Answers.{says_same, says_yes}
use Rattle.merging.proofs.Comparing.{record_same, same_preds, same_slots}
use Rattle.merging.proofs.same_op.Goals as goal

-- kinds that aren't different have one number
same_kind : (k j : Kind) → false ≡ not (sameb the_type k j) → kind_code k ≡ kind_code j
same_kind k j e = grind arith

pub returns-then-c-preds : goal.returns-then-c-preds
returns-then-c-preds c =
    let x = c.record-a.ensures in
    let y = c.record-b.ensures in
    let m = rw (x.0, x.1) at c.preds-c.ensures.0 in
    let n = rw (y.0, y.1) at c.preds.ensures.0 in
    let a = c.args in λ e. c.if-c-preds.true (m ∙ same_preds a.s.bytes.now a.p a.o.bytes.now a.i e ∙ sym n)

pub returns-then-equal : goal.returns-then-equal
returns-then-equal c =
    let a = c.args in
    let x = c.record-a.ensures in
    let y = c.record-b.ensures in
    let m = rw (x.0, x.1) at c.preds-c.ensures.0 in
    let n = rw (y.0, y.1) at c.preds.ensures.0 in
    let d = says_yes c.equal.result c.equal.ensures c.if-equal.true in
    let k = sym c.kind.ensures ∙ same_kind c.kind.result c.kind-2.result c.if-ne.ensures ∙ c.kind-2.ensures in
    says_same c.same_slots.result
    (λ f. record_same a.s.bytes.now a.p a.o.bytes.now a.i c.requires.p_bound.2 k (sym (rw (x.0, x.1) at c.member.ensures) ∙ d ∙ rw (y.0, y.1) at c.member-2.ensures) (sym m ∙ c.if-c-preds.false ∙ n) (rw m at f))
    (λ e. rw m (same_slots a.s.bytes.now a.p a.o.bytes.now a.i e)) c.same_slots.ensures
