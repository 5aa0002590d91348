-- `Offer::new` meets its contract.
use Prim.Native.Nat.{ℕ, ◌%◌}
use native.Mathlib.Omega.{arith}
use mathlib.Core.Path.{◌≡◌, refl}
use mathlib.Core.List.{List}
use lib.ListN.{length}
use Rattle.rules.specs.Bytes.{digest_of}
use Rattle.rules.specs.Numbers.{kind_code}
use Rattle.rules.specs.Table.{OneDigest, Shaped}
use Rattle.rules.specs.declared.Kind.{Kind}
use Rattle.rules.proofs.Answers.{says_yes}
use Rattle.rules.proofs.Bytes.{fit_bytes}
use Rattle.rules.proofs.First.{first_done, first_here, first_next}
use Rattle.refusal.proofs.Refusals.{tested_refused, tested_next, tested_on, first_wider}
use Rattle.admission.proofs.offer.Offer.new.Goals as goal
use Rattle.admission.proofs.offer.Offer.new.Goals.{else-ne-via-then-ne+else-not-is_zero, else-ne-via-else-ne}

pub returns-in_err-kind : goal.returns-in_err-kind
returns-in_err-kind c = let h = c.in_err-kind.ensures in tested_on _ c.from_residual.ensures.1 (rw h.0 (first_here _ _ _ (λ S. omega (arith, S.kind, h.1))))

pub returns-in_err-digest : goal.returns-in_err-digest
returns-in_err-digest c = tested_on _ c.from_residual-in_err-digest.ensures.1 (first_wider _ _ (λ n S. n S.digest) _ c.in_err-digest.ensures.number)

pub returns-in_err-member : goal.returns-in_err-member
returns-in_err-member c = tested_on _ c.from_residual-in_err-member.ensures.1 (first_wider _ _ (λ n S. n S.member) _ c.in_err-member.ensures.number)

pub returns-then-predecessors-ne0 : goal.returns-then-predecessors-ne0
returns-then-predecessors-ne0 c = tested_refused (first_here _ _ _ (λ S. c.if-predecessors-ne0.true S.list))

pub returns-then-not-is_zero : goal.returns-then-not-is_zero
returns-then-not-is_zero c =
    let n = rw c.in_ok-member.ensures.passed.0 at c.if-not-is_zero.ensures in
    tested_refused (first_here _ _ _ (λ S. n (S.zero (grind (arith, c.in_ok-kind.ensures, c.if-ne.ensures)))))

-- parts that the tests let through have the right shape
shaped : {d m l x y : List ℕ} (k : Kind) → (x ≡ d) × OneDigest d → (y ≡ m) × OneDigest m → length l % 32 ≡ 0 → (¬ (kind_code k ≡ 0) → digest_of y ≡ 0) → Shaped x (kind_code k) y l
shaped k a b l z = record { digest = rw a.0 a.1; member = rw b.0 b.1; list = l; kind = grind arith; zero = z }

pub returns-then-predecessors : goal.returns-then-predecessors
returns-then-predecessors c =
    let d = c.in_ok-digest.ensures.passed in
    let m = c.in_ok-member.ensures.passed in
    let S = shaped c.in_ok-kind.kind d m c.if-predecessors-ne0.false (elim c.else-ne.branch [ else-ne-via-then-ne+else-not-is_zero w ↦ λ n. says_yes _ w.is_zero.ensures w.if-not-is_zero.false | else-ne-via-else-ne w ↦ λ n. absurd (n (grind (arith, w.if-ne.ensures))) ]) in
    tested_next (λ n. n (rw (d.0, c.in_ok-kind.ensures, m.0) at S)) (tested_refused (first_here _ _ _ (omega (arith, c.if-predecessors.true))))

pub invariant_of-result : goal.invariant_of-result
invariant_of-result c =
    let d = c.in_ok-digest.ensures.passed in
    let m = c.in_ok-member.ensures.passed in
    let S = shaped c.in_ok-kind.kind d m c.if-predecessors-ne0.false (elim c.else-ne.branch [ else-ne-via-then-ne+else-not-is_zero w ↦ λ n. says_yes _ w.is_zero.ensures w.if-not-is_zero.false | else-ne-via-else-ne w ↦ λ n. absurd (n (grind (arith, w.if-ne.ensures))) ]) in
    record { shaped = (S, omega (arith, c.if-predecessors.false)); bytes = (rw d.0 (fit_bytes c.type_inv.digest), rw m.0 (fit_bytes c.type_inv.member)) }

pub returns : goal.returns
returns c =
    let d = c.in_ok-digest.ensures.passed in
    let m = c.in_ok-member.ensures.passed in
    let S = shaped c.in_ok-kind.kind d m c.if-predecessors-ne0.false (elim c.else-ne.branch [ else-ne-via-then-ne+else-not-is_zero w ↦ λ n. says_yes _ w.is_zero.ensures w.if-not-is_zero.false | else-ne-via-else-ne w ↦ λ n. absurd (n (grind (arith, w.if-ne.ensures))) ]) in
    record {
      number = first_next _ _ _ _ (λ n. n (rw (d.0, c.in_ok-kind.ensures, m.0) at S)) (first_next _ _ _ _ (λ n. omega (arith, n, c.if-predecessors.false)) first_done);
      passed = record { digest = d.0; kind = c.in_ok-kind.ensures; member = m.0; predecessors = refl };
    }
