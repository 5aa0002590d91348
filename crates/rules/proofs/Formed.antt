-- A well-formed graph: its operations by digest, and induction along predecessors and along children.
-- Assumes nothing.
use Prim.Native.Nat.{ℕ, zero, suc, ◌+◌, ◌≤◌, ◌<◌}
use native.Mathlib.Omega.{arith}
use mathlib.Core.Path.{◌≡◌, sym, ◌∙◌, ap, subst}
use mathlib.Core.List.{List, []}
use lib.ListN.{length, get_or}
use Rattle.rules.specs.Graph.{Op, Proper, Held, Child}
use Rattle.rules.specs.Lists.{◌∈◌}
use Rattle.rules.proofs.Lists.{at_in, in_at}

abbrev pub no_op : Op
no_op = record { digest = 0; kind = 0; member = 0; preds = [] }

abbrev pub op_at : List Op → ℕ → Op
op_at G i = get_or G i no_op

-- what admissions leave: digests distinct, predecessors held earlier, only adds without predecessors, operations proper
pub record Formed (G : List Op) : Type 0 where
  pub distinct : (i j : ℕ) → i < length G → j < length G → (op_at G i).digest ≡ (op_at G j).digest → i ≡ j
  pub earlier : (i p : ℕ) → i < length G → p ∈ (op_at G i).preds → (j : ℕ) × (j < i) × ((op_at G j).digest ≡ p)
  pub rooted : (i : ℕ) → i < length G → (op_at G i).preds ≡ [] → (op_at G i).kind ≡ 0
  pub proper : (i : ℕ) → i < length G → Proper (op_at G i)

module _ {G : List Op} (F : Formed G) where
  -- a digest has one operation
  pub one_op : {o p : Op} → o ∈ G → p ∈ G → o.digest ≡ p.digest → o ≡ p
  one_op {o} {p} m n e =
      let a = in_at no_op m in
      let b = in_at no_op n in
      let s : a.0 ≡ b.0 = F.distinct a.0 b.0 a.1 b.1 (ap (λ x. x.digest) a.2 ∙ e ∙ sym (ap (λ x. x.digest) b.2)) in
      sym a.2 ∙ ap (op_at G) s ∙ b.2

  -- what is listed is held
  unfoldable pub closed : {o : Op} {p : ℕ} → o ∈ G → p ∈ o.preds → Held G p
  closed {o} {p} m l =
      let a = in_at no_op m in
      let r = F.earlier a.0 p a.1 (subst (λ x. p ∈ x.preds) (sym a.2) l) in
      record { op = op_at G r.0; stands = at_in no_op G r.0 (omega arith); named = r.2 }

  -- a child stands later
  pub later : (i j : ℕ) → i < length G → j < length G → (op_at G i).digest ∈ (op_at G j).preds → i < j
  later i j hi hj l =
      let r = F.earlier j (op_at G i).digest hj l in
      let s : r.0 ≡ i = F.distinct r.0 i (omega arith) hi r.2 in
      omega arith

  module _ (P : ℕ → Type 0) where
    unfoldable pub down : ((o : Op) → o ∈ G → ((p : ℕ) → p ∈ o.preds → P p) → P o.digest) → (n i : ℕ) → i < n → i < length G → P (op_at G i).digest
    down step zero i h l = absurd (omega arith)
    down step (suc n) i h l =
        step (op_at G i) (at_in no_op G i l) (λ p m. let r = F.earlier i p l m in subst P r.2 (down step n r.0 (omega arith) (omega arith)))

    -- induction along predecessors
    unfoldable pub by_preds : ((o : Op) → o ∈ G → ((p : ℕ) → p ∈ o.preds → P p) → P o.digest) → {d : ℕ} → Held G d → P d
    by_preds step h =
        let a = in_at no_op h.stands in
        subst P (ap (λ x. x.digest) a.2 ∙ h.named) (down step (suc a.0) a.0 (omega arith) a.1)

    unfoldable pub up : ((o : Op) → o ∈ G → ((c : ℕ) → Child G o.digest c → P c) → P o.digest) → (n i : ℕ) → length G ≤ i + n → i < length G → P (op_at G i).digest
    up step zero i h l = absurd (omega arith)
    up step (suc n) i h l =
        step (op_at G i) (at_in no_op G i l) (λ c k.
        let a = in_at no_op k.stands in
        let s = later i a.0 l a.1 (subst (λ x. (op_at G i).digest ∈ x.preds) (sym a.2) k.lists) in
        subst P (ap (λ x. x.digest) a.2 ∙ k.named) (up step n a.0 (omega arith) a.1))

    -- induction along children
    unfoldable pub by_children : ((o : Op) → o ∈ G → ((c : ℕ) → Child G o.digest c → P c) → P o.digest) → {d : ℕ} → Held G d → P d
    by_children step h =
        let a = in_at no_op h.stands in
        subst P (ap (λ x. x.digest) a.2 ∙ h.named) (up step (length G) a.0 (omega arith) a.1)
