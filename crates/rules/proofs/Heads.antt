-- Every operation is a head or an ancestor of one; equal heads and no clash make equal graphs.
-- Assumes nothing.
use Prim.Native.Nat.{ℕ}
use native.Mathlib.Decide.{ℕ_discrete}
use mathlib.Core.Path.{◌≡◌, refl, sym, ◌∙◌, subst}
use mathlib.Core.Logic.{◌⊎◌, inl, inr, ◌↔◌}
use mathlib.Core.List.Memᴰ
use mathlib.Core.List.{List, List-discrete}
use Rattle.rules.specs.Graph.{Op, Held, Child, Head, Ancestor, near, far}
use Rattle.rules.specs.Lists.{◌∈◌, Alike, SetOf}
use Rattle.rules.specs.Merge.{Differ, kinds, members, sets, Clash}
use Rattle.rules.proofs.Formed.{Formed, closed, by_children}
use Rattle.rules.proofs.Lists.{set_unique, set_same, alike_sym, some?, ◌∈?◌}
use Rattle.rules.proofs.Same.{head_same}

unfoldable pub below : {G : List Op} {a b d : ℕ} → Child G a b → Ancestor G b d → Ancestor G a d
below k (near c) = far c (near k)
below k (far c r) = far c (below k r)

-- a head at or after d
pub record UnderHead (G : List Op) (d : ℕ) : Type 0 where
  pub top : ℕ
  pub head : Head G top
  pub reach : (d ≡ top) ⊎ Ancestor G d top

pub children? : (G : List Op) (d : ℕ) → ((c : ℕ) × Child G d c) ⊎ ((c : ℕ) → ¬ Child G d c)
children? G d = go (some? (λ o. d ∈ o.preds) G (λ o m. d ∈? o.preds))
  where
    go : ((o : Op) × (o ∈ G) × (d ∈ o.preds)) ⊎ ((o : Op) → o ∈ G → ¬ (d ∈ o.preds)) → ((c : ℕ) × Child G d c) ⊎ ((c : ℕ) → ¬ Child G d c)
    go (inl r) = inl (r.0.digest, record { op = r.0; stands = r.1; named = refl; lists = r.2 })
    go (inr f) = inr (λ c k. f k.op k.stands k.lists)

pub under_head : {G : List Op} → Formed G → {d : ℕ} → Held G d → UnderHead G d
under_head {G} F h = by_children F (UnderHead G) step h
  where
    step : (o : Op) → o ∈ G → ((c : ℕ) → Child G o.digest c → UnderHead G c) → UnderHead G o.digest
    step o m f = go (children? G o.digest)
      where
        join : {c t : ℕ} → Child G o.digest c → (c ≡ t) ⊎ Ancestor G c t → Ancestor G o.digest t
        join k (inl e) = subst (λ t. Ancestor G o.digest t) e (near k)
        join k (inr r) = below k r

        go : ((c : ℕ) × Child G o.digest c) ⊎ ((c : ℕ) → ¬ Child G o.digest c) → UnderHead G o.digest
        go (inl r) = let u = f r.0 r.1 in record { top = u.top; head = u.head; reach = inr (join r.1 u.reach) }
        go (inr n) = record { top = o.digest; head = record { held = record { op = o; stands = m; named = refl }; childless = n }; reach = inl refl }

-- an operation by its parts
pub op_same : (o p : Op) → o.digest ≡ p.digest → o.kind ≡ p.kind → o.member ≡ p.member → o.preds ≡ p.preds → o ≡ p
op_same o p d k m l = λ i. record { digest = d i; kind = k i; member = m i; preds = l i }

-- where none clash, a shared digest names one operation
pub one_across : {G H : List Op} → ¬ Clash G H → (o p : Op) → o ∈ G → p ∈ H → o.digest ≡ p.digest → o ≡ p
one_across {G} {H} n o p m q e = go (ℕ_discrete o.kind p.kind) (ℕ_discrete o.member p.member) (List-discrete ℕ_discrete o.preds p.preds)
  where
    clash : Differ o p → o ≡ p
    clash d = absurd (n (record { one = o; other = p; here = m; there = q; named = e; differ = d }))

    go : Dec (o.kind ≡ p.kind) → Dec (o.member ≡ p.member) → Dec (o.preds ≡ p.preds) → o ≡ p
    go (no x) b c = clash (kinds x)
    go (yes a) (no x) c = clash (members x)
    go (yes a) (yes b) (no x) = clash (sets x)
    go (yes a) (yes b) (yes c) = op_same o p e a b c

pub clash_sym : {G H : List Op} → Clash G H → Clash H G
clash_sym c = record { one = c.other; other = c.one; here = c.there; there = c.here; named = sym c.named; differ = turn c.differ }
  where
    turn : {o p : Op} → Differ o p → Differ p o
    turn (kinds n) = kinds (λ e. n (sym e))
    turn (members n) = members (λ e. n (sym e))
    turn (sets n) = sets (λ e. n (sym e))

module _ {G H : List Op} (F' : Formed H) (n : ¬ Clash G H) where
  step_over : {a d : ℕ} → Child G a d → Held H d → Held H a
  step_over {a} c h = closed F' h.stands (subst (λ o. a ∈ o.preds) (one_across n c.op h.op c.stands h.stands (c.named ∙ sym h.named)) c.lists)

  walk_over : {a d : ℕ} → Ancestor G a d → Held H d → Held H a
  walk_over (near c) h = step_over c h
  walk_over (far c r) h = walk_over r (step_over c h)

pub ops_in : {G H : List Op} → Formed G → Formed H → ¬ Clash G H → ((d : ℕ) → Head G d → Head H d) → (o : Op) → o ∈ G → o ∈ H
ops_in {G} {H} F F' n e o m =
    let u = under_head F (record { op = o; stands = m; named = refl }) in
    let t : Held H u.top = (e u.top u.head).held in
    found (held u t u.reach)
  where
    held : (u : UnderHead G o.digest) → Held H u.top → (o.digest ≡ u.top) ⊎ Ancestor G o.digest u.top → Held H o.digest
    held u t (inl p) = subst (λ d. Held H d) (sym p) t
    held u t (inr a) = walk_over F' n a t

    found : Held H o.digest → o ∈ H
    found h = Memᴰ.cast (one_across n o h.op m h.stands (sym h.named)) h.stands

-- the same heads, the same operations: the heads decide where nothing clashes
pub heads_decide : {G H : List Op} → Formed G → Formed H → ¬ Clash G H → ((d : ℕ) → Head G d → Head H d) → ((d : ℕ) → Head H d → Head G d) → Alike G H
heads_decide F F' n e e' = record { into = ops_in F F' n e; back = ops_in F' F (λ c. n (clash_sym c)) e' }

-- so the head lists are equal exactly when the operations are the same
pub heads_tell : {G H : List Op} {hs ks : List ℕ} → Formed G → Formed H → ¬ Clash G H → SetOf (Head G) hs → SetOf (Head H) ks → (hs ≡ ks) ↔ Alike G H
heads_tell {G} {H} {hs} {ks} F F' n a b = ((λ e. heads_decide F F' n (λ d h. b.into d (subst (λ l. d ∈ l) e (a.back d h))) (λ d h. a.into d (subst (λ l. d ∈ l) (sym e) (b.back d h)))), (λ e. set_unique a (set_same (λ d. (head_same (alike_sym e), head_same e)) b)))
