-- Walking back from a list through operations that pass: decidable. The past of a head list, and the layer test inside it.
-- Assumes nothing.
use Prim.Native.Nat.{ℕ}
use native.Mathlib.Decide.{ℕ_discrete}
use mathlib.Core.Path.{◌≡◌, refl, sym, subst}
use mathlib.Core.Logic.{◌⊎◌, inl, inr}
use mathlib.Core.List.{List}
use Rattle.rules.specs.Batches.{Boundary}
use Rattle.rules.specs.Graph.{Op, Held, Child, Ancestor, near, far, InPast, itself, before, Depth}
use Rattle.rules.specs.Layers.{Layer}
use Rattle.rules.specs.Lists.{◌∈◌}
use Rattle.rules.specs.Updates.{Met, from_list, behind}
use Rattle.rules.proofs.Formed.{Formed, closed, by_children}
use Rattle.rules.proofs.Heads.{below}
use Rattle.rules.proofs.Layers.{layer_through, through_layer}
use Rattle.rules.proofs.Lists.{some?, ◌∈?◌}

unfoldable pub held? : (G : List Op) (d : ℕ) → Dec (Held G d)
held? G d = go (some? (λ o. o.digest ≡ d) G (λ o m. ℕ_discrete o.digest d))
  where
    go : ((o : Op) × (o ∈ G) × (o.digest ≡ d)) ⊎ ((o : Op) → o ∈ G → ¬ (o.digest ≡ d)) → Dec (Held G d)
    go (inl r) = yes (record { op = r.0; stands = r.1; named = r.2 })
    go (inr f) = no (λ h. f h.op h.stands h.named)

-- reached from the list by predecessor steps from operations that pass
pub data Reach (G : List Op) (pass : Op → Type 0) (from : List ℕ) : ℕ → Type 0 where
  starts : {d : ℕ} → d ∈ from → Reach G pass from d
  steps : {d : ℕ} (o : Op) → o ∈ G → pass o → d ∈ o.preds → Reach G pass from o.digest → Reach G pass from d

module _ {G : List Op} (F : Formed G) (pass : Op → Type 0) (pass? : (o : Op) → Dec (pass o)) (from : List ℕ) where
  -- a child that passes and is reached
  abbrev pub Behind : ℕ → Op → Type 0
  Behind d p = (d ∈ p.preds) × pass p × Reach G pass from p.digest

  pub last_step : {d : ℕ} → ¬ (d ∈ from) → Reach G pass from d → (p : Op) × (p ∈ G) × Behind d p
  last_step n (starts m) = absurd (n m)
  last_step n (steps o m k l r) = (o, m, (l, k, r))

  unfoldable pub reach_step : (o : Op) → o ∈ G → ((c : ℕ) → Child G o.digest c → Dec (Reach G pass from c)) → Dec (Reach G pass from o.digest)
  reach_step o m f = go (o.digest ∈? from)
    where
      behind? : (p : Op) → p ∈ G → Dec (o.digest ∈ p.preds) → Dec (pass p) → Dec (Behind o.digest p)
      behind? p n (no x) k = no (λ q. x q.0)
      behind? p n (yes l) (no x) = no (λ q. x q.1)
      behind? p n (yes l) (yes k) = both (f p.digest (record { op = p; stands = n; named = refl; lists = l }))
        where
          both : Dec (Reach G pass from p.digest) → Dec (Behind o.digest p)
          both (yes r) = yes (l, k, r)
          both (no x) = no (λ q. x q.2)

      sum : ¬ (o.digest ∈ from) → ((p : Op) × (p ∈ G) × Behind o.digest p) ⊎ ((p : Op) → p ∈ G → ¬ Behind o.digest p) → Dec (Reach G pass from o.digest)
      sum n (inl r) = yes (steps r.0 r.1 r.2.1 r.2.0 r.2.2)
      sum n (inr x) = no (λ r. let s = last_step n r in x s.0 s.1 s.2)

      go : Dec (o.digest ∈ from) → Dec (Reach G pass from o.digest)
      go (yes i) = yes (starts i)
      go (no n) = sum n (some? (Behind o.digest) G (λ p q. behind? p q (o.digest ∈? p.preds) (pass? p)))

  unfoldable pub reach? : (d : ℕ) → Dec (Reach G pass from d)
  reach? d = go (held? G d) (d ∈? from)
    where
      go : Dec (Held G d) → Dec (d ∈ from) → Dec (Reach G pass from d)
      go (yes h) i = by_children F (λ d. Dec (Reach G pass from d)) reach_step h
      go (no n) (yes i) = yes (starts i)
      go (no n) (no i) = no (λ r. let s = last_step i r in n (closed F s.1 s.2.0))

-- the past goes on to what a member lists
unfoldable pub past_under : {G : List Op} {hs : List ℕ} (d c : ℕ) → InPast G hs c → Child G d c → InPast G hs d
past_under d c (itself m) k = before m (near k)
past_under d c (before m a) k = before m (below k a)

-- every operation passes
abbrev pub Any : Op → Type 0
Any o = Unit {0}

unfoldable pub reach_past : {G : List Op} {hs : List ℕ} {d : ℕ} → Reach G Any hs d → InPast G hs d
reach_past (starts m) = itself m
reach_past {d = d} (steps o m k l r) = past_under d o.digest (reach_past r) (record { op = o; stands = m; named = refl; lists = l })

past_step : {G : List Op} {hs : List ℕ} {a d : ℕ} → Child G a d → Reach G Any hs d → Reach G Any hs a
past_step {G} {hs} c r = steps c.op c.stands tt c.lists (subst (λ x. Reach G Any hs x) (sym c.named) r)

past_walk : {G : List Op} {hs : List ℕ} {a d : ℕ} → Ancestor G a d → Reach G Any hs d → Reach G Any hs a
past_walk (near c) r = past_step c r
past_walk (far c s) r = past_walk s (past_step c r)

pub past_reach : {G : List Op} {hs : List ℕ} {d : ℕ} → InPast G hs d → Reach G Any hs d
past_reach (itself m) = starts m
past_reach (before m a) = past_walk a (starts m)

-- no update passes
abbrev pub Other : Op → Type 0
Other o = ¬ (o.kind ≡ 2)

unfoldable pub reach_met : {G : List Op} {ls : List ℕ} {d : ℕ} → Reach G Other ls d → Met G ls d
reach_met (starts m) = from_list m
reach_met (steps o m k l r) = behind (reach_met r) (record { op = o; stands = m; named = refl }) k l

pub met_reach : {G : List Op} {ls : List ℕ} {d : ℕ} → Met G ls d → Reach G Other ls d
met_reach (from_list m) = starts m
met_reach {G} {ls} (behind r h n m) = steps h.op h.stands n m (subst (Reach G Other ls) (sym h.named) (met_reach r))

-- what an ancestor is listed by
unfoldable pub first_step : {G : List Op} {a d : ℕ} → Ancestor G a d → (c : ℕ) × Child G a c
first_step {d = d} (near k) = (d, k)
first_step (far k r) = first_step r

module _ {G : List Op} (F : Formed G) (hs : List ℕ) where
  unfoldable pub past_held : ((h : ℕ) → h ∈ hs → Held G h) → (d : ℕ) → InPast G hs d → Held G d
  unfolding first_step
  past_held f d (itself m) = f d m
  past_held f d (before m a) = let r = first_step a in closed F r.1.stands r.1.lists

  unfoldable pub past? : (d : ℕ) → Dec (InPast G hs d)
  past? d = go (reach? F Any (λ o. yes tt) hs d)
    where
      go : Dec (Reach G Any hs d) → Dec (InPast G hs d)
      go (yes r) = yes (reach_past r)
      go (no n) = no (λ i. n (past_reach i))

  -- for heads that are held, the layer test tells the boundaries
  module _ (f : (h : ℕ) → h ∈ hs → Held G h) where
    pub layer_boundary : {x k : ℕ} → InPast G hs x → Depth G x k → Layer G (InPast G hs) x k → Boundary G hs x
    layer_boundary i r L = record { inside = i; through = layer_through F (InPast G hs) past? (past_held f) past_under r L }

    pub boundary_layer : {x k : ℕ} → Depth G x k → Boundary G hs x → Layer G (InPast G hs) x k
    boundary_layer r B = through_layer F (InPast G hs) past? (past_held f) past_under r B.through
