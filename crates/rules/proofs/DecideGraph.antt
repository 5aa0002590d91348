-- Deciders that compute of a well-formed graph: order, boundaries and batches, updates, waists, the filter.
-- Assumes nothing.
use Prim.Native.Nat.{ℕ, ◌<◌}
use native.Mathlib.Decide.{ℕ_discrete, dec_le, dec_lt}
use mathlib.Core.Path.{◌≡◌, refl, sym, ◌∙◌, ap, subst}
use mathlib.Core.Logic.{◌⊎◌, inl, inr}
use mathlib.Core.List.{List, [], ◌∷◌, ◌++◌}
use lib.ListN.{length, get_or}
use Rattle.rules.specs.Admission.{MadeChainable}
use Rattle.rules.specs.Batches.{Boundary, Sooner, Begins, at_first, at_boundary, past_boundary, Mark, Batches}
use Rattle.rules.specs.Filter.{Observed, unchecked, observed}
use Rattle.rules.specs.Graph.{Op, Held, Child, InPast, Depth, bottom, above}
use Rattle.rules.specs.Layers.{Layer}
use Rattle.rules.specs.Lists.{◌∈◌}
use Rattle.rules.specs.Question.{Question, listed, kind, Matches, Waist, FirstWaist, SameBatch}
use Rattle.rules.specs.Updates.{Met, Update, Nearest, Latest}
use Rattle.rules.proofs.Decide.{and?, or?, not?, implies?, via?, fields2?, fields3?, fields4?, fields5?, each?, any?, all<?, ordered?, cases3?, mark?, child?, head?, all_heads?}
use Rattle.rules.proofs.Depths.{depth_of, depth_unique}
use Rattle.rules.proofs.Formed.{Formed, one_op}
use Rattle.rules.proofs.Lists.{◌∈?◌}
use Rattle.rules.proofs.Past.{held?, reach?, Other, reach_met, met_reach, past_held, past?, layer_boundary, boundary_layer}

pub depth_held : {G : List Op} {d k : ℕ} → Depth G d k → Held G d
depth_held (bottom h e) = h
depth_held (above h m s f l g) = h

module _ {G : List Op} (F : Formed G) where
  unfoldable pub depth? : (d k : ℕ) → Dec (Depth G d k)
  depth? d k = go (held? G d)
    where
      go : Dec (Held G d) → Dec (Depth G d k)
      go (yes h) = via? (λ e. subst (Depth G d) e (depth_of F h).1) (λ r. depth_unique F (depth_of F h).1 r) (ℕ_discrete (depth_of F h).0 k)
      go (no n) = no (λ r. n (depth_held r))

  -- what holds of the depth, if there is one
  unfoldable pub each_depth? : (d : ℕ) (P : ℕ → Type 0) → ((j : ℕ) → Dec (P j)) → Dec ((j : ℕ) → Depth G d j → P j)
  each_depth? d P p? = go (held? G d)
    where
      go : Dec (Held G d) → Dec ((j : ℕ) → Depth G d j → P j)
      go (yes h) = via? (λ p j r. subst P (depth_unique F (depth_of F h).1 r) p) (λ f. f (depth_of F h).0 (depth_of F h).1) (p? (depth_of F h).0)
      go (no n) = yes (λ j r. absurd (n (depth_held r)))

  unfoldable pub sooner? : (a b : ℕ) → Dec (Sooner G a b)
  sooner? a b = go (held? G a) (held? G b)
    where
      by : (x : (k : ℕ) × Depth G a k) (y : (j : ℕ) × Depth G b j) → Dec ((x.0 < y.0) ⊎ ((x.0 ≡ y.0) × (a < b))) → Dec (Sooner G a b)
      by x y = via? (λ o. record { low = x.0; high = y.0; depth_a = x.1; depth_b = y.1; order = o }) (λ s. subst (λ k. (k < y.0) ⊎ ((k ≡ y.0) × (a < b))) (depth_unique F s.depth_a x.1) (subst (λ j. (s.low < j) ⊎ ((s.low ≡ j) × (a < b))) (depth_unique F s.depth_b y.1) s.order))

      go : Dec (Held G a) → Dec (Held G b) → Dec (Sooner G a b)
      go (yes h) (yes k) = let x = depth_of F h in let y = depth_of F k in by x y (or? (dec_lt x.0 y.0) (and? (ℕ_discrete x.0 y.0) (dec_lt a b)))
      go (yes h) (no n) = no (λ s. n (depth_held s.depth_b))
      go (no n) k = no (λ s. n (depth_held s.depth_a))

  -- for every digest of S, all of which are held
  unfoldable pub each_inside? : (S P : ℕ → Type 0) → ((y : ℕ) → S y → Held G y) → ((y : ℕ) → Dec (S y)) → ((y : ℕ) → Dec (P y)) → Dec ((y : ℕ) → S y → P y)
  each_inside? S P held s? p? = via? (λ f y s. let h = held y s in subst P h.named (f h.op h.stands (subst S (sym h.named) s))) (λ f o m. f o.digest) (each? (λ o. S o.digest → P o.digest) G (λ o m. implies? (s? o.digest) (p? o.digest)))

  unfoldable pub each_sooner? : (x : ℕ) (P : ℕ → Type 0) → ((y : ℕ) → Dec (P y)) → Dec ((y : ℕ) → Sooner G y x → P y)
  each_sooner? x P = each_inside? (λ y. Sooner G y x) P (λ y s. depth_held s.depth_a) (λ y. sooner? y x)

  unfoldable pub each_later? : (x : ℕ) (P : ℕ → Type 0) → ((y : ℕ) → Dec (P y)) → Dec ((y : ℕ) → Sooner G x y → P y)
  each_later? x P = each_inside? (λ y. Sooner G x y) P (λ y s. depth_held s.depth_b) (λ y. sooner? x y)

  -- for every child, if A holds of it
  unfoldable pub no_child? : (y : ℕ) (A : ℕ → Type 0) → ((z : ℕ) → Dec (A z)) → Dec ((z : ℕ) → A z → ¬ Child G y z)
  no_child? y A d = via? (λ f z a c. f c.op c.stands c.lists (subst A (sym c.named) a)) (λ f o m l a. f o.digest a (record { op = o; stands = m; named = refl; lists = l })) (each? (λ o. y ∈ o.preds → ¬ A o.digest) G (λ o m. implies? (y ∈? o.preds) (not? (d o.digest))))

  -- the layer test inside S
  module _ (S : ℕ → Type 0) (s? : (d : ℕ) → Dec (S d)) (held : (d : ℕ) → S d → Held G d) where
    unfoldable pub inside? : (P : ℕ → Type 0) → ((y : ℕ) → Dec (P y)) → Dec ((y : ℕ) → S y → P y)
    inside? P = each_inside? S P held s?

    unfoldable pub child_inside? : (d : ℕ) → Dec ((c : ℕ) × S c × Child G d c)
    child_inside? d = via? (λ r. (r.0.digest, r.2.1, record { op = r.0; stands = r.1; named = refl; lists = r.2.0 })) (λ r. (r.2.op, r.2.stands, (r.2.lists, subst S (sym r.2.named) r.1))) (any? (λ o. (d ∈ o.preds) × S o.digest) G (λ o m. and? (d ∈? o.preds) (s? o.digest)))

    unfoldable pub layer? : (x k : ℕ) → Dec (Layer G S x k)
    layer? x k = fields3? (λ a b c. record { alone = a; onward = b; level = c }) (λ l. l.alone) (λ l. l.onward) (λ l. l.level) (search (inside?, implies?, depth?, ℕ_discrete)) (search (inside?, each_depth?, implies?, dec_lt, child_inside?)) (search (inside?, each_depth?, implies?, dec_lt, dec_le, child?) depth 12)

  unfoldable pub waist? : (ps : List ℕ) (x : ℕ) → Dec (Waist G ps x)
  waist? ps x = fields4? (λ a b c d. record { held = a; unnamed = b; no_head = c; unlisted = d }) (λ w. w.held) (λ w. w.unnamed) (λ w. w.no_head) (λ w. w.unlisted) (held? G x) (search (each_sooner?, not?, ◌∈?◌)) (search (each_sooner?, not?, head?)) (search (each_sooner?, no_child?, not?, sooner?))

  unfoldable pub first_waist? : (ps : List ℕ) (x : ℕ) → Dec (FirstWaist G ps x)
  first_waist? ps x = fields2? (λ a b. record { waist = a; first = b }) (λ w. w.waist) (λ w. w.first) (waist? ps x) (search (each_later?, not?, waist?))

  unfoldable pub matches? : (q : Question) (o : Op) → Dec (Matches q o)
  matches? (listed ds) o = o.digest ∈? ds
  matches? (kind k) o = ℕ_discrete o.kind k

  unfoldable pub same_batch? : (ps : List ℕ) (q : Question) → Dec (SameBatch G ps q)
  same_batch? ps q =
      via? (λ r. record { apart = r.0; waist = r.1.0.digest; is = r.1.2.0; op = r.1.2.1.0; stands = r.1.2.1.1; above = r.1.2.1.2.0; matches = r.1.2.1.2.1 })
      (λ s. let h = s.is.waist.held in (s.apart, (h.op, h.stands, (subst (FirstWaist G ps) (sym h.named) s.is, (s.op, s.stands, (subst (λ x. Sooner G x s.op.digest) (sym h.named) s.above, s.matches))))))
      (and? (not? (all_heads? G ps)) (any? (λ w. FirstWaist G ps w.digest × ((o : Op) × (o ∈ G) × (Sooner G w.digest o.digest × Matches q o))) G (λ w m. and? (first_waist? ps w.digest) (any? (λ o. Sooner G w.digest o.digest × Matches q o) G (λ o n. and? (sooner? w.digest o.digest) (matches? q o))))))

  -- updates
  unfoldable pub met? : (ls : List ℕ) (d : ℕ) → Dec (Met G ls d)
  met? ls d = via? reach_met met_reach (reach? F Other (λ o. not? (ℕ_discrete o.kind 2)) ls d)

  unfoldable pub update? : (u : ℕ) → Dec (Update G u)
  update? u = go (held? G u)
    where
      go : Dec (Held G u) → Dec (Update G u)
      go (yes h) = via? (λ e. record { held = h; kind = e }) (λ w. ap (λ o. o.kind) (one_op F h.stands w.held.stands (h.named ∙ sym w.held.named)) ∙ w.kind) (ℕ_discrete h.op.kind 2)
      go (no n) = no (λ w. n w.held)

  unfoldable pub nearest? : (ls : List ℕ) (u : ℕ) → Dec (Nearest G ls u)
  nearest? ls u = fields2? (λ a b. record { update = a; met = b }) (λ n. n.update) (λ n. n.met) (update? u) (met? ls u)

  unfoldable pub latest? : (u : ℕ) → Dec (Latest G u)
  latest? u =
      fields2? (λ a b. record { update = a; last = λ v w n. b w.held.op w.held.stands w.kind (λ e. n (sym w.held.named ∙ e)) }) (λ l. l.update) (λ l o m k n. l.last o.digest (record { held = record { op = o; stands = m; named = refl }; kind = k }) n) (update? u)
      (each? (λ o. o.kind ≡ 2 → ¬ (o.digest ≡ u) → ¬ Nearest G o.preds u) G (λ o m. implies? (ℕ_discrete o.kind 2) (implies? (not? (ℕ_discrete o.digest u)) (not? (nearest? o.preds u)))))

  unfoldable pub observed? : (ps ts : List ℕ) (d : ℕ) → Dec (Observed G ps ts d)
  observed? ps ts d =
      via? (λ s. elim s [ inl r ↦ unchecked r.0 r.1 | inr r ↦ observed r.0 r.1 ]) (λ o. elim o [ unchecked m a ↦ inl (m, a) | observed m i ↦ inr (m, i) ])
      (or? (and? (d ∈? ts) (all_heads? G ps)) (and? (d ∈? ts) (past? F ps d)))

unfoldable pub made? : {G : List Op} (o : Op) → Formed G → Formed (G ++ (o ∷ [])) → (u : ℕ) → Dec (MadeChainable G o u)
made? o F F' u = fields3? (λ a b c. record { update = a; was = b; passed = c }) (λ m. m.update) (λ m. m.was) (λ m. m.passed) (ℕ_discrete o.kind 2) (latest? F u) (not? (latest? F' u))

-- batches of heads that are held
module _ {G : List Op} (F : Formed G) (hs : List ℕ) (f : (h : ℕ) → h ∈ hs → Held G h) where
  -- the depth is that of x as the graph holds it: computed from the proof that x is in the past, it outgrows the memory
  unfoldable pub boundary? : (x : ℕ) → Dec (Boundary G hs x)
  boundary? x = go (past? F hs x) (held? G x)
    where
      go : Dec (InPast G hs x) → Dec (Held G x) → Dec (Boundary G hs x)
      go (no n) h = no (λ b. n b.inside)
      go (yes i) (no n) = absurd (n (past_held F hs f x i))
      go (yes i) (yes h) = let r = depth_of F h in via? (layer_boundary F hs f i r.1) (boundary_layer F hs f r.1) (layer? F (InPast G hs) (past? F hs) (past_held F hs f) x r.0)

  unfoldable pub begins? : (ds : List ℕ) (i : ℕ) → Dec (Begins G hs ds i)
  begins? ds i = cases3? at_first at_boundary past_boundary (λ b. elim b [ at_first e ↦ inl (inl e) | at_boundary x ↦ inl (inr x) | past_boundary x ↦ inr x ]) (search ℕ_discrete) (search boundary?) (search boundary?)

  unfoldable pub batches? : (ds ms : List ℕ) → Dec (Batches G hs ds ms)
  batches? ds ms =
      fields5? (λ a b c d e. record { into = a; back = b; ordered = c; sized = d; begins = e }) (λ b. b.into) (λ b. b.back) (λ b. b.ordered) (λ b. b.sized) (λ b. b.begins)
      (each? (InPast G hs) ds (λ d m. past? F hs d))
      (each_inside? F (InPast G hs) (λ d. d ∈ ds) (past_held F hs f) (past? F hs) (λ d. d ∈? ds))
      (ordered? (Sooner G) ds (λ x y m n. sooner? F x y))
      (ℕ_discrete (length ms) (length ds))
      (all<? (length ds) (λ i. Mark (Begins G hs ds i) (get_or ms i 0)) (λ i. mark? (begins? ds i) (get_or ms i 0)))
