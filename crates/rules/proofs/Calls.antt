-- For each call that only reads: two outcomes on the same input coincide, and stores with the same operations get the same outcome.
-- Assumes nothing.
use Prim.Native.Nat.{ℕ}
use native.Mathlib.Omega.{arith}
use native.Mathlib.Decide.{ℕ_discrete}
use mathlib.Core.Path.{◌≡◌, refl, sym, ◌∙◌, ap, subst}
use mathlib.Core.Bool.{Bool}
use mathlib.Core.Logic.{◌⊎◌, inl, inr, ◌↔◌}
use mathlib.Core.List.{List}
use Rattle.rules.specs.Batches.{BatchesAnswered, batches_for_heads_refusals, batches_refusals}
use Rattle.rules.specs.Bytes.{Bytes, digest_of, digests_of}
use Rattle.rules.specs.Calls.{Heads, NearestUpdateAncestors, PredecessorsFor, ChildrenOf, FilterInCausalPast, DepthOf, ContainsOpHash, ContainsAll, IsChainable, HasSingleHead, HasAddBefore, BatchHasListed, BatchHasKind, BatchesForHeads, AllBatches, AddedMember, Find}
use Rattle.rules.specs.Filter.{Observed, filter_refusals}
use Rattle.rules.specs.First.{First}
use Rattle.rules.specs.Graph.{Op, Held, Unheld, Child, Head, AllHeads}
use Rattle.rules.specs.Lists.{Alike}
use Rattle.rules.specs.Question.{listed, kind, SameBatch, listed_refusals, kind_refusals}
use Rattle.rules.specs.Small.{AllHeld, SingleHead, AddBefore, Added, HeldIn, store_refusals, digest_refusals, held_refusals, list_refusals, member_refusals}
use Rattle.rules.specs.Updates.{Nearest, Chainable}
use Rattle.rules.proofs.Answers.{listed_same, answered_same, valued_unique, valued_same, parted_unique, parted_same, batches_answered_unique, batches_answered_same}
use Rattle.rules.proofs.Depths.{depth_unique}
use Rattle.rules.proofs.First.{Matched, iff}
use Rattle.rules.proofs.Formed.{Formed, one_op}
use Rattle.rules.proofs.Lists.{set_unique, set_same, alike_refl, alike_sym}
use Rattle.rules.proofs.Past.{held?}
use Rattle.rules.proofs.Same.{held_in, child_in, depth_in, nearest_in, add_before_in, added_in, all_held_in, unheld_same, head_same, all_heads_same, chainable_same, observed_same, single_same, same_batch_same}

-- two stores, damaged alike, that hold the same operations if they are sound
pub record Twins (D D' : Type 0) (G H : List Op) : Type 0 where
  pub damage : D ↔ D'
  pub same : ¬ D → Alike G H

either : {A B C D : Type 0} → A ↔ B → C ↔ D → (A ⊎ C) ↔ (B ⊎ D)
either e f = ((λ s. elim s [ inl a ↦ inl (e.0 a) | inr c ↦ inr (f.0 c) ]), (λ s. elim s [ inl b ↦ inl (e.1 b) | inr d ↦ inr (f.1 d) ]))

module _ {G H : List Op} (e : Alike G H) where
  pub held_iff : (d : ℕ) → Held G d ↔ Held H d
  held_iff d = (held_in e.into, held_in e.back)

  pub unheld_iff : (ds : List ℕ) → Unheld G ds ↔ Unheld H ds
  unheld_iff ds = (unheld_same e, unheld_same (alike_sym e))

  pub not_held_iff : (d : ℕ) → (¬ Held G d) ↔ (¬ Held H d)
  not_held_iff d = ((λ n h. n (held_in e.back h)), (λ n h. n (held_in e.into h)))

  later_iff : (ps ts : List ℕ) → ((¬ AllHeads G ps) × Unheld G ts) ↔ ((¬ AllHeads H ps) × Unheld H ts)
  later_iff ps ts = ((λ r. ((λ a. r.0 (all_heads_same (alike_sym e) a)), unheld_same e r.1)), (λ r. ((λ a. r.0 (all_heads_same e a)), unheld_same (alike_sym e) r.1)))

-- what the refusals of two such stores match by
pub ruleset matching = (iff, held_iff, not_held_iff, unheld_iff)

pub digest_matched : {D D' : Type 0} (d : List ℕ) → D ↔ D' → Matched (digest_refusals D d) (digest_refusals D' d)
digest_matched d e = search matching

module _ {D D' : Type 0} {G H : List Op} (w : Twins D D' G H) where
  store_matched : Matched (store_refusals D) (store_refusals D')
  store_matched = search (matching, w.damage)

  member_matched : (m d : List ℕ) → Matched (member_refusals D m d) (member_refusals D' m d)
  member_matched m d = search (matching, w.damage)

  list_matched : (most : ℕ) (l : List ℕ) → Matched (list_refusals most D l) (list_refusals most D' l)
  list_matched most l = search (matching, w.damage) depth 9

  held_matched : (d : List ℕ) → Matched (held_refusals D G d) (held_refusals D' H d)
  held_matched d = search (matching, w.damage, w.same) depth 9

  filter_matched : (most : ℕ) (p q : List ℕ) → Matched (filter_refusals most D G p q) (filter_refusals most D' H p q)
  filter_matched most p q = search (matching, later, w.damage, w.same) depth 15
    where
      later : ¬ D → ((¬ AllHeads G (digests_of p)) × Unheld G (digests_of q)) ↔ ((¬ AllHeads H (digests_of p)) × Unheld H (digests_of q))
      later n = later_iff (w.same n) (digests_of p) (digests_of q)

  listed_matched : (most : ℕ) (p l : List ℕ) → Matched (listed_refusals most D G p l) (listed_refusals most D' H p l)
  listed_matched most p l = search (matching, w.damage, w.same) depth 15

  kind_matched : (most : ℕ) (p : List ℕ) (k : ℕ) → Matched (kind_refusals most D G p k) (kind_refusals most D' H p k)
  kind_matched most p k = search (matching, w.damage, w.same) depth 15

  batches_matched : (most : ℕ) (l : List ℕ) → Matched (batches_for_heads_refusals most D G l) (batches_for_heads_refusals most D' H l)
  batches_matched most l = search (matching, w.damage, w.same) depth 15

-- graphs with the same operations: the same outcome
module _ {D D' : Type 0} {G H : List Op} (w : Twins D D' G H) where
  both : (P : List Op → ℕ → Type 0) → ((A B : List Op) → Alike A B → (d : ℕ) → P A d → P B d) → ¬ D → (d : ℕ) → P G d ↔ P H d
  both P f n d = (f G H (w.same n) d, f H G (alike_sym (w.same n)) d)

  pub heads_same : {s t : List ℕ} {n c : ℕ} → Heads D G s t n c → Heads D' H s t n c
  heads_same = listed_same (omega arith) (store_matched w) (λ z. both Head (λ A B e d. head_same e) z.0)

  pub nearest_update_ancestors_same : (most : ℕ) (l : List ℕ) {s t : List ℕ} {n c : ℕ} → NearestUpdateAncestors most D G l s t n c → NearestUpdateAncestors most D' H l s t n c
  nearest_update_ancestors_same most l = listed_same (omega arith) (list_matched w most l) (λ z. both (λ A. Nearest A (digests_of l)) (λ A B e d. nearest_in e.into) z.1.1.0)

  pub predecessors_for_same : (d : List ℕ) {s t : List ℕ} {n c : ℕ} → PredecessorsFor D G d s t n c → PredecessorsFor D' H d s t n c
  predecessors_for_same d = listed_same (omega arith) (held_matched w d) (λ z. both (λ A p. Child A p (digest_of d)) (λ A B e p. child_in e.into) z.1.0)

  pub children_of_same : (d : List ℕ) {s t : List ℕ} {n c : ℕ} → ChildrenOf D G d s t n c → ChildrenOf D' H d s t n c
  children_of_same d = listed_same (omega arith) (digest_matched d w.damage) (λ z. both (λ A. Child A (digest_of d)) (λ A B e c. child_in e.into) z.1.0)

  pub filter_in_causal_past_same : (most : ℕ) (p q : List ℕ) {s t : List ℕ} {n c : ℕ} → FilterInCausalPast most D G p q s t n c → FilterInCausalPast most D' H p q s t n c
  filter_in_causal_past_same most p q = listed_same (omega arith) (filter_matched w most p q) (λ z. both (λ A. Observed A (digests_of p) (digests_of q)) (λ A B e d. observed_same e) z.1.1.0)

  pub depth_of_same : (d : List ℕ) {n v : ℕ} → DepthOf D G d n v → DepthOf D' H d n v
  depth_of_same d = valued_same (omega arith) (held_matched w d) (λ z x. depth_in (w.same z.1.0).into)

  yes_no : (P : List Op → Type 0) → ((A B : List Op) → Alike A B → P A → P B) → ¬ D → P G ↔ P H
  yes_no P f n = (f G H (w.same n), f H G (alike_sym (w.same n)))

  pub contains_op_hash_same : (d : List ℕ) {n : ℕ} {b : Bool} → ContainsOpHash D G d n b → ContainsOpHash D' H d n b
  contains_op_hash_same d = answered_same (omega arith) (digest_matched d w.damage) (λ z. yes_no (λ A. Held A (digest_of d)) (λ A B e. held_in e.into) z.1.0)

  pub contains_all_same : (most : ℕ) (l : List ℕ) {n : ℕ} {b : Bool} → ContainsAll most D G l n b → ContainsAll most D' H l n b
  contains_all_same most l = answered_same (omega arith) (list_matched w most l) (λ z. yes_no (λ A. AllHeld A (digests_of l)) (λ A B e. all_held_in e.into) z.1.1.0)

  pub is_chainable_same : (d : List ℕ) {n : ℕ} {b : Bool} → IsChainable D G d n b → IsChainable D' H d n b
  is_chainable_same d = answered_same (omega arith) (digest_matched d w.damage) (λ z. yes_no (λ A. Chainable A (digest_of d)) (λ A B e. chainable_same e) z.1.0)

  pub has_single_head_same : {n : ℕ} {b : Bool} → HasSingleHead D G n b → HasSingleHead D' H n b
  has_single_head_same = answered_same (omega arith) (store_matched w) (λ z. yes_no SingleHead (λ A B e. single_same e) z.0)

  pub has_add_before_same : (m d : List ℕ) {n : ℕ} {b : Bool} → HasAddBefore D G m d n b → HasAddBefore D' H m d n b
  has_add_before_same m d = answered_same (omega arith) (member_matched w m d) (λ z. yes_no (λ A. AddBefore A (digest_of m) (digest_of d)) (λ A B e. add_before_in e.into) z.1.0)

  pub batch_has_listed_same : (most : ℕ) (p l : List ℕ) {n : ℕ} {b : Bool} → BatchHasListed most D G p l n b → BatchHasListed most D' H p l n b
  batch_has_listed_same most p l = answered_same (omega arith) (listed_matched w most p l) (λ z. yes_no (λ A. SameBatch A (digests_of p) (listed (digests_of l))) (λ A B e. same_batch_same e) z.1.1.0)

  pub batch_has_kind_same : (most : ℕ) (p : List ℕ) (k : ℕ) {n : ℕ} {b : Bool} → BatchHasKind most D G p k n b → BatchHasKind most D' H p k n b
  batch_has_kind_same most p k = answered_same (omega arith) (kind_matched w most p k) (λ z. yes_no (λ A. SameBatch A (digests_of p) (kind k)) (λ A B e. same_batch_same e) z.1.1.0)

  pub batches_for_heads_same : (most : ℕ) (l : List ℕ) {s t u v : List ℕ} {n o b : ℕ} → BatchesForHeads most D G l s t u v n o b → BatchesForHeads most D' H l s t u v n o b
  batches_for_heads_same most l = batches_answered_same (omega arith) (batches_matched w most l) (λ z. (w.same z.1.1.0, alike_refl (digests_of l)))

  pub all_batches_same : {s t u v : List ℕ} {n o b : ℕ} → AllBatches D G s t u v n o b → AllBatches D' H s t u v n o b
  all_batches_same p =
      record {
        heads = p.heads;
        all = λ n. let m : ¬ D = λ x. n (w.damage.0 x) in set_same (both Head (λ A B e d. head_same e) m) (p.all m);
        answered = batches_answered_same (omega arith) (refl, w.damage, λ n. (refl, iff, λ x. tt)) (λ z. (w.same z.0, alike_refl p.heads)) p.answered;
      }

  pub added_member_same : (d : List ℕ) {part : List ℕ} → AddedMember D G d part → AddedMember D' H d part
  added_member_same d = parted_same (omega arith) (digest_matched d w.damage) (digest_matched d (w.damage.1, w.damage.0)) (λ z. both (λ A. Added A (digest_of d)) (λ A B e m. added_in e.into) (λ x. z.1.0 (w.damage.0 x)))

-- calls on two stores, each with its twin
pub find_same : {D D' E E' : Type 0} {G H K M : List Op} (d : List ℕ) {part : List ℕ} → Twins D D' G H → Twins E E' K M → Find D E G K d part → Find D' E' H M d part
find_same {D} {D'} {E} {E'} {G} {H} {K} {M} d w v =
    let e = either w.damage v.damage in
    parted_same (omega arith) (digest_matched d e) (digest_matched d (e.1, e.0)) (λ z x.
    let a : Alike G H = w.same (λ y. z.1.0 (inl (w.damage.0 y))) in
    let b : Alike K M = v.same (λ y. z.1.0 (inr (v.damage.0 y))) in
    ((λ h. record { same = h.same; held = (either (held_iff a (digest_of d)) (held_iff b (digest_of d))).0 h.held }), (λ h. record { same = h.same; held = (either (held_iff a (digest_of d)) (held_iff b (digest_of d))).1 h.held })))

-- two outcomes on the same input coincide; what needs more than the shape of the answer
module _ {D : Type 0} {G : List Op} (F : ¬ D → Formed G) where
  pub depth_of_unique : (d : List ℕ) {n m v w : ℕ} → DepthOf D G d n v → DepthOf D G d m w → (n ≡ m) × (v ≡ w)
  depth_of_unique d = valued_unique (omega arith) (λ z x y. depth_unique (F z.1.0))

  pub batches_for_heads_unique : (most : ℕ) (l : List ℕ) {s t t' u v v' : List ℕ} {n n' o o' b b' : ℕ} → Bytes t → Bytes t' → BatchesForHeads most D G l s t u v n o b → BatchesForHeads most D G l s t' u v' n' o' b' → (n ≡ n') × (o ≡ o') × (b ≡ b') × (t ≡ t') × (v ≡ v')
  batches_for_heads_unique most l = batches_answered_unique (omega arith) (λ z. F z.1.1.0)

  pub all_batches_unique : {s t t' u v v' : List ℕ} {n n' o o' b b' : ℕ} → Bytes t → Bytes t' → AllBatches D G s t u v n o b → AllBatches D G s t' u v' n' o' b' → (n ≡ n') × (o ≡ o') × (b ≡ b') × (t ≡ t') × (v ≡ v')
  all_batches_unique {s} {t} {t'} {u} {v} {v'} {n} {n'} {o} {o'} {b} {b'} x y p q = batches_answered_unique (omega arith) (λ z. F z.0) x y moved q.answered
    where
      heads : ¬ D → p.heads ≡ q.heads
      heads n = set_unique (p.all n) (q.all n)

      moved : BatchesAnswered (batches_refusals D q.heads) G q.heads s t u v n o b
      moved = batches_answered_same (omega arith) (refl, iff, λ n. (refl, ((λ e. sym (heads n) ∙ e), (λ e. heads n ∙ e)), λ x. tt)) (λ z. (alike_refl G, subst (Alike p.heads) (heads z.0) (alike_refl p.heads))) p.answered

  pub added_member_unique : (d : List ℕ) {s t : List ℕ} (n : ℕ) → First (digest_refusals D d) n → Bytes s → Bytes t → AddedMember D G d s → AddedMember D G d t → s ≡ t
  added_member_unique d n f = parted_unique n (omega arith) f (λ z. added? (F z.1.0) (held? G (digest_of d)))
    where
      kind? : Formed G → (h : Held G (digest_of d)) → Dec (h.op.kind ≡ 0) → ((m : ℕ) × Added G (digest_of d) m) ⊎ ((m : ℕ) → ¬ Added G (digest_of d) m)
      kind? K h (yes e) = inl (h.op.member, record { held = h; add = e; adds = refl })
      kind? K h (no e) = inr (λ m a. e (ap (λ o. o.kind) (one_op K h.stands a.held.stands (h.named ∙ sym a.held.named)) ∙ a.add))

      added? : Formed G → Dec (Held G (digest_of d)) → ((m : ℕ) × Added G (digest_of d) m) ⊎ ((m : ℕ) → ¬ Added G (digest_of d) m)
      added? K (yes h) = kind? K h (ℕ_discrete h.op.kind 0)
      added? K (no n) = inr (λ m a. n a.held)

pub find_unique : {D E : Type 0} {G K : List Op} (d : List ℕ) {s t : List ℕ} (n : ℕ) → First (digest_refusals (D ⊎ E) d) n → Bytes s → Bytes t → Find D E G K d s → Find D E G K d t → s ≡ t
find_unique {G = G} {K} d n f = parted_unique n (omega arith) f (λ z. go (held? G (digest_of d)) (held? K (digest_of d)))
  where
    go : Dec (Held G (digest_of d)) → Dec (Held K (digest_of d)) → ((x : ℕ) × HeldIn G K (digest_of d) x) ⊎ ((x : ℕ) → ¬ HeldIn G K (digest_of d) x)
    go (yes h) k = inl (digest_of d, record { same = refl; held = inl h })
    go (no h) (yes k) = inl (digest_of d, record { same = refl; held = inr k })
    go (no h) (no k) = inr (λ x a. elim a.held [ inl y ↦ h y | inr y ↦ k y ])
