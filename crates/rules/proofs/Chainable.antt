-- The updates that an admission makes chainable are the nearest updates of its predecessors that were latest.
-- Assumes nothing.
use Prim.Native.Nat.{ℕ}
use mathlib.Core.Path.{◌≡◌, refl, sym, ◌∙◌, ap, subst}
use mathlib.Core.Logic.{◌⊎◌, inl, inr}
use mathlib.Core.List.Memᴰ
use mathlib.Core.List.{List, [], ◌∷◌, ◌++◌}
use Rattle.rules.specs.Admission.{Admissible, MadeChainable}
use Rattle.rules.specs.Graph.{Op, Held}
use Rattle.rules.specs.Lists.{◌∈◌}
use Rattle.rules.specs.Updates.{Met, from_list, behind, Update, Nearest, Latest, Chainable}
use Rattle.rules.proofs.DecideGraph.{nearest?, latest?}
use Rattle.rules.proofs.Formed.{Formed, closed}
use Rattle.rules.proofs.Same.{update_in, nearest_in}

-- an update that isn't chainable is latest
pub not_chainable : {G : List Op} → Formed G → {u : ℕ} → Update G u → ¬ Chainable G u → Latest G u
not_chainable {G} F {u} w n = go (latest? F u)
  where
    go : Dec (Latest G u) → Latest G u
    go (yes l) = l
    go (no x) = absurd (n (record { update = w; passed = x }))

module _ {G : List Op} {o : Op} (F : Formed G) (A : Admissible G o) where
  old_in : (p : Op) → p ∈ G → p ∈ G ++ (o ∷ [])
  old_in p m = Memᴰ.append_left (o ∷ []) m

  new_in : o ∈ G ++ (o ∷ [])
  new_in = Memᴰ.append_right G (Memᴰ.head refl)

  old_or_new : (p : Op) → p ∈ G ++ (o ∷ []) → (p ∈ G) ⊎ (p ≡ o)
  old_or_new p m = go (Memᴰ.append_cases G m)
    where
      last : (p ≡ o) ⊎ (p ∈ []) → p ≡ o
      last (inl e) = e
      last (inr n) = absurd (Memᴰ.not-nil n)

      go : (p ∈ G) ⊎ (p ∈ o ∷ []) → (p ∈ G) ⊎ (p ≡ o)
      go (inl i) = inl i
      go (inr i) = inr (last (Memᴰ.cases_cons i))

  -- a digest that G holds has its operation in G
  old_op : {d : ℕ} → Held G d → (h : Held (G ++ (o ∷ [])) d) → h.op ∈ G
  old_op {d} g h = go (old_or_new h.op h.stands)
    where
      go : (h.op ∈ G) ⊎ (h.op ≡ o) → h.op ∈ G
      go (inl i) = i
      go (inr e) = absurd (A.fresh (subst (Held G) (sym h.named ∙ ap (λ p. p.digest) e) g))

  met_back : {ds : List ℕ} {d : ℕ} → ((x : ℕ) → x ∈ ds → Held G x) → Met (G ++ (o ∷ [])) ds d → Met G ds d × Held G d
  met_back {d = d} f (from_list m) = (from_list m, f d m)
  met_back {d = d} f (behind r h n i) =
      let a = met_back f r in
      let m = old_op a.1 h in
      (behind a.0 (record { op = h.op; stands = m; named = h.named }) n i, closed F m i)

  nearest_back : {ds : List ℕ} {u : ℕ} → ((x : ℕ) → x ∈ ds → Held G x) → Nearest (G ++ (o ∷ [])) ds u → Nearest G ds u
  nearest_back f n =
      let a = met_back f n.met in
      let h = n.update.held in
      record { update = record { held = record { op = h.op; stands = old_op a.1 h; named = h.named }; kind = n.update.kind }; met = a.0 }

  latest_stays : {u : ℕ} → Latest G u → ¬ Nearest G o.preds u → Latest (G ++ (o ∷ [])) u
  latest_stays {u} l n = record { update = update_in old_in l.update; last = λ v w x. go v w x (old_or_new w.held.op w.held.stands) }
    where
      go : (v : ℕ) (w : Update (G ++ (o ∷ [])) v) → ¬ (v ≡ u) → (w.held.op ∈ G) ⊎ (w.held.op ≡ o) → ¬ Nearest (G ++ (o ∷ [])) w.held.op.preds u
      go v w x (inl m) y = l.last v (record { held = record { op = w.held.op; stands = m; named = w.held.named }; kind = w.kind }) x (nearest_back (λ p i. closed F m i) y)
      go v w x (inr e) y = n (nearest_back A.known (subst (λ p. Nearest (G ++ (o ∷ [])) p.preds u) e y))

  pub made_nearest : {u : ℕ} → MadeChainable G o u → Nearest G o.preds u
  made_nearest {u} m = go (nearest? F o.preds u)
    where
      go : Dec (Nearest G o.preds u) → Nearest G o.preds u
      go (yes n) = n
      go (no n) = absurd (m.passed (latest_stays m.was n))

  pub nearest_made : {u : ℕ} → o.kind ≡ 2 → Nearest G o.preds u → Latest G u → MadeChainable G o u
  nearest_made {u} k n l =
      record {
        update = k;
        was = l;
        passed = λ m. m.last o.digest (record { held = record { op = o; stands = new_in; named = refl }; kind = k }) (λ e. A.fresh (subst (Held G) (sym e) l.update.held)) (nearest_in old_in n);
      }
