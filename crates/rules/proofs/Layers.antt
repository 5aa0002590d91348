-- The layer test tells the boundaries.
-- Assumes nothing.
use Prim.Native.Nat.{ℕ, ◌≤◌, ◌<◌}
use native.Mathlib.Omega.{arith}
use native.Mathlib.Decide.{ℕ_discrete, dec_le}
use mathlib.Core.Path.{◌≡◌, refl, sym, subst}
use mathlib.Core.Logic.{◌⊎◌, inl, inr}
use mathlib.Core.List.Memᴰ
use mathlib.Core.List.{List, [], ◌∷◌}
use Rattle.rules.specs.Batches.{Run, ends, goes, Chain}
use Rattle.rules.specs.Graph.{Op, Held, Child, Depth, bottom, above}
use Rattle.rules.specs.Layers.{Layer}
use Rattle.rules.specs.Lists.{◌∈◌}
use Rattle.rules.proofs.Depths.{depth_of, same_preds, no_preds, depth_unique}
use Rattle.rules.proofs.Formed.{Formed, closed, later, by_preds, by_children}
use Rattle.rules.proofs.Lists.{some?, ◌∈?◌}

-- every complete chain inside S passes through x
abbrev pub Through : List Op → (ℕ → Type 0) → ℕ → Type 0
Through G S x = (first : ℕ) (rest : List ℕ) → Chain G S first rest → x ∈ first ∷ rest

child_held : {G : List Op} {d c : ℕ} → Child G d c → Held G c
child_held k = record { op = k.op; stands = k.stands; named = k.named }

pub run_in : {G : List Op} {S : ℕ → Type 0} {d : ℕ} {ds : List ℕ} → Run G S d ds → S d
run_in (ends s f) = s
run_in (goes s k r) = s

module _ {G : List Op} (F : Formed G) where
  -- a child is deeper
  pub deeper : {d c j i : ℕ} → Child G d c → Depth G d j → Depth G c i → j < i
  unfolding child_held
  deeper {d} k r (bottom h e) = absurd (no_preds F h (child_held k) e d k.lists)
  deeper {d} {j = j} k r (above h m s f l g) =
      let n = same_preds F (child_held k) h d k.lists in
      let e : j ≡ f d n = depth_unique F r (g d n) in
      omega (arith, l d n)

  -- what comes after is deeper
  pub run_deeper : {S : ℕ → Type 0} {d : ℕ} {ds : List ℕ} → Run G S d ds → {j y i : ℕ} → Depth G d j → y ∈ ds → Depth G y i → j < i
  run_deeper (ends s f) r m t = absurd (Memᴰ.not-nil m)
  run_deeper {S} (goes {c = c} {cs = cs} s k run) {j} {y} {i} r m t =
      let q = depth_of F (child_held k) in
      let a : j < q.0 = deeper k r q.1 in
      go q a (λ n. run_deeper run q.1 n t) (Memᴰ.cases_cons m)
    where
      go : (q : (u : ℕ) × Depth G c u) → j < q.0 → (y ∈ cs → q.0 < i) → (y ≡ c) ⊎ (y ∈ cs) → j < i
      go q a later (inl e) = omega (arith, depth_unique F q.1 (subst (λ z. Depth G z i) e t))
      go q a later (inr n) = omega (arith, later n)

module _ {G : List Op} (F : Formed G) (S : ℕ → Type 0) (S? : (d : ℕ) → Dec (S d)) (held : (d : ℕ) → S d → Held G d) (under : (d c : ℕ) → S c → Child G d c → S d) where
  -- a child inside S, or none
  unfoldable pub child_inside : (d : ℕ) → ((c : ℕ) × S c × Child G d c) ⊎ ((c : ℕ) → S c → ¬ Child G d c)
  child_inside d = go (some? (λ o. (d ∈ o.preds) × S o.digest) G (λ o m. both (d ∈? o.preds) (S? o.digest)))
    where
      both : {A B : Type 0} → Dec A → Dec B → Dec (A × B)
      both (yes a) (yes b) = yes (a, b)
      both (yes a) (no b) = no (λ p. b p.1)
      both (no a) b = no (λ p. a p.0)

      go : ((o : Op) × (o ∈ G) × ((d ∈ o.preds) × S o.digest)) ⊎ ((o : Op) → o ∈ G → ¬ ((d ∈ o.preds) × S o.digest)) → ((c : ℕ) × S c × Child G d c) ⊎ ((c : ℕ) → S c → ¬ Child G d c)
      go (inl r) = inl (r.0.digest, r.2.1, record { op = r.0; stands = r.1; named = refl; lists = r.2.0 })
      go (inr f) = inr (λ c s k. f k.op k.stands (k.lists, subst S (sym k.named) s))

  -- from each place a run goes to an end
  run_on : {d : ℕ} → S d → (ds : List ℕ) × Run G S d ds
  run_on {d} s = by_children F (λ d. S d → (ds : List ℕ) × Run G S d ds) step (held d s) s
    where
      step : (o : Op) → o ∈ G → ((c : ℕ) → Child G o.digest c → S c → (ds : List ℕ) × Run G S c ds) → S o.digest → (ds : List ℕ) × Run G S o.digest ds
      step o m f t = go (child_inside o.digest)
        where
          go : ((c : ℕ) × S c × Child G o.digest c) ⊎ ((c : ℕ) → S c → ¬ Child G o.digest c) → (ds : List ℕ) × Run G S o.digest ds
          go (inl r) = let u = f r.0 r.2 r.1 in (r.0 ∷ u.0, goes t r.2 u.1)
          go (inr n) = ([], ends t n)

  module _ {x k : ℕ} (dx : Depth G x k) where
    -- the test passed: each complete chain meets x
    meets : Layer G S x k → {d : ℕ} {ds : List ℕ} → Run G S d ds → (j : ℕ) → Depth G d j → j ≤ k → x ∈ d ∷ ds
    meets L (ends {d = d} s f) j r le = go (ℕ_discrete j k)
      where
        go : Dec (j ≡ k) → x ∈ d ∷ []
        go (yes e) = Memᴰ.head (sym (L.alone d s (subst (λ z. Depth G d z) e r)))
        go (no n) = let t = L.onward d s j r (omega arith) in absurd (f t.0 t.1 t.2)
    meets L (goes {d = d} {c = c} {cs = cs} s kid run) j r le =
        let q = depth_of F (child_held kid) in
        go q (λ h. meets L run q.0 q.1 h) (ℕ_discrete j k)
      where
        go : (q : (u : ℕ) × Depth G c u) → (q.0 ≤ k → x ∈ c ∷ cs) → Dec (j ≡ k) → x ∈ d ∷ c ∷ cs
        go q rest (yes e) = Memᴰ.head (sym (L.alone d s (subst (λ z. Depth G d z) e r)))
        go q rest (no n) = Memᴰ.tail (rest (omega (arith, L.level d s j r (omega arith) c (run_in run) kid q.0 q.1)))

    pub layer_through : Layer G S x k → Through G S x
    layer_through L first rest c = meets L c.run 0 (bottom c.held c.bare) (omega arith)

    -- a place at another depth is another place
    other : {y j : ℕ} → Depth G y j → ¬ (j ≡ k) → ¬ (x ≡ y)
    other {y} {j} r n e = n (depth_unique F r (subst (λ z. Depth G z k) e dx))

    past : {y : ℕ} {ys : List ℕ} → ¬ (x ≡ y) → ¬ (x ∈ ys) → ¬ (x ∈ y ∷ ys)
    past a b m = elim (Memᴰ.cases_cons m) [ inl e ↦ a e | inr t ↦ b t ]

    after : {d j : ℕ} {ds : List ℕ} → Run G S d ds → Depth G d j → k ≤ j → ¬ (x ∈ ds)
    after run r le m = let h = run_deeper F run r m dx in omega arith

    module _ (T : Through G S x) where
      -- no run that starts at x's depth or below misses x
      caught : {d : ℕ} → S d → (ds : List ℕ) → Run G S d ds → ¬ (x ∈ d ∷ ds) → (j : ℕ) → Depth G d j → j ≤ k → ⊥
      caught {d} s = by_preds F (λ d. (ds : List ℕ) → Run G S d ds → ¬ (x ∈ d ∷ ds) → (j : ℕ) → Depth G d j → j ≤ k → ⊥) step (held d s)
        where
          step : (o : Op) → o ∈ G → ((p : ℕ) → p ∈ o.preds → (ds : List ℕ) → Run G S p ds → ¬ (x ∈ p ∷ ds) → (j : ℕ) → Depth G p j → j ≤ k → ⊥) → (ds : List ℕ) → Run G S o.digest ds → ¬ (x ∈ o.digest ∷ ds) → (j : ℕ) → Depth G o.digest j → j ≤ k → ⊥
          step o m f ds run miss j r le = go o.preds refl
            where
              go : (ps : List ℕ) → o.preds ≡ ps → ⊥
              go [] e = miss (T o.digest ds (record { held = record { op = o; stands = m; named = refl }; bare = e; run = run }))
              go (p ∷ ps) e =
                  let l : p ∈ o.preds = subst (λ z. p ∈ z) (sym e) (Memᴰ.head refl) in
                  let kid : Child G p o.digest = record { op = o; stands = m; named = refl; lists = l } in
                  let q = depth_of F (closed F m l) in
                  let h = deeper F kid q.1 r in
                  f p l (o.digest ∷ ds) (goes (under p o.digest (run_in run) kid) kid run) (past (other q.1 (omega arith)) miss) q.0 q.1 (omega arith)

      through_alone : (y : ℕ) → S y → Depth G y k → y ≡ x
      through_alone y s r = go (ℕ_discrete y x)
        where
          go : Dec (y ≡ x) → y ≡ x
          go (yes e) = e
          go (no n) = let u = run_on s in absurd (caught s u.0 u.1 (past (λ e. n (sym e)) (after u.1 r (omega arith))) k r (omega arith))

      through_onward : (y : ℕ) → S y → (j : ℕ) → Depth G y j → j < k → (c : ℕ) × S c × Child G y c
      through_onward y s j r h = go (child_inside y)
        where
          go : ((c : ℕ) × S c × Child G y c) ⊎ ((c : ℕ) → S c → ¬ Child G y c) → (c : ℕ) × S c × Child G y c
          go (inl t) = t
          go (inr n) = absurd (caught s [] (ends s n) (past (other r (omega arith)) Memᴰ.not-nil) j r (omega arith))

      through_level : (y : ℕ) → S y → (j : ℕ) → Depth G y j → j < k → (c : ℕ) → S c → Child G y c → (i : ℕ) → Depth G c i → i ≤ k
      through_level y s j r h c t kid i q = go (dec_le i k)
        where
          go : Dec (i ≤ k) → i ≤ k
          go (yes l) = l
          go (no n) =
              let u = run_on t in
              absurd (caught s (c ∷ u.0) (goes s kid u.1) (past (other r (omega arith)) (past (other q (omega arith)) (after u.1 q (omega arith)))) j r (omega arith))

      pub through_layer : Layer G S x k
      through_layer = record { alone = through_alone; onward = through_onward; level = λ y s j r h c t kid i q. omega (arith, through_level y s j r h c t kid i q) }
