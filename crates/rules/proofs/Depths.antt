-- Every operation of a well-formed graph has one depth.
-- Assumes nothing.
use Prim.Native.Nat.{ℕ, zero, suc, ◌≤◌, ◌<◌}
use native.Mathlib.Omega.{arith}
use native.Mathlib.Decide.{dec_le}
use mathlib.Core.Path.{◌≡◌, refl, sym, ◌∙◌, ap, subst}
use mathlib.Core.Logic.{◌⊎◌, inl, inr}
use mathlib.Core.List.Memᴰ
use mathlib.Core.List.{List, [], ◌∷◌}
use lib.ListN.{length}
use Rattle.rules.specs.Graph.{Op, Held, Depth, bottom, above}
use Rattle.rules.specs.Lists.{◌∈◌}
use Rattle.rules.proofs.Formed.{no_op, op_at, Formed, one_op, by_preds}
use Rattle.rules.proofs.Lists.{at_in, in_at}

-- the greatest number that R gives a member of a list
pub record Greatest (R : ℕ → ℕ → Type 0) (ps : List ℕ) : Type 0 where
  pub who : ℕ
  pub stands : who ∈ ps
  pub value : ℕ
  pub has : R who value
  pub least : (q : ℕ) → q ∈ ps → (j : ℕ) × (j ≤ value) × R q j

unfoldable pub greatest : (R : ℕ → ℕ → Type 0) (ps : List ℕ) → ((q : ℕ) → q ∈ ps → (k : ℕ) × R q k) → (ps ≡ []) ⊎ Greatest R ps
greatest R [] f = inl refl
greatest R (y ∷ ys) f = inr (go (greatest R ys (λ q m. f q (Memᴰ.tail m))))
  where
    k : ℕ
    k = (f y (Memᴰ.head refl)).0

    r : R y k
    r = (f y (Memᴰ.head refl)).1

    put : (v : ℕ) → k ≤ v → ((q : ℕ) → q ∈ ys → (j : ℕ) × (j ≤ v) × R q j) → (q : ℕ) → (q ≡ y) ⊎ (q ∈ ys) → (j : ℕ) × (j ≤ v) × R q j
    put v h g q (inl e) = (k, h, subst (λ x. R x k) (sym e) r)
    put v h g q (inr m) = g q m

    test : (g : Greatest R ys) → Dec (k ≤ g.value) → Greatest R (y ∷ ys)
    test g (yes h) = record { who = g.who; stands = Memᴰ.tail g.stands; value = g.value; has = g.has; least = λ q m. put g.value h g.least q (Memᴰ.cases_cons m) }
    test g (no h) =
        record { who = y; stands = Memᴰ.head refl; value = k; has = r; least = λ q m. put k (omega arith) (λ q' m'. let t = g.least q' m' in (t.0, omega arith, t.2)) q (Memᴰ.cases_cons m) }

    go : (ys ≡ []) ⊎ Greatest R ys → Greatest R (y ∷ ys)
    go (inl e) = record { who = y; stands = Memᴰ.head refl; value = k; has = r; least = λ q m. put k (omega arith) (λ q' m'. absurd (Memᴰ.not-nil (subst (λ l. q' ∈ l) e m'))) q (Memᴰ.cases_cons m) }
    go (inr g) = test g (dec_le k g.value)

module _ {G : List Op} (F : Formed G) where
  unfoldable pub depth_of : {d : ℕ} → Held G d → (k : ℕ) × Depth G d k
  depth_of h = by_preds F (λ d. (k : ℕ) × Depth G d k) step h
    where
      step : (o : Op) → o ∈ G → ((p : ℕ) → p ∈ o.preds → (k : ℕ) × Depth G p k) → (k : ℕ) × Depth G o.digest k
      step o m f = go (greatest (Depth G) o.preds f)
        where
          here : Held G o.digest
          here = record { op = o; stands = m; named = refl }

          go : (o.preds ≡ []) ⊎ Greatest (Depth G) o.preds → (k : ℕ) × Depth G o.digest k
          go (inl e) = (0, bottom here e)
          go (inr g) = (suc g.value, above here g.stands g.has (λ q n. (g.least q n).0) (λ q n. (g.least q n).1) (λ q n. (g.least q n).2))

  pub same_preds : {d : ℕ} (h k : Held G d) (p : ℕ) → p ∈ h.op.preds → p ∈ k.op.preds
  same_preds h k p m = subst (λ o. p ∈ o.preds) (one_op F h.stands k.stands (h.named ∙ sym k.named)) m

  pub no_preds : {d : ℕ} (h k : Held G d) → h.op.preds ≡ [] → (p : ℕ) → p ∈ k.op.preds → ⊥
  no_preds h k e p m = Memᴰ.not-nil (subst (λ l. p ∈ l) e (same_preds k h p m))

  pub depth_unique : {d k j : ℕ} → Depth G d k → Depth G d j → k ≡ j
  depth_unique (bottom h e) (bottom h' e') = refl
  depth_unique (bottom h e) (above {p = p} h' m' r' f' l' g') = absurd (no_preds h h' e p m')
  depth_unique (above {p = p} h m r f l g) (bottom h' e') = absurd (no_preds h' h e' p m)
  depth_unique (above {p = p} {k = k} h m r f l g) (above {p = p'} {k = k'} h' m' r' f' l' g') =
      let n = same_preds h h' p m in
      let n' = same_preds h' h p' m' in
      let a : k ≡ f' p n = depth_unique r (g' p n) in
      let b : f p' n' ≡ k' = depth_unique (g p' n') r' in
      omega (arith, l' p n, l p' n')

  -- a depth is at most the place
  depth_place : (n i : ℕ) → i < n → i < length G → {k : ℕ} → Depth G (op_at G i).digest k → k ≤ i
  depth_place zero i a b r = absurd (omega arith)
  depth_place (suc n) i a b (bottom h e) = omega arith
  depth_place (suc n) i a b (above {p = p} {k = k} h m r f l g) =
      let e = F.earlier i p b (subst (λ o. p ∈ o.preds) (one_op F h.stands (at_in no_op G i b) h.named) m) in
      let q : k ≤ e.0 = depth_place n e.0 (omega arith) (omega arith) (subst (λ d. Depth G d k) (sym e.2) r) in
      omega arith

  -- a depth is less than the number of operations
  pub depth_below : {d k : ℕ} → Depth G d k → k < length G
  depth_below {d} {k} r =
      let a = in_at no_op (held r).stands in
      let q : k ≤ a.0 = depth_place (suc a.0) a.0 (omega arith) a.1 (subst (λ x. Depth G x k) (sym (ap (λ o. o.digest) a.2 ∙ (held r).named)) r) in
      omega arith
    where
      held : {d k : ℕ} → Depth G d k → Held G d
      held (bottom h e) = h
      held (above h m s f l g) = h
