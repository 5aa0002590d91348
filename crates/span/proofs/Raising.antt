-- Raising the numbers of listed places, turn by turn, and that it leaves one outcome.
-- Assumes nothing.
use Prim.Native.Nat.{ℕ, max, ◌+◌, ◌≤◌, ◌<◌}
use native.Mathlib.Omega.{arith}
use native.Mathlib.Decide.{ℕ_discrete, dec_lt}
use mathlib.Core.Path.{◌≡◌, refl, sym, ◌∙◌, ap}
use mathlib.Core.Logic.{◌⊎◌, inl, inr}
use mathlib.Core.List.{List}
use lib.ListN.{length, get_or, set, length-set}
use lib.Seq.{get_or-set_same, get_or-set_other, ext_get_or}
use Rattle.walk.specs.Passes.{OneOf, Lists}
use Rattle.span.specs.Far.{Lift, lifted, kept, Lifted, Raised}

lift_least : {P : Type 0} {v a b : ℕ} → Lift P v a b → a ≤ b
lift_least (lifted p l e) = omega arith
lift_least (kept h e) = omega arith

lift_above : {P : Type 0} {v a b : ℕ} → Lift P v a b → P → v ≤ b
lift_above (lifted p l e) q = omega arith
lift_above (kept h e) q = omega (arith, h q)

-- one place more of those that g names
module _ (g : ℕ → ℕ) (c : ℕ) {v : ℕ} {f f' : List ℕ} (w : Lifted (OneOf g c) v f f') where
  wider : {j : ℕ} → OneOf g c j → OneOf g (c + 1) j
  wider a = record { nth = a.nth; below = omega (arith, a.below); there = a.there }

  split : {j : ℕ} → OneOf g (c + 1) j → OneOf g c j ⊎ (j ≡ g c)
  split {j} a = go (ℕ_discrete a.nth c)
    where
      go : Dec (a.nth ≡ c) → OneOf g c j ⊎ (j ≡ g c)
      go (yes e) = inr (sym a.there ∙ ap g e)
      go (no n) = inl (record { nth = a.nth; below = omega (arith, a.below, n); there = a.there })

  -- its number becomes v, if it is less
  pub lifted_max : g c < length f' → Lifted (OneOf g (c + 1)) v f (set f' (g c) (max (get_or f' (g c) 0) v))
  lifted_max h = record { size = length-set f' (g c) most ∙ w.size; each = λ j. go j (ℕ_discrete j (g c)) }
    where
      most : ℕ
      most = max (get_or f' (g c) 0) v

      here : Dec (get_or f (g c) 0 < v) → Lift (OneOf g c (g c)) v (get_or f (g c) 0) (get_or f' (g c) 0) → Lift (OneOf g (c + 1) (g c)) v (get_or f (g c) 0) most
      here d (lifted a x e) = lifted (wider a) x (omega arith)
      here (yes l) (kept x e) = lifted (record { nth = c; below = omega arith; there = refl }) l (omega arith)
      here (no n) (kept x e) = kept (λ a. omega arith) (omega arith)

      other : (j : ℕ) → ¬ (j ≡ g c) → {b : ℕ} → b ≡ get_or f' j 0 → Lift (OneOf g c j) v (get_or f j 0) (get_or f' j 0) → Lift (OneOf g (c + 1) j) v (get_or f j 0) b
      other j n q (lifted a x e) = lifted (wider a) x (q ∙ e)
      other j n q (kept x e) = kept (λ a. elim (split a) [ inl b ↦ x b | inr b ↦ absurd (n b) ]) (q ∙ e)

      go : (j : ℕ) → Dec (j ≡ g c) → Lift (OneOf g (c + 1) j) v (get_or f j 0) (get_or (set f' (g c) most) j 0)
      go j (yes e) = rw e (rw (get_or-set_same f' (g c) most 0 h) (here (dec_lt (get_or f (g c) 0) v) (w.each (g c))))
      go j (no n) = other j n (get_or-set_other f' (g c) j most 0 n) (w.each j)

module _ {s m r f f' : List ℕ} {n : ℕ} (W : Raised s m r n f f') where
  -- record n is marked, and what it lists is raised
  pub raised_more : {u : List ℕ} → get_or m n 0 ≡ 1 → Lifted (Lists s n) (get_or r n 0) f' u → Raised s m r (n + 1) f u
  raised_more {u} e L =
      record {
        size = L.size ∙ W.size;
        least = λ j. omega (arith, W.least j, lift_least (L.each j));
        above = λ i j l q x. above i j l q x (ℕ_discrete i n);
        reached = λ j. reached j (L.each j) (W.reached j);
      }
    where
      above : (i j : ℕ) → i < n + 1 → get_or m i 0 ≡ 1 → Lists s i j → Dec (i ≡ n) → get_or r i 0 ≤ get_or u j 0
      above i j l q x (yes z) = rw z (lift_above (L.each j) (rw z at x))
      above i j l q x (no z) = omega (arith, W.above i j (omega arith) q x, lift_least (L.each j))

      reached : (j : ℕ) → Lift (Lists s n j) (get_or r n 0) (get_or f' j 0) (get_or u j 0) → (get_or f' j 0 ≡ get_or f j 0) ⊎ ((i : ℕ) × (i < n) × (get_or m i 0 ≡ 1) × Lists s i j × (get_or r i 0 ≡ get_or f' j 0)) → (get_or u j 0 ≡ get_or f j 0) ⊎ ((i : ℕ) × (i < n + 1) × (get_or m i 0 ≡ 1) × Lists s i j × (get_or r i 0 ≡ get_or u j 0))
      reached j (lifted x l q) t = inr (n, omega arith, e, x, sym q)
      reached j (kept x q) (inl t) = inl (q ∙ t)
      reached j (kept x q) (inr t) = inr (t.0, omega (arith, t.1), t.2, t.3, t.4 ∙ sym q)

  pub raised_skip : ¬ (get_or m n 0 ≡ 1) → Raised s m r (n + 1) f f'
  raised_skip e = record { size = W.size; least = W.least; above = λ i j l q x. above i j l q x (ℕ_discrete i n); reached = λ j. reached j (W.reached j) }
    where
      above : (i j : ℕ) → i < n + 1 → get_or m i 0 ≡ 1 → Lists s i j → Dec (i ≡ n) → get_or r i 0 ≤ get_or f' j 0
      above i j l q x (yes z) = absurd (e (rw z at q))
      above i j l q x (no z) = W.above i j (omega arith) q x

      reached : (j : ℕ) → (get_or f' j 0 ≡ get_or f j 0) ⊎ ((i : ℕ) × (i < n) × (get_or m i 0 ≡ 1) × Lists s i j × (get_or r i 0 ≡ get_or f' j 0)) → (get_or f' j 0 ≡ get_or f j 0) ⊎ ((i : ℕ) × (i < n + 1) × (get_or m i 0 ≡ 1) × Lists s i j × (get_or r i 0 ≡ get_or f' j 0))
      reached j (inl t) = inl t
      reached j (inr t) = inr (t.0, omega (arith, t.1), t.2, t.3, t.4)

-- raising leaves one outcome
raised_no_more : {s m r f f' u : List ℕ} {n : ℕ} → Raised s m r n f f' → Raised s m r n f u → (j : ℕ) → get_or f' j 0 ≤ get_or u j 0
raised_no_more {s} {m} {r} {f} {f'} {u} {n} W X j = go (W.reached j)
  where
    go : (get_or f' j 0 ≡ get_or f j 0) ⊎ ((i : ℕ) × (i < n) × (get_or m i 0 ≡ 1) × Lists s i j × (get_or r i 0 ≡ get_or f' j 0)) → get_or f' j 0 ≤ get_or u j 0
    go (inl e) = omega (arith, X.least j)
    go (inr t) = omega (arith, t.4, X.above t.0 j t.1 t.2 t.3)

pub raised_unique : {s m r f f' u : List ℕ} {n : ℕ} → Raised s m r n f f' → Raised s m r n f u → f' ≡ u
raised_unique {f' = f'} {u = u} W X = ext_get_or 0 f' u (W.size ∙ sym X.size) (λ j l. omega (arith, raised_no_more W X j, raised_no_more X W j))
