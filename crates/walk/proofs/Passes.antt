-- The passes, turn by turn.
-- Assumes nothing.
use Prim.Native.Nat.{ℕ, suc, max, ◌+◌, ◌<◌}
use native.Mathlib.Omega.{arith}
use native.Mathlib.Decide.{ℕ_discrete, dec_lt}
use mathlib.Core.Path.{◌≡◌, refl, sym, ◌∙◌}
use mathlib.Core.Logic.{◌⊎◌, inl, inr, ⊎_elim}
use mathlib.Core.List.{List}
use lib.ListN.{get_or, set, length}
use Rattle.store.specs.Layout.{count_of, pred_at}
use Rattle.walk.specs.Marks.{Ready, Paint, hit, miss, Painted}
use Rattle.walk.specs.Passes.{Picked, OneOf, Lists, SomeLists, Reached, start, step, Deepest}
use Rattle.walk.specs.declared.Pick.{Pick}
use Rattle.walk.proofs.Painting.{painted_as, painted_one, painted_two, ready_early}

-- one more of f 0, f 1, .. gets the mark
pub one_more : {f : ℕ → ℕ} {k v p : ℕ} {m u : List ℕ} → Painted (OneOf f k) v m u → p ≡ f k → p < length u → Painted (OneOf f (k + 1)) v m (set u p v)
one_more {f} {k} {v} {p} {u = u} w e l = painted_as into back (painted_two w (painted_one u p v l))
  where
    into : (j : ℕ) → OneOf f k j ⊎ (j ≡ p) → OneOf f (k + 1) j
    into j = ⊎_elim (λ o. record { nth = o.nth; below = omega (arith, o.below); there = o.there }) (λ x. record { nth = k; below = omega arith; there = sym (x ∙ e) })

    back : (j : ℕ) → OneOf f (k + 1) j → OneOf f k j ⊎ (j ≡ p)
    back j o = go (ℕ_discrete o.nth k)
      where
        go : Dec (o.nth ≡ k) → OneOf f k j ⊎ (j ≡ p)
        go (yes x) = inr (sym (rw x at o.there) ∙ sym e)
        go (no n) = inl (record { nth = o.nth; below = omega (arith, o.below, n); there = o.there })

module _ {p : Pick} {s : List ℕ} {i : ℕ} where
  listed_wider : (j : ℕ) → SomeLists p s i j → SomeLists p s (i + 1) j
  listed_wider j l = record { by = l.by; below = omega (arith, l.below); picked = l.picked; lists = l.lists }

  listed_split : (j : ℕ) → SomeLists p s (i + 1) j → SomeLists p s i j ⊎ (Picked p s i × Lists s i j)
  listed_split j l = go (ℕ_discrete l.by i)
    where
      go : Dec (l.by ≡ i) → SomeLists p s i j ⊎ (Picked p s i × Lists s i j)
      go (yes e) = inr (rw e at l.picked, rw e at l.lists)
      go (no n) = inl (record { by = l.by; below = omega (arith, l.below, n); picked = l.picked; lists = l.lists })

  -- record i is picked, and what it lists gets the mark; or it isn't
  pub listed_more : {m m' u : List ℕ} {v : ℕ} → Picked p s i → Painted (SomeLists p s i) v m m' → Painted (Lists s i) v m' u → Painted (SomeLists p s (i + 1)) v m u
  listed_more x w q = painted_as into back (painted_two w q)
    where
      into : (j : ℕ) → SomeLists p s i j ⊎ Lists s i j → SomeLists p s (i + 1) j
      into j (inl l) = listed_wider j l
      into j (inr l) = record { by = i; below = omega arith; picked = x; lists = l }

      drop : (j : ℕ) → SomeLists p s i j ⊎ (Picked p s i × Lists s i j) → SomeLists p s i j ⊎ Lists s i j
      drop j (inl l) = inl l
      drop j (inr l) = inr l.1

      back : (j : ℕ) → SomeLists p s (i + 1) j → SomeLists p s i j ⊎ Lists s i j
      back j l = drop j (listed_split j l)

  pub listed_skip : {m m' : List ℕ} {v : ℕ} → ¬ Picked p s i → Painted (SomeLists p s i) v m m' → Painted (SomeLists p s (i + 1)) v m m'
  listed_skip x w = painted_as listed_wider back w
    where
      drop : (j : ℕ) → SomeLists p s i j ⊎ (Picked p s i × Lists s i j) → SomeLists p s i j
      drop j (inl l) = l
      drop j (inr l) = absurd (x l.0)

      back : (j : ℕ) → SomeLists p s (i + 1) j → SomeLists p s i j
      back j l = drop j (listed_split j l)

-- spreading: the records from i on are done
module _ {p : Pick} {s m : List ℕ} {r : ℕ} (R : Ready s r) where
  reached_wider : {i j : ℕ} → Reached p s m (suc i) j → Reached p s m i j
  reached_wider (start e) = start e
  reached_wider (step x h l q y) = step (reached_wider x) (omega arith) l q y

  reached_split : {i j : ℕ} → Reached p s m i j → Reached p s m (suc i) j ⊎ (Reached p s m (suc i) i × Picked p s i × Lists s i j)
  reached_split (start e) = inl (start e)
  reached_split {i} {j} (step {k = k} x h l q y) = go (ℕ_discrete k i) (reached_split x)
    where
      go : Dec (k ≡ i) → Reached p s m (suc i) k ⊎ (Reached p s m (suc i) i × Picked p s i × Lists s i k) → Reached p s m (suc i) j ⊎ (Reached p s m (suc i) i × Picked p s i × Lists s i j)
      go (yes e) (inl z) = inr (rw e at z, rw e at q, rw e at y)
      go (no n) (inl z) = inl (step z (omega arith) l q y)
      go (yes e) (inr z) = inr (z.0, rw e at q, rw e at y)
      go (no n) (inr z) = absurd (omega (arith, n, ready_early R i (omega arith) z.2.nth z.2.below, z.2.there))

  pub spread_start : Painted (Reached p s m (count_of s)) 1 m m
  spread_start = record { size = refl; each = λ j. go j (ℕ_discrete (get_or m j 0) 1) }
    where
      only : {j : ℕ} → Reached p s m (count_of s) j → get_or m j 0 ≡ 1
      only (start e) = e
      only (step x h l q y) = absurd (omega arith)

      go : (j : ℕ) → Dec (get_or m j 0 ≡ 1) → Paint (Reached p s m (count_of s) j) 1 (get_or m j 0) (get_or m j 0)
      go j (yes e) = hit (start e) e
      go j (no n) = miss (λ x. n (only x)) refl

  -- a mark at i is a place that is reached
  pub spread_on : {m' : List ℕ} {i j : ℕ} → Painted (Reached p s m i) 1 m m' → get_or m' j 0 ≡ 1 → Reached p s m i j
  spread_on {m'} {i} {j} w e = go (w.each j)
    where
      go : Paint (Reached p s m i j) 1 (get_or m j 0) (get_or m' j 0) → Reached p s m i j
      go (hit x e') = x
      go (miss n e') = start (sym e' ∙ e)

  pub spread_more : {m' u : List ℕ} {i : ℕ} → i < count_of s → Painted (Reached p s m (suc i)) 1 m m' → get_or m' i 0 ≡ 1 → Picked p s i → Painted (Lists s i) 1 m' u → Painted (Reached p s m i) 1 m u
  spread_more {m'} {u} {i} h w e q l = painted_as into back (painted_two w l)
    where
      into : (j : ℕ) → Reached p s m (suc i) j ⊎ Lists s i j → Reached p s m i j
      into j (inl x) = reached_wider x
      into j (inr y) = step (reached_wider (spread_on w e)) (omega arith) h q y

      drop : (j : ℕ) → Reached p s m (suc i) j ⊎ (Reached p s m (suc i) i × Picked p s i × Lists s i j) → Reached p s m (suc i) j ⊎ Lists s i j
      drop j (inl x) = inl x
      drop j (inr x) = inr x.2

      back : (j : ℕ) → Reached p s m i j → Reached p s m (suc i) j ⊎ Lists s i j
      back j x = drop j (reached_split x)

  pub spread_skip : {m' : List ℕ} {i : ℕ} → (get_or m' i 0 ≡ 1 → ¬ Picked p s i) → Painted (Reached p s m (suc i)) 1 m m' → Painted (Reached p s m i) 1 m m'
  spread_skip {m'} {i} n w = painted_as (λ j x. reached_wider x) back w
    where
      on : Paint (Reached p s m (suc i) i) 1 (get_or m i 0) (get_or m' i 0) → Reached p s m (suc i) i → get_or m' i 0 ≡ 1
      on (hit x e) y = e
      on (miss z e) y = absurd (z y)

      drop : (j : ℕ) → Reached p s m (suc i) j ⊎ (Reached p s m (suc i) i × Picked p s i × Lists s i j) → Reached p s m (suc i) j
      drop j (inl x) = x
      drop j (inr x) = absurd (n (on (w.each i) x.0) x.1)

      back : (j : ℕ) → Reached p s m i j → Reached p s m (suc i) j
      back j x = drop j (reached_split x)

-- one slot more: its depth and one, where that is deeper
pub deepest_max : (s : List ℕ) (i : ℕ) (m : List ℕ) (k r : ℕ) → Deepest s i m k r → Deepest s i m (k + 1) (max r (get_or m (pred_at s i k) 0 + 1))
deepest_max s i m k r h = record { above = λ x l. above x l (ℕ_discrete x k); reached = inr (reached h.reached (dec_lt (get_or m (pred_at s i k) 0) r)) }
  where
    most : ℕ
    most = max r (get_or m (pred_at s i k) 0 + 1)

    above : (x : ℕ) → x < k + 1 → Dec (x ≡ k) → get_or m (pred_at s i x) 0 < most
    above x l (yes e) = rw e (omega arith)
    above x l (no n) = omega (arith, h.above x (omega arith))

    reached : ((k ≡ 0) × (r ≡ 0)) ⊎ ((x : ℕ) × (x < k) × (get_or m (pred_at s i x) 0 + 1 ≡ r)) → Dec (get_or m (pred_at s i k) 0 < r) → (x : ℕ) × (x < k + 1) × (get_or m (pred_at s i x) 0 + 1 ≡ most)
    reached (inl z) (yes l) = absurd (omega (arith, l, z.1))
    reached (inr x) (yes l) = (x.0, omega (arith, x.1), omega (arith, x.2))
    reached a (no n) = (k, omega arith, omega arith)
