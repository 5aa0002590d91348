-- A graph that admissions leave is a well-formed one within the limits, and each such graph is one.
-- Assumes nothing.
use Prim.Native.Nat.{ℕ, zero, suc, ◌+◌, ◌≤◌, ◌<◌}
use native.Mathlib.Omega.{arith}
use native.Mathlib.Decide.{dec_lt}
use mathlib.Core.Path.{◌≡◌, refl, sym, ◌∙◌, ap, subst}
use mathlib.Core.Logic.{◌⊎◌, inl, inr}
use mathlib.Core.List.{List, [], ◌∷◌, ◌++◌}
use lib.ListN.{length, take, length-append, length-take, get_or-append}
use lib.Seq.{take-suc, take-length, get_or-take, get_or-append-add}
use Rattle.rules.specs.Admission.{Admissible, Grown, fresh, admit}
use Rattle.rules.specs.Graph.{Op, Proper, Held}
use Rattle.rules.specs.Lists.{◌∈◌}
use Rattle.rules.specs.Table.{Limits}
use Rattle.rules.proofs.Formed.{no_op, op_at, Formed}
use Rattle.rules.proofs.Lists.{at_in, in_at}

module _ (G : List Op) (o : Op) where
  abbrev all : List Op
  all = G ++ (o ∷ [])

  size : length all ≡ length G + 1
  size = length-append G (o ∷ [])

  old : (i : ℕ) → i < length G → op_at all i ≡ op_at G i
  old i h = get_or-append G (o ∷ []) no_op i h

  new : (i : ℕ) → i ≡ length G → op_at all i ≡ o
  new i e = ap (op_at all) {x = i} {y = length G + 0} (omega arith) ∙ get_or-append-add G (o ∷ []) 0 no_op

  -- a place of the longer list is an old one or the last
  split : (i : ℕ) → i < length all → (i < length G) ⊎ (i ≡ length G)
  split i h = go (dec_lt i (length G))
    where
      go : Dec (i < length G) → (i < length G) ⊎ (i ≡ length G)
      go (yes l) = inl l
      go (no n) = inr (omega (arith, size))

module _ {G : List Op} {o : Op} (F : Formed G) (A : Admissible G o) where
  held_at : (i : ℕ) → i < length G → Held G (op_at G i).digest
  held_at i h = record { op = op_at G i; stands = at_in no_op G i h; named = refl }

  fresh_at : (i : ℕ) → i < length G → ¬ ((op_at G i).digest ≡ o.digest)
  fresh_at i h e = A.fresh (subst (λ d. Held G d) e (held_at i h))

  grow_distinct : (i j : ℕ) → i < length (all G o) → j < length (all G o) → (op_at (all G o) i).digest ≡ (op_at (all G o) j).digest → i ≡ j
  grow_distinct i j hi hj e = go (split G o i hi) (split G o j hj)
    where
      go : (i < length G) ⊎ (i ≡ length G) → (j < length G) ⊎ (j ≡ length G) → i ≡ j
      go (inl a) (inl b) = F.distinct i j a b (rw (old G o i a, old G o j b) at e)
      go (inl a) (inr b) = absurd (fresh_at i a (rw (old G o i a, new G o j b) at e))
      go (inr a) (inl b) = absurd (fresh_at j b (sym (rw (new G o i a, old G o j b) at e)))
      go (inr a) (inr b) = omega arith

  grow_earlier : (i p : ℕ) → i < length (all G o) → p ∈ (op_at (all G o) i).preds → (j : ℕ) × (j < i) × ((op_at (all G o) j).digest ≡ p)
  grow_earlier i p hi m = go (split G o i hi)
    where
      go : (i < length G) ⊎ (i ≡ length G) → (j : ℕ) × (j < i) × ((op_at (all G o) j).digest ≡ p)
      go (inl a) =
          let r = F.earlier i p a (rw (old G o i a) at m) in
          (r.0, r.1, rw (old G o r.0 (omega arith)) r.2)
      go (inr a) =
          let h = A.known p (rw (new G o i a) at m) in
          let t = in_at no_op h.stands in
          (t.0, omega arith, rw (old G o t.0 t.1, t.2) h.named)

  grow_rooted : (i : ℕ) → i < length (all G o) → (op_at (all G o) i).preds ≡ [] → (op_at (all G o) i).kind ≡ 0
  grow_rooted i hi e = go (split G o i hi)
    where
      go : (i < length G) ⊎ (i ≡ length G) → (op_at (all G o) i).kind ≡ 0
      go (inl a) = rw (old G o i a) (F.rooted i a (rw (old G o i a) at e))
      go (inr a) = rw (new G o i a) (A.rooted (rw (new G o i a) at e))

  grow_proper : (i : ℕ) → i < length (all G o) → Proper (op_at (all G o) i)
  grow_proper i hi = go (split G o i hi)
    where
      go : (i < length G) ⊎ (i ≡ length G) → Proper (op_at (all G o) i)
      go (inl a) = rw (old G o i a) (F.proper i a)
      go (inr a) = rw (new G o i a) A.proper

  pub formed_more : Formed (G ++ (o ∷ []))
  formed_more = record { distinct = grow_distinct; earlier = grow_earlier; rooted = grow_rooted; proper = grow_proper }

pub formed_none : Formed []
formed_none = record { distinct = λ i j h k e. absurd (omega arith); earlier = λ i p h m. absurd (omega arith); rooted = λ i h e. absurd (omega arith); proper = λ i h. absurd (omega arith) }

pub grown_formed : {L : Limits} {G : List Op} → Grown L G → Formed G
grown_formed fresh = formed_none
grown_formed (admit g a few room) = formed_more (grown_formed g) a

-- within the limits
pub record InLimits (L : Limits) (G : List Op) : Type 0 where
  pub few : (i : ℕ) → i < length G → length (op_at G i).preds ≤ L.predecessors
  pub room : length G ≤ L.operations

pub grown_fits : {L : Limits} {G : List Op} → Grown L G → InLimits L G
grown_fits fresh = record { few = λ i h. absurd (omega arith); room = omega arith }
grown_fits {L} (admit {G = G} {o = o} g a few room) = record { few = λ i h. go i (grown_fits g) (split G o i h); room = omega (arith, size G o) }
  where
    go : (i : ℕ) → InLimits L G → (i < length G) ⊎ (i ≡ length G) → length (op_at (all G o) i).preds ≤ L.predecessors
    go i w (inl h) = rw (old G o i h) (w.few i h)
    go i w (inr h) = rw (new G o i h) few

module _ {G : List Op} (F : Formed G) where
  held_take : (i j : ℕ) → i ≤ length G → j < i → Held (take i G) (op_at G j).digest
  held_take i j h k =
      let l : j < length (take i G) = omega (arith, length-take i G) in
      record { op = op_at G j; stands = rw (get_or-take i G j no_op) at (at_in no_op (take i G) j l); named = refl }

  next : (i : ℕ) → i < length G → Admissible (take i G) (op_at G i)
  next i h =
      record {
        fresh = λ k.
            let t = in_at no_op k.stands in
            let l : t.0 < i = omega (arith, length-take i G) in
            let e : t.0 ≡ i = F.distinct t.0 i (omega arith) h (rw (← get_or-take i G t.0 no_op l, t.2) k.named) in
            omega arith;
        known = λ p m. let r = F.earlier i p h m in subst (λ d. Held (take i G) d) r.2 (held_take i r.0 (omega arith) r.1);
        rooted = F.rooted i h;
        proper = F.proper i h;
      }

  take_grown : {L : Limits} → InLimits L G → (i : ℕ) → i ≤ length G → Grown L (take i G)
  take_grown w zero h = fresh
  take_grown w (suc i) h = rw (take-suc G i no_op (omega arith)) (admit (take_grown w i (omega arith)) (next i (omega arith)) (w.few i (omega arith)) (omega (arith, length-take i G, w.room)))

  pub formed_grown : {L : Limits} → InLimits L G → Grown L G
  formed_grown w = rw (take-length G) at (take_grown w (length G) (omega arith))
