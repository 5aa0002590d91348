-- What the walks leave, told of digests.
-- Assumes nothing.
use Prim.Native.Nat.{ℕ, suc, ◌+◌, ◌≤◌, ◌<◌}
use native.Mathlib.Omega.{arith}
use native.Mathlib.Decide.{ℕ_discrete}
use mathlib.Core.Path.{◌≡◌, refl, sym, ◌∙◌, ap, subst}
use mathlib.Core.Logic.{◌⊎◌, inl, inr}
use mathlib.Core.List.{List}
use lib.ListN.{length, get_or, set, length-set}
use lib.Seq.{get_or-set_same, get_or-set_other}
use Rattle.store.specs.Layout.{count_of, digest_at, kind_at, preds_at, pred_at, op_of, ops_of}
use Rattle.rules.specs.Batches.{Mark, marked, unmarked}
use Rattle.rules.specs.Graph.{Child, Head, InPast, Depth, bottom, above}
use Rattle.rules.specs.Lists.{◌∈◌}
use Rattle.rules.specs.Updates.{Met, from_list, behind, Update, Nearest, Chainable}
use Rattle.store.proofs.Ops.{no_preds}
use Rattle.rules.proofs.Bytes.{row_in, in_row}
use Rattle.rules.proofs.Past.{Reach, starts, steps, reach_past, past_reach, reach_met, met_reach}
use Rattle.walk.specs.Marks.{Ready, Paint, hit, miss, Painted, Tells, Told}
use Rattle.walk.specs.Passes.{Passes, Lists, SomeLists, Reached, start, step, Plain, Deepest, Moved}
use Rattle.walk.specs.declared.Pick.{Pick}
use Rattle.walk.specs.declared.Pick.TheVariants.{All, Updates, Others}
use Rattle.walk.proofs.Painting.{ready_early, Marking}
use Rattle.walk.proofs.Places.{op_at_lem, held_at, place_of, one_place, op_here, lists_early, lists_in, in_lists}

pub paint_hit : {P : Type 0} {v a b : ℕ} → Paint P v a b → P → b ≡ v
paint_hit (hit p e) q = e
paint_hit (miss n e) q = absurd (n q)

pub paint_miss : {P : Type 0} {v a b : ℕ} → Paint P v a b → ¬ P → b ≡ a
paint_miss (hit p e) n = absurd (n p)
paint_miss (miss m e) n = e

pub mark_as : {P Q : Type 0} {m : ℕ} → (P → Q) → (Q → P) → Mark P m → Mark Q m
mark_as f g (marked e p) = marked e (f p)
mark_as f g (unmarked e n) = unmarked e (λ q. n (g q))

pub mark_on : {P : Type 0} {m : ℕ} → Mark P m → m ≡ 1 → P
mark_on (marked e p) o = p
mark_on (unmarked e n) o = absurd (omega arith)

pub mark_off : {P : Type 0} {m : ℕ} → Mark P m → ¬ (m ≡ 1) → m ≡ 0
mark_off (marked e p) o = absurd (o e)
mark_off (unmarked e n) o = e

pub on_mark : {P : Type 0} {m : ℕ} → Mark P m → P → m ≡ 1
on_mark (marked e p) o = e
on_mark (unmarked e n) o = absurd (n o)

module _ {s : List ℕ} {r : ℕ} (R : Ready s r) where
  pub heads_told : {m u m' : List ℕ} → Painted (λ j. j < count_of s) 1 m u → Painted (SomeLists All s (count_of s)) 0 u m' → Told s (Head (ops_of s)) m m'
  heads_told {m} {u} {m'} a b =
      record {
        size = b.size ∙ a.size;
        tells = record { each = λ j h. go j h (b.each j) };
        rest = λ j h. paint_miss (b.each j) (λ l. omega (arith, l.below, lists_early R l.by j l.below l.lists)) ∙ paint_miss (a.each j) (λ l. omega arith);
      }
    where
      go : (j : ℕ) → j < count_of s → Paint (SomeLists All s (count_of s) j) 0 (get_or u j 0) (get_or m' j 0) → Mark (Head (ops_of s) (digest_at s j)) (get_or m' j 0)
      go j h (hit l e) = unmarked e (λ k. k.childless (digest_at s l.by) (record { op = op_of s l.by; stands = op_at_lem R l.by l.below; named = refl; lists = lists_in R l.by j l.lists }))
      go j h (miss n e) =
          marked
          (e ∙ paint_hit (a.each j) h)
          (record {
            held = held_at R j h;
            childless = λ c k.
                let p = place_of R k.stands in
                n (record { by = p.0; below = p.1; picked = tt; lists = in_lists R p.0 j p.1 h (subst (λ o. digest_at s j ∈ o.preds) (sym p.2) k.lists) });
          })

  -- marks on the digests of a list: what is reached from them
  module _ {p : Pick} {ds m : List ℕ} (T : Tells s (λ d. d ∈ ds) m) where
    reached_reach : {j : ℕ} → Reached p s m 0 j → j < count_of s → Reach (ops_of s) (Passes p) ds (digest_at s j)
    reached_reach {j} (start e) h = starts (mark_on (T.each j h) e)
    reached_reach {j} (step {k = k} x l b q y) h = steps (op_of s k) (op_at_lem R k b) q (lists_in R k j y) (reached_reach x b)

    reach_reached : {d : ℕ} → Reach (ops_of s) (Passes p) ds d → (j : ℕ) → j < count_of s → digest_at s j ≡ d → Reached p s m 0 j
    reach_reached (starts i) j h e = start (on_mark (T.each j h) (subst (λ x. x ∈ ds) (sym e) i))
    reach_reached (steps o i q l x) j h e =
        let a = place_of R i in
        step
        (reach_reached x a.0 a.1 (ap (λ o. o.digest) a.2))
        (omega arith)
        a.1
        (subst (Passes p) (sym a.2) q)
        (in_lists R a.0 j a.1 h (subst (λ o. digest_at s j ∈ o.preds) (sym a.2) (subst (λ x. x ∈ o.preds) (sym e) l)))

    pub reach_told : {m' : List ℕ} → Painted (Reached p s m 0) 1 m m' → Tells s (Reach (ops_of s) (Passes p) ds) m'
    reach_told {m'} w = record { each = λ j h. go j h (w.each j) }
      where
        go : (j : ℕ) → j < count_of s → Paint (Reached p s m 0 j) 1 (get_or m j 0) (get_or m' j 0) → Mark (Reach (ops_of s) (Passes p) ds (digest_at s j)) (get_or m' j 0)
        go j h (hit x e) = marked e (reached_reach x h)
        go j h (miss n e) = unmarked (e ∙ mark_off (T.each j h) (λ o. n (start o))) (λ x. n (reach_reached x j h refl))

  module _ {m m' : List ℕ} where
    -- marks past the operations stay
    reached_rest : {p : Pick} (j : ℕ) → count_of s ≤ j → Painted (Reached p s m 0) 1 m m' → get_or m' j 0 ≡ get_or m j 0
    reached_rest {p} j h w = go (w.each j)
      where
        only : Reached p s m 0 j → get_or m j 0 ≡ 1
        only (start e) = e
        only (step {k = k} x l b q y) = absurd (omega (arith, lists_early R k j b y))

        go : Paint (Reached p s m 0 j) 1 (get_or m j 0) (get_or m' j 0) → get_or m' j 0 ≡ get_or m j 0
        go (hit x e) = e ∙ sym (only x)
        go (miss n e) = e

    pub past_told : Painted (Reached All s m 0) 1 m m' → (ds : List ℕ) → Tells s (λ d. d ∈ ds) m → Told s (InPast (ops_of s) ds) m m'
    past_told w ds T =
        record {
          size = w.size;
          tells = record { each = λ j h. mark_as reach_past past_reach ((reach_told T w).each j h) };
          rest = λ j h. reached_rest j h w;
        }

    plain_rest : (j : ℕ) → count_of s ≤ j → Painted (Plain s (count_of s)) 0 m m' → get_or m' j 0 ≡ get_or m j 0
    plain_rest j h w = paint_miss (w.each j) (λ x. omega (arith, x.below))

  -- a held update stands where the kind is 2
  update_kind : (j : ℕ) → j < count_of s → Update (ops_of s) (digest_at s j) → kind_at s j ≡ 2
  update_kind j h u = ap (λ o. o.kind) (sym (op_here R j h u.held.stands u.held.named)) ∙ u.kind

  abbrev kind_update : (j : ℕ) → j < count_of s → kind_at s j ≡ 2 → Update (ops_of s) (digest_at s j)
  kind_update j h e = record { held = held_at R j h; kind = e }

  -- keeping the updates among P
  pub updates_told : {P : ℕ → Type 0} {u m' : List ℕ} → Tells s P u → Painted (Plain s (count_of s)) 0 u m' → Tells s (λ d. Update (ops_of s) d × P d) m'
  updates_told {P} {u} {m'} T w = record { each = λ j h. go j h (ℕ_discrete (kind_at s j) 2) }
    where
      go : (j : ℕ) → j < count_of s → Dec (kind_at s j ≡ 2) → Mark (Update (ops_of s) (digest_at s j) × P (digest_at s j)) (get_or m' j 0)
      go j h (no n) = unmarked (paint_hit (w.each j) (record { below = h; other = n })) (λ x. n (update_kind j h x.0))
      go j h (yes e) = rw (paint_miss (w.each j) (λ x. x.other e)) (mark_as (λ p. (kind_update j h e, p)) (λ x. x.1) (T.each j h))

  pub nearest_told : {m m' : List ℕ} → Moved s m m' → (ds : List ℕ) → Tells s (λ d. d ∈ ds) m → Told s (Nearest (ops_of s) ds) m m'
  nearest_told t ds T =
      let w = t.spread in
      let k = t.kept in
      record {
        size = k.size ∙ w.size;
        tells = record { each = λ j h. mark_as (λ x. record { update = x.0; met = reach_met x.1 }) (λ x. (x.update, met_reach x.met)) ((updates_told (reach_told T w) k).each j h) };
        rest = λ j h. plain_rest j h k ∙ reached_rest j h w;
      }

  module _ {m u c : List ℕ} (a : Painted (λ j. j < count_of s) 0 m u) (b : Painted (SomeLists Updates s (count_of s)) 1 u c) where
    seed_on : (j : ℕ) → j < count_of s → get_or c j 0 ≡ 1 → SomeLists Updates s (count_of s) j
    seed_on j h e = go (b.each j)
      where
        go : Paint (SomeLists Updates s (count_of s) j) 1 (get_or u j 0) (get_or c j 0) → SomeLists Updates s (count_of s) j
        go (hit l x) = l
        go (miss n x) = absurd (omega (arith, e, x, paint_hit (a.each j) h))

    reached_passed : {j : ℕ} → Reached Others s c 0 j → j < count_of s → (v : ℕ) × (v < count_of s) × (kind_at s v ≡ 2) × (j < v) × Met (ops_of s) (op_of s v).preds (digest_at s j)
    reached_passed {j} (start e) h =
        let l = seed_on j h e in
        (l.by, l.below, l.picked, lists_early R l.by j l.below l.lists, from_list (lists_in R l.by j l.lists))
    reached_passed {j} (step {k = k} x l b q y) h =
        let t = reached_passed x b in
        (t.0, t.1, t.2, omega (arith, t.3, lists_early R k j b y), behind t.4 (held_at R k b) q (lists_in R k j y))

    passed_reached : (v : ℕ) → v < count_of s → kind_at s v ≡ 2 → {d : ℕ} → Met (ops_of s) (op_of s v).preds d → (j : ℕ) → j < count_of s → digest_at s j ≡ d → Reached Others s c 0 j
    passed_reached v h k (from_list i) j l e = start (paint_hit (b.each j) (record { by = v; below = h; picked = k; lists = in_lists R v j h l (subst (λ x. x ∈ (op_of s v).preds) (sym e) i) }))
    passed_reached v h k (behind x t n i) j l e =
        let p = place_of R t.stands in
        step
        (passed_reached v h k x p.0 p.1 (ap (λ o. o.digest) p.2 ∙ t.named))
        (omega arith)
        p.1
        (subst (λ o. ¬ (o.kind ≡ 2)) (sym p.2) n)
        (in_lists R p.0 j p.1 l (subst (λ o. digest_at s j ∈ o.preds) (sym p.2) (subst (λ x. x ∈ t.op.preds) (sym e) i)))

    pub chainable_told : {m' : List ℕ} → Moved s c m' → Told s (Chainable (ops_of s)) m m'
    chainable_told {m'} t =
        record {
          size = t.kept.size ∙ t.spread.size ∙ b.size ∙ a.size;
          tells = record { each = λ j h. go j h (ℕ_discrete (kind_at s j) 2) };
          rest = λ j h.
              plain_rest j h t.kept ∙ reached_rest j h t.spread ∙ paint_miss (b.each j) (λ l. omega (arith, l.below, lists_early R l.by j l.below l.lists)) ∙ paint_miss (a.each j) (λ l. omega arith);
        }
      where
        -- it is passed by a later update
        on : (j : ℕ) → j < count_of s → kind_at s j ≡ 2 → Reached Others s c 0 j → Chainable (ops_of s) (digest_at s j)
        on j h e y =
            let z = reached_passed y h in
            record {
              update = kind_update j h e;
              passed = λ l.
                  l.last
                  (digest_at s z.0)
                  (kind_update z.0 z.1 z.2)
                  (λ q. let same = one_place R z.0 j z.1 h q in omega (arith, z.3, same))
                  (record { update = kind_update j h e; met = z.4 });
            }

        off : (j : ℕ) → j < count_of s → ¬ Reached Others s c 0 j → ¬ Chainable (ops_of s) (digest_at s j)
        off j h n y =
            y.passed
            (record {
              update = y.update;
              last = λ v w d q.
                  let p = place_of R w.held.stands in
                  n (passed_reached p.0 p.1 (ap (λ o. o.kind) p.2 ∙ w.kind) (subst (λ o. Met (ops_of s) o.preds (digest_at s j)) (sym p.2) q.met) j h refl);
            })

        kept : (j : ℕ) → j < count_of s → kind_at s j ≡ 2 → Paint (Reached Others s c 0 j) 1 (get_or c j 0) (get_or t.between j 0) → Mark (Chainable (ops_of s) (digest_at s j)) (get_or t.between j 0)
        kept j h e (hit y z) = marked z (on j h e y)
        kept j h e (miss n z) = unmarked (z ∙ paint_miss (b.each j) (λ l. n (start (paint_hit (b.each j) l))) ∙ paint_hit (a.each j) h) (off j h n)

        go : (j : ℕ) → j < count_of s → Dec (kind_at s j ≡ 2) → Mark (Chainable (ops_of s) (digest_at s j)) (get_or m' j 0)
        go j h (no n) = unmarked (paint_hit (t.kept.each j) (record { below = h; other = n })) (λ y. n (update_kind j h y.update))
        go j h (yes e) = rw (paint_miss (t.kept.each j) (λ y. y.other e)) (kept j h e (t.spread.each j))

  pub children_told : {m m' : List ℕ} (p : ℕ) → p < count_of s → Marking (λ j. Lists s j p) (count_of s) m m' → Told s (Child (ops_of s) (digest_at s p)) m m'
  children_told p h w = record { size = w.size; tells = record { each = λ j l. mark_as (into j l) (back j l) (w.each j l) }; rest = w.rest }
    where
      into : (j : ℕ) → j < count_of s → Lists s j p → Child (ops_of s) (digest_at s p) (digest_at s j)
      into j l x = record { op = op_of s j; stands = op_at_lem R j l; named = refl; lists = lists_in R j p x }

      back : (j : ℕ) → j < count_of s → Child (ops_of s) (digest_at s p) (digest_at s j) → Lists s j p
      back j l k = in_lists R j p l h (subst (λ o. digest_at s p ∈ o.preds) (op_here R j l k.stands k.named) k.lists)

-- depths: the first i are measured
pub record Measured (s : List ℕ) (i : ℕ) (m m' : List ℕ) : Type 0 where
  pub size : length m' ≡ length m
  pub each : (j : ℕ) → j < i → Depth (ops_of s) (digest_at s j) (get_or m' j 0)
  pub low : (j : ℕ) → j < i → get_or m' j 0 ≤ j
  pub rest : (j : ℕ) → i ≤ j → get_or m' j 0 ≡ get_or m j 0

module _ {s : List ℕ} {r : ℕ} (R : Ready s r) where
  depth_here : {m : List ℕ} (i r : ℕ) → i < count_of s → ((j : ℕ) → j < i → Depth (ops_of s) (digest_at s j) (get_or m j 0)) → Deepest s i m (preds_at s i) r → Depth (ops_of s) (digest_at s i) r
  depth_here {m} i r h f d = go d.reached
    where
      slot : (q : ℕ) → q ∈ (op_of s i).preds → (k : ℕ) × (k < preds_at s i) × (digest_at s (pred_at s i k) ≡ q)
      slot q l = in_row 0 (preds_at s i) (λ k. digest_at s (pred_at s i k)) q l

      go : ((preds_at s i ≡ 0) × (r ≡ 0)) ⊎ ((k : ℕ) × (k < preds_at s i) × (get_or m (pred_at s i k) 0 + 1 ≡ r)) → Depth (ops_of s) (digest_at s i) r
      go (inl z) = rw z.1 (bottom (held_at R i h) (no_preds s i z.0))
      go (inr x) =
          let e : suc (get_or m (pred_at s i x.0) 0) ≡ r = omega (arith, x.2) in
          rw (sym e)
          (above
          (held_at R i h)
          (row_in 0 (preds_at s i) (λ k. digest_at s (pred_at s i k)) x.0 x.1)
          (f (pred_at s i x.0) (ready_early R i h x.0 x.1))
          (λ q l. get_or m (pred_at s i (slot q l).0) 0)
          (λ q l. omega (arith, d.above (slot q l).0 (slot q l).1, e))
          (λ q l. subst (λ y. Depth (ops_of s) y (get_or m (pred_at s i (slot q l).0) 0)) (slot q l).2 (f (pred_at s i (slot q l).0) (ready_early R i h (slot q l).0 (slot q l).1))))

  pub measured_more : {m m' : List ℕ} (i r : ℕ) → i < count_of s → i < length m' → r ≤ i → Deepest s i m' (preds_at s i) r → Measured s i m m' → Measured s (i + 1) m (set m' i r)
  measured_more {m} {m'} i r h b l d w =
      record {
        size = length-set m' i r ∙ w.size;
        each = λ j x. each j x (ℕ_discrete j i);
        low = λ j x. low j x (ℕ_discrete j i);
        rest = λ j x. get_or-set_other m' i j r 0 (λ e. omega arith) ∙ w.rest j (omega arith);
      }
    where
      each : (j : ℕ) → j < i + 1 → Dec (j ≡ i) → Depth (ops_of s) (digest_at s j) (get_or (set m' i r) j 0)
      each j x (yes e) = rw e (rw (get_or-set_same m' i r 0 b) (depth_here i r h w.each d))
      each j x (no n) = rw (get_or-set_other m' i j r 0 n) (w.each j (omega arith))

      low : (j : ℕ) → j < i + 1 → Dec (j ≡ i) → get_or (set m' i r) j 0 ≤ j
      low j x (yes e) = rw e (rw (get_or-set_same m' i r 0 b) l)
      low j x (no n) = rw (get_or-set_other m' i j r 0 n) (w.low j (omega arith))
