-- A lent list held against a store, digest by digest.
-- Assumes nothing.
use Prim.Native.Nat.{ℕ, ◌+◌, ◌/◌, ◌<◌}
use native.Mathlib.Omega.{arith}
use mathlib.Core.Path.{◌≡◌, refl, sym, ◌∙◌, ap, subst}
use mathlib.Core.Bool.{Bool}
use mathlib.Core.Logic.{◌⊎◌, inl, inr}
use mathlib.Core.List.Memᴰ
use mathlib.Core.List.{List, [], ◌∷◌}
use lib.ListN.{length, get_or, set}
use Rattle.store.specs.Layout.{count_of, digest_at, op_of, ops_of}
use Rattle.rules.specs.Answers.{Says}
use Rattle.rules.specs.Batches.{Mark, marked, unmarked}
use Rattle.rules.specs.Bytes.{digests_of}
use Rattle.rules.specs.Graph.{Held, InPast}
use Rattle.rules.specs.Lists.{◌∈◌, none}
use Rattle.rules.specs.Small.{AddBefore}
use Rattle.digest.specs.Lists.{nth, Among}
use Rattle.digest.proofs.Listing.{among_wider, among_last, among_split}
use Rattle.rules.proofs.Answers.{says_same}
use Rattle.rules.proofs.Bytes.{row_in, in_row}
use Rattle.rules.proofs.Lists.{set_same, set_more}
use Rattle.walk.specs.Held.{Sized, UnheldAmong, Wanted, MarkedAdd}
use Rattle.walk.specs.Marks.{Ready, Paint, hit, miss, Painted, Tells, Told}
use Rattle.walk.specs.Passes.{Reached}
use Rattle.walk.specs.declared.Pick.TheVariants.{All}
use Rattle.walk.proofs.Painting.{painted_as, painted_two, painted_none, painted_one}
use Rattle.walk.proofs.Places.{op_at_lem, held_at, place_of, one_place}
use Rattle.walk.proofs.Told.{paint_hit, paint_miss, mark_on, on_mark, past_told}

sized_as : {P Q : ℕ → Type 0} {r : ℕ} → ((d : ℕ) → P d → Q d) → ((d : ℕ) → Q d → P d) → Sized P r → Sized Q r
sized_as f g w = record { members = w.members; all = set_same (λ d. (f d, g d)) w.all; counted = w.counted }

pub missing_none : (s l : List ℕ) → Sized (UnheldAmong s l 0) 0
missing_none s l = record { members = []; all = record { ascending = none; into = λ d m. absurd (Memᴰ.not-nil m); back = λ d x. absurd (omega (arith, x.among.within)) }; counted = refl }

module _ {s : List ℕ} {r : ℕ} (R : Ready s r) (l : List ℕ) (k : ℕ) where
  missing_wider : (d : ℕ) → UnheldAmong s l k d → UnheldAmong s l (k + 1) d
  missing_wider d x = record { among = among_wider x.among; lacks = x.lacks }

  wanted_wider : (j : ℕ) → Wanted s l k j → Wanted s l (k + 1) j
  wanted_wider j x = record { below = x.below; among = among_wider x.among }

  missing_split : (d : ℕ) (x : UnheldAmong s l (k + 1) d) → Among l k d ⊎ (nth l k ≡ d) → UnheldAmong s l k d ⊎ (d ≡ nth l k)
  missing_split d x (inl y) = inl (record { among = y; lacks = x.lacks })
  missing_split d x (inr e) = inr (sym e)

  -- the digest is held at place i
  module _ (i : ℕ) (h : i < count_of s) (e : digest_at s i ≡ nth l k) where
    pub wanted_more : {u m : List ℕ} → i < length m → Painted (Wanted s l k) 1 u m → Painted (Wanted s l (k + 1)) 1 u (set m i 1)
    wanted_more {u} {m} b w = painted_as into (λ j x. back j x (among_split x.among)) (painted_two w (painted_one m i 1 b))
      where
        into : (j : ℕ) → Wanted s l k j ⊎ (j ≡ i) → Wanted s l (k + 1) j
        into j (inl x) = wanted_wider j x
        into j (inr q) = rw q (record { below = h; among = among_last l k (sym e) })

        back : (j : ℕ) → Wanted s l (k + 1) j → Among l k (digest_at s j) ⊎ (nth l k ≡ digest_at s j) → Wanted s l k j ⊎ (j ≡ i)
        back j x (inl y) = inl (record { below = x.below; among = y })
        back j x (inr q) = inr (one_place R j i x.below h (sym q ∙ sym e))

    pub missing_held : {c : ℕ} → Sized (UnheldAmong s l k) c → Sized (UnheldAmong s l (k + 1)) c
    missing_held w = sized_as missing_wider (λ d x. back d x (missing_split d x (among_split x.among))) w
      where
        back : (d : ℕ) → UnheldAmong s l (k + 1) d → UnheldAmong s l k d ⊎ (d ≡ nth l k) → UnheldAmong s l k d
        back d x (inl y) = y
        back d x (inr q) = absurd (x.lacks (subst (Held (ops_of s)) (e ∙ sym q) (held_at R i h)))

  -- the digest isn't held
  module _ (f : (j : ℕ) → j < count_of s → digest_at s j ≡ nth l k → ⊥) where
    pub wanted_same : {u m : List ℕ} → Painted (Wanted s l k) 1 u m → Painted (Wanted s l (k + 1)) 1 u m
    wanted_same w = painted_as wanted_wider (λ j x. back j x (among_split x.among)) w
      where
        back : (j : ℕ) → Wanted s l (k + 1) j → Among l k (digest_at s j) ⊎ (nth l k ≡ digest_at s j) → Wanted s l k j
        back j x (inl y) = record { below = x.below; among = y }
        back j x (inr q) = absurd (f j x.below (sym q))

    unheld : ¬ Held (ops_of s) (nth l k)
    unheld x = let p = place_of R x.stands in f p.0 p.1 (ap (λ o. o.digest) p.2 ∙ x.named)

    pub missing_again : {c : ℕ} → Among l k (nth l k) → Sized (UnheldAmong s l k) c → Sized (UnheldAmong s l (k + 1)) c
    missing_again y w = sized_as missing_wider (λ d x. back d x (missing_split d x (among_split x.among))) w
      where
        back : (d : ℕ) → UnheldAmong s l (k + 1) d → UnheldAmong s l k d ⊎ (d ≡ nth l k) → UnheldAmong s l k d
        back d x (inl z) = z
        back d x (inr q) = record { among = subst (Among l k) (sym q) y; lacks = x.lacks }

    pub missing_more : {c : ℕ} → ¬ Among l k (nth l k) → Sized (UnheldAmong s l k) c → Sized (UnheldAmong s l (k + 1)) (c + 1)
    missing_more {c} n w =
        let t = set_more (nth l k) w.all (λ x. n x.among) in
        sized_as into (λ d x. missing_split d x (among_split x.among)) (record { members = t.0; all = t.1; counted = omega (arith, t.2, w.counted) })
      where
        into : (d : ℕ) → UnheldAmong s l k d ⊎ (d ≡ nth l k) → UnheldAmong s l (k + 1) d
        into d (inl x) = missing_wider d x
        into d (inr q) = record { among = among_last l k (sym q); lacks = λ x. unheld (subst (Held (ops_of s)) q x) }

pub held_told : {s l m u m' : List ℕ} → Painted (λ j. j < count_of s) 0 m u → Painted (Wanted s l (length l / 32)) 1 u m' → Told s (λ d. d ∈ digests_of l) m m'
held_told {s} {l} {m} {u} {m'} a b =
    record {
      size = b.size ∙ a.size;
      tells = record { each = λ j h. go j h (b.each j) };
      rest = λ j h. paint_miss (b.each j) (λ x. omega (arith, x.below)) ∙ paint_miss (a.each j) (λ x. omega arith);
    }
  where
    go : (j : ℕ) → j < count_of s → Paint (Wanted s l (length l / 32) j) 1 (get_or u j 0) (get_or m' j 0) → Mark (digest_at s j ∈ digests_of l) (get_or m' j 0)
    go j h (hit x e) = marked e (subst (λ d. d ∈ digests_of l) x.among.there (row_in 0 (length l / 32) (nth l) x.among.place x.among.within))
    go j h (miss n e) =
        unmarked
        (e ∙ paint_hit (a.each j) h)
        (λ i. let t = in_row 0 (length l / 32) (nth l) (digest_at s j) i in n (record { below = h; among = record { place = t.0; within = t.1; there = t.2 } }))

pub wanted_none : (s l m : List ℕ) → Painted (Wanted s l 0) 1 m m
wanted_none s l m = painted_none 1 m (λ j x. omega (arith, x.among.within))

-- the marks are taken away, place p gets one, and it spreads to all at or before it
module _ {s m u v : List ℕ} {r : ℕ} (R : Ready s r) (p : ℕ) (h : p < count_of s) (a : Painted (λ j. j < count_of s) 0 m u) (b : Painted (λ j. j ≡ p) 1 u v) where
  single_tells : Tells s (λ d. d ∈ digest_at s p ∷ []) v
  single_tells = record { each = λ j l. go j l (b.each j) }
    where
      only : (j : ℕ) → j < count_of s → ¬ (j ≡ p) → (digest_at s j ≡ digest_at s p) ⊎ (digest_at s j ∈ []) → ⊥
      only j l n (inl e) = n (one_place R j p l h e)
      only j l n (inr i) = Memᴰ.not-nil i

      go : (j : ℕ) → j < count_of s → Paint (j ≡ p) 1 (get_or u j 0) (get_or v j 0) → Mark (digest_at s j ∈ digest_at s p ∷ []) (get_or v j 0)
      go j l (hit q e) = marked e (Memᴰ.head (ap (digest_at s) q))
      go j l (miss n e) = unmarked (e ∙ paint_hit (a.each j) l) (λ i. only j l n (Memᴰ.cases_cons i))

  pub before_told : {m' : List ℕ} → Painted (Reached All s v 0) 1 v m' → Told s (InPast (ops_of s) (digest_at s p ∷ [])) m m'
  before_told w =
      let t = past_told R w _ single_tells in
      record {
        size = t.size ∙ b.size ∙ a.size;
        tells = t.tells;
        rest = λ j l. t.rest j l ∙ paint_miss (b.each j) (λ e. omega arith) ∙ paint_miss (a.each j) (λ k. omega arith);
      }

pub add_told : {s m : List ℕ} {r d : ℕ} (member : ℕ) → Ready s r → Tells s (InPast (ops_of s) (d ∷ [])) m → (b : Bool) → Says b (MarkedAdd s m (count_of s) member) → Says b (AddBefore (ops_of s) member d)
add_told {s} {m} {r} {d} member R T b x = says_same b into back x
  where
    into : MarkedAdd s m (count_of s) member → AddBefore (ops_of s) member d
    into y = record { op = op_of s y.place; stands = op_at_lem R y.place y.below; add = y.add.add; adds = y.add.adds; past = mark_on (T.each y.place y.below) y.marked }

    back : AddBefore (ops_of s) member d → MarkedAdd s m (count_of s) member
    back y =
        let p = place_of R y.stands in
        record {
          place = p.0;
          below = p.1;
          marked = on_mark (T.each p.0 p.1) (subst (λ o. InPast (ops_of s) (d ∷ []) o.digest) (sym p.2) y.past);
          add = record { add = ap (λ o. o.kind) p.2 ∙ y.add; adds = ap (λ o. o.member) p.2 ∙ y.adds };
        }
