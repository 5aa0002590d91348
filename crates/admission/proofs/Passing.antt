-- The marks of the updates that an admission makes chainable.
-- Assumes nothing.
use Prim.Native.Nat.{ℕ, ◌<◌}
use native.Mathlib.Omega.{arith}
use mathlib.Core.Path.{◌≡◌, refl, ◌∙◌, subst}
use mathlib.Core.List.{List, []}
use lib.ListN.{length, get_or}
use Rattle.std.specs.Prelude.{Result}
use Rattle.rules.specs.Answers.{Listed}
use Rattle.rules.specs.Batches.{Mark, marked, unmarked}
use Rattle.rules.specs.Lists.{◌∈◌}
use Rattle.rules.specs.Numbers.{number_of, value_of}
use Rattle.rules.specs.declared.Refusal.{Refusal}
use Rattle.rules.specs.Updates.{Nearest, Chainable}
use Rattle.rules.proofs.Bytes.{row_in, in_row}
use Rattle.store.specs.Layout.{count_of, digest_at, ops_of}
use Rattle.store.specs.Slots.{slot_digest}
use Rattle.store.specs.Writes.{Early}
use Rattle.walk.specs.Marks.{Ready, Paint, hit, miss, Painted, Tells, Told}
use Rattle.walk.specs.Passes.{OneOf, Moved}
use Rattle.walk.proofs.Places.{one_place}
use Rattle.walk.proofs.Told.{paint_hit, paint_miss, mark_as, mark_on, on_mark, nearest_told}
use Rattle.order.specs.Sorted.{digests_at, WroteMarked}
use Rattle.order.proofs.Ordered.{wrote_listed}
use Rattle.admission.specs.Marks.{MarkSet, Passed, Made}

module _ {s : List ℕ} {r : ℕ} (R : Ready s r) (p : List ℕ) (early : Early (count_of s) p) {m a v : List ℕ} (clear : Painted (λ j. j < count_of s) 0 m a) (slots : Painted (OneOf (λ k. get_or p k 0) (length p)) 1 a v) where
  -- the marked places are those of the predecessors
  slot_tells : Tells s (λ d. d ∈ digests_at s p (length p)) v
  slot_tells = record { each = λ j l. go j l (slots.each j) }
    where
      into : (j : ℕ) → OneOf (λ k. get_or p k 0) (length p) j → digest_at s j ∈ digests_at s p (length p)
      into j x = subst (λ y. digest_at s y ∈ digests_at s p (length p)) x.there (row_in 0 (length p) (slot_digest s p) x.nth x.below)

      back : (j : ℕ) → j < count_of s → digest_at s j ∈ digests_at s p (length p) → OneOf (λ k. get_or p k 0) (length p) j
      back j l i = let x = in_row 0 (length p) (slot_digest s p) (digest_at s j) i in record { nth = x.0; below = x.1; there = one_place R (get_or p x.0 0) j (early x.0 x.1) l x.2 }

      go : (j : ℕ) → j < count_of s → Paint (OneOf (λ k. get_or p k 0) (length p) j) 1 (get_or a j 0) (get_or v j 0) → Mark (digest_at s j ∈ digests_at s p (length p)) (get_or v j 0)
      go j l (hit x e) = marked e (into j x)
      go j l (miss n e) = unmarked (e ∙ paint_hit (clear.each j) l) (λ i. n (back j l i))

  module _ {w o o' m' : List ℕ} (near : Moved s v w) (chainable : Told s (Chainable (ops_of s)) o o') {i : ℕ} (all : i ≡ count_of s) (taken : Painted (MarkSet o' i) 0 w m') where
    nearest : Told s (Nearest (ops_of s) (digests_at s p (length p))) v w
    nearest = nearest_told R near (digests_at s p (length p)) slot_tells

    pub passed_told : Told s (Passed s (digests_at s p (length p))) m m'
    passed_told =
        record {
          size = taken.size ∙ nearest.size ∙ slots.size ∙ clear.size;
          tells = record { each = λ j l. go j l (nearest.tells.each j l) (taken.each j) };
          rest = λ j l. paint_miss (taken.each j) (λ x. omega (arith, x.below)) ∙ nearest.rest j l ∙ paint_miss (slots.each j) (λ x. omega (arith, x.there, early x.nth x.below)) ∙ paint_miss (clear.each j) (λ x. omega arith);
        }
      where
        go : (j : ℕ) → j < count_of s → Mark (Nearest (ops_of s) (digests_at s p (length p)) (digest_at s j)) (get_or w j 0) → Paint (MarkSet o' i j) 0 (get_or w j 0) (get_or m' j 0) → Mark (Passed s (digests_at s p (length p)) (digest_at s j)) (get_or m' j 0)
        go j l n (hit x e) = unmarked e (λ y. y.latest (mark_on (chainable.tells.each j l) x.marked))
        go j l (marked f n) (miss x e) = marked (e ∙ f) (record { nearest = n; latest = λ y. x (record { below = omega arith; marked = on_mark (chainable.tells.each j l) y }) })
        go j l (unmarked f n) (miss x e) = unmarked (e ∙ f) (λ y. n y.nearest)

-- the list of an update
module _ {s : List ℕ} {r : ℕ} (R : Ready s r) (ds : List ℕ) (k : ℕ) {m h h' o o' : List ℕ} {a : Result ℕ Refusal} (W : WroteMarked s [] m h h' o o' a) where
  listed : Tells s (Made s ds k) m → Listed [] (Made s ds k) o o' (number_of a) (value_of a)
  listed T = wrote_listed R W.sorted T (λ x y. y.passed.nearest.update.held) (λ j. refl) W.wrote

  pub made_listed : k ≡ 2 → Tells s (Passed s ds) m → Listed [] (Made s ds k) o o' (number_of a) (value_of a)
  made_listed e T = listed (record { each = λ j l. mark_as (λ x. record { update = e; passed = x }) (λ x. x.passed) (T.each j l) })
