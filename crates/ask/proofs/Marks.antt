-- How many marks are set, and what one mark says of the heads.
-- Assumes nothing.
use Prim.Native.Nat.{ℕ, suc, ◌+◌, ◌≤◌, ◌<◌}
use native.Mathlib.Omega.{arith}
use native.Mathlib.Decide.{ℕ_discrete}
use mathlib.Core.Path.{◌≡◌, refl, sym, ◌∙◌, ap, subst}
use mathlib.Core.Bool.{Bool, cond}
use mathlib.Core.Logic.{◌⊎◌, inl, inr}
use mathlib.Core.List.{List, [], ◌∷◌}
use lib.Dec.{eqb}
use lib.ListN.{length, get_or, set, length-set, take, length-take}
use lib.Seq.{get_or-set_same, get_or-set_other, get_or-take}
use borrow.Author.Tests.{ne_eqb}
use Rattle.std.specs.List.{count_by}
use Rattle.std.proofs.lemmas.List.Sums.{sum_by-cons, sum_by-set, get_or-le-sum_by}
use Rattle.rules.specs.Answers.{Says}
use Rattle.rules.specs.Graph.{Head}
use Rattle.rules.specs.Small.{SingleHead}
use Rattle.rules.proofs.Answers.{says_same, says_equal}
use Rattle.store.specs.Layout.{count_of, digest_at, ops_of}
use Rattle.walk.specs.Marks.{Ready, Told}
use Rattle.walk.proofs.Places.{place_of, one_place}
use Rattle.walk.proofs.Told.{mark_on, on_mark}
use Rattle.ask.specs.Marks.{OneMark}

abbrev one : ℕ → ℕ
one x = cond (eqb x 1) 1 0

one_no : (x : ℕ) → ¬ (x ≡ 1) → one x ≡ 0
one_no x n = rw (ne_eqb x 1 n) refl

-- how many are set
abbrev pub set_marks : List ℕ → ℕ
set_marks m = count_by (λ x. eqb x 1) m

-- one that is set, where not none is
some_set : (m : List ℕ) → ((j : ℕ) × (j < length m) × (get_or m j 0 ≡ 1)) ⊎ (set_marks m ≡ 0)
some_set [] = inr refl
some_set (x ∷ xs) = go (ℕ_discrete x 1) (some_set xs)
  where
    go : Dec (x ≡ 1) → ((j : ℕ) × (j < length xs) × (get_or xs j 0 ≡ 1)) ⊎ (set_marks xs ≡ 0) → ((j : ℕ) × (j < length (x ∷ xs)) × (get_or (x ∷ xs) j 0 ≡ 1)) ⊎ (set_marks (x ∷ xs) ≡ 0)
    go (yes e) w = inl (0, omega arith, e)
    go (no n) (inl w) = inl (suc w.0, omega (arith, w.1), w.2)
    go (no n) (inr z) = inr (omega (arith, sum_by-cons one x xs, one_no x n))

-- a mark taken away
module _ (m : List ℕ) (p : ℕ) (l : p < length m) (e : get_or m p 0 ≡ 1) where
  taken : set_marks (set m p 0) + 1 ≡ set_marks m
  taken = omega (arith, rw e at (sum_by-set one m p 0 0 l))

  pub two_set : (j : ℕ) → j < length m → ¬ (j ≡ p) → get_or m j 0 ≡ 1 → 2 ≤ set_marks m
  two_set j h n k = omega (arith, taken, rw (get_or-set_other m p j 0 0 n, k) at (get_or-le-sum_by one (set m p 0) j 0 (omega (arith, length-set m p 0))))

  one_set : ((j : ℕ) → j < length m → get_or m j 0 ≡ 1 → j ≡ p) → set_marks m ≡ 1
  one_set f = go (some_set (set m p 0))
    where
      go : ((j : ℕ) × (j < length (set m p 0)) × (get_or (set m p 0) j 0 ≡ 1)) ⊎ (set_marks (set m p 0) ≡ 0) → set_marks m ≡ 1
      go (inl w) = absurd (at w.0 (omega (arith, w.1, length-set m p 0)) w.2 (ℕ_discrete w.0 p))
        where
          at : (j : ℕ) → j < length m → get_or (set m p 0) j 0 ≡ 1 → Dec (j ≡ p) → ⊥
          at j h k (yes q) = let z : get_or (set m p 0) p 0 ≡ 0 = get_or-set_same m p 0 0 l in omega (arith, rw q at k)
          at j h k (no n) = n (f j h (sym (get_or-set_other m p j 0 0 n) ∙ k))
      go (inr z) = omega (arith, taken)

-- whether one is set
pub count_says : (m : List ℕ) → Says (eqb (set_marks m) 1) (OneMark m (length m))
count_says m = says_same (eqb (set_marks m) 1) (λ e. into e (some_set m)) (λ o. one_set m o.place o.below o.marked o.other) (says_equal (set_marks m) 1)
  where
    into : set_marks m ≡ 1 → ((j : ℕ) × (j < length m) × (get_or m j 0 ≡ 1)) ⊎ (set_marks m ≡ 0) → OneMark m (length m)
    into e (inl w) = record { place = w.0; below = w.1; marked = w.2; other = λ j l k. go j l k (ℕ_discrete j w.0) }
      where
        go : (j : ℕ) → j < length m → get_or m j 0 ≡ 1 → Dec (j ≡ w.0) → j ≡ w.0
        go j l k (yes q) = q
        go j l k (no n) = absurd (omega (arith, two_set m w.0 w.1 w.2 j l n k))
    into e (inr z) = absurd (omega arith)

-- the same of the first n marks
pub front_says : (m : List ℕ) (n : ℕ) (b : Bool) → n ≤ length m → Says b (OneMark (take n m) (length (take n m))) → Says b (OneMark m n)
front_says m n b h = says_same b into back
  where
    same : (j : ℕ) → j < n → get_or (take n m) j 0 ≡ get_or m j 0
    same j l = get_or-take n m j 0 l

    into : OneMark (take n m) (length (take n m)) → OneMark m n
    into o =
        let l : o.place < n = omega (arith, o.below, length-take n m) in
        record { place = o.place; below = l; marked = sym (same o.place l) ∙ o.marked; other = λ j k e. o.other j (omega (arith, length-take n m)) (same j k ∙ e) }

    back : OneMark m n → OneMark (take n m) (length (take n m))
    back o =
        record {
          place = o.place;
          below = omega (arith, o.below, length-take n m);
          marked = same o.place o.below ∙ o.marked;
          other = λ j k e. let l : j < n = omega (arith, length-take n m) in o.other j l (sym (same j l) ∙ e);
        }

-- one mark of a head, one head
pub single_told : {s m m' : List ℕ} {r : ℕ} → Ready s r → Told s (Head (ops_of s)) m m' → (b : Bool) → Says b (OneMark m' (count_of s)) → Says b (SingleHead (ops_of s))
single_told {s} {m} {m'} R T b = says_same b into back
  where
    into : OneMark m' (count_of s) → SingleHead (ops_of s)
    into o =
        record {
          only = digest_at s o.place;
          head = mark_on (T.tells.each o.place o.below) o.marked;
          other = λ h H.
              let p = place_of R H.held.stands in
              let e : digest_at s p.0 ≡ h = ap (λ o. o.digest) p.2 ∙ H.held.named in
              sym e ∙ ap (digest_at s) (o.other p.0 p.1 (on_mark (T.tells.each p.0 p.1) (subst (Head (ops_of s)) (sym e) H)));
        }

    back : SingleHead (ops_of s) → OneMark m' (count_of s)
    back o =
        let p = place_of R o.head.held.stands in
        let e : digest_at s p.0 ≡ o.only = ap (λ o. o.digest) p.2 ∙ o.head.held.named in
        record {
          place = p.0;
          below = p.1;
          marked = on_mark (T.tells.each p.0 p.1) (subst (Head (ops_of s)) (sym e) o.head);
          other = λ j l k. one_place R j p.0 l p.1 (o.other (digest_at s j) (mark_on (T.tells.each j l) k) ∙ sym e);
        }
