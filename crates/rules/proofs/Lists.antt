-- Laws of ordered lists and sets; search of a list; places.
-- Assumes nothing.
use Prim.Native.Nat.{ℕ, zero, suc, ◌+◌, ◌≤◌, ◌<◌, zero-le, suc-le-suc}
use native.Mathlib.Omega.{arith}
use native.Mathlib.Decide.{ℕ_discrete, dec_lt}
use native.Mathlib.Numerals.{add-one}
use mathlib.Core.Path.{◌≡◌, refl, sym, ◌∙◌, ap, subst}
use mathlib.Core.Logic.{◌⊎◌, inl, inr, ◌↔◌}
use mathlib.Core.List.Memᴰ
use mathlib.Core.List.{List, [], ◌∷◌, ◌++◌}
use lib.ListN.{length, get_or, length-append}
use Rattle.rules.specs.Lists.{◌∈◌, Alike, Ordered, none, more, Ascending, SetOf}

infix 50 ◌∈?◌
module _ {A : Type 0} {R : A → A → Type 0} where
  pub ordered_head : {x : A} {xs : List A} → Ordered R (x ∷ xs) → (y : A) → y ∈ xs → R x y
  ordered_head (more a s) = a

  pub ordered_tail : {x : A} {xs : List A} → Ordered R (x ∷ xs) → Ordered R xs
  ordered_tail (more a s) = s

  -- of an order that holds one way only
  module _ (one_way : (x y : A) → R x y → R y x → ⊥) where
    heads_same : {x y : A} {xs ys : List A} → Ordered R (x ∷ xs) → Ordered R (y ∷ ys) → Alike (x ∷ xs) (y ∷ ys) → x ≡ y
    heads_same {x} {y} {xs} {ys} s t e = go (Memᴰ.cases_cons (e.into x (Memᴰ.head refl))) (Memᴰ.cases_cons (e.back y (Memᴰ.head refl)))
      where
        go : (x ≡ y) ⊎ (x ∈ ys) → (y ≡ x) ⊎ (y ∈ xs) → x ≡ y
        go (inl p) q = p
        go (inr p) (inl q) = sym q
        go (inr p) (inr q) = absurd (one_way x y (ordered_head s y q) (ordered_head t x p))

    tail_in : {x y : A} {xs ys : List A} → x ≡ y → Ordered R (x ∷ xs) → ((z : A) → z ∈ x ∷ xs → z ∈ y ∷ ys) → (z : A) → z ∈ xs → z ∈ ys
    tail_in {x} {y} {xs} {ys} e s f z m = go (Memᴰ.cases_cons (f z (Memᴰ.tail m)))
      where
        go : (z ≡ y) ⊎ (z ∈ ys) → z ∈ ys
        go (inl p) = let r : R x x = subst (R x) (p ∙ sym e) (ordered_head s z m) in absurd (one_way x x r r)
        go (inr t) = t

    -- two such lists with the same members are equal
    pub ordered_unique : (xs ys : List A) → Ordered R xs → Ordered R ys → Alike xs ys → xs ≡ ys
    ordered_unique [] [] s t a = refl
    ordered_unique [] (y ∷ ys) s t a = absurd (Memᴰ.not-nil (a.back y (Memᴰ.head refl)))
    ordered_unique (x ∷ xs) [] s t a = absurd (Memᴰ.not-nil (a.into x (Memᴰ.head refl)))
    ordered_unique (x ∷ xs) (y ∷ ys) s t a =
        let e : x ≡ y = heads_same s t a in
        let r : xs ≡ ys = ordered_unique xs ys (ordered_tail s) (ordered_tail t) (record { into = tail_in e s a.into; back = tail_in (sym e) t a.back }) in
        cc

pub ascending_unique : (xs ys : List ℕ) → Ascending xs → Ascending ys → Alike xs ys → xs ≡ ys
ascending_unique = ordered_unique (λ x y h k. omega arith)

-- ascending numbers do not repeat
pub ascending_apart : {xs : List ℕ} → Ascending xs → Ordered (λ x y. ¬ (x ≡ y)) xs
ascending_apart none = none
ascending_apart (more {x = x} {xs = xs} g s) = more other (ascending_apart s)
  where
    other : (y : ℕ) → y ∈ xs → ¬ (x ≡ y)
    other y m e = omega (arith, g y m)

-- a set is listed in one way
pub set_unique : {P : ℕ → Type 0} {xs ys : List ℕ} → SetOf P xs → SetOf P ys → xs ≡ ys
set_unique {P} {xs} {ys} a b = ascending_unique xs ys a.ascending b.ascending (record { into = λ x m. b.back x (a.into x m); back = λ x m. a.back x (b.into x m) })

pub set_same : {P Q : ℕ → Type 0} {xs : List ℕ} → ((d : ℕ) → P d ↔ Q d) → SetOf P xs → SetOf Q xs
set_same e a = record { ascending = a.ascending; into = λ d m. (e d).0 (a.into d m); back = λ d q. a.back d ((e d).1 q) }

pub alike_refl : {A : Type 0} (xs : List A) → Alike xs xs
alike_refl xs = record { into = λ x m. m; back = λ x m. m }

pub alike_sym : {A : Type 0} {xs ys : List A} → Alike xs ys → Alike ys xs
alike_sym e = record { into = e.back; back = e.into }

-- search of a list by a decidable test
unfoldable pub some? : {A : Type 0} (P : A → Type 0) (xs : List A) → ((x : A) → x ∈ xs → Dec (P x)) → ((x : A) × (x ∈ xs) × P x) ⊎ ((x : A) → x ∈ xs → ¬ P x)
some? P [] d = inr (λ x m. absurd (Memᴰ.not-nil m))
some? {A} P (y ∷ ys) d = go (d y (Memᴰ.head refl)) (some? P ys (λ x m. d x (Memᴰ.tail m)))
  where
    go : Dec (P y) → ((x : A) × (x ∈ ys) × P x) ⊎ ((x : A) → x ∈ ys → ¬ P x) → ((x : A) × (x ∈ y ∷ ys) × P x) ⊎ ((x : A) → x ∈ y ∷ ys → ¬ P x)
    go (yes p) r = inl (y, Memᴰ.head refl, p)
    go (no n) (inl r) = inl (r.0, Memᴰ.tail r.1, r.2)
    go (no n) (inr f) = inr (λ x m p. elim (Memᴰ.cases_cons m) [ inl e ↦ n (subst P e p) | inr t ↦ f x t p ])

-- membership of a number is decidable
unfoldable pub ◌∈?◌ : (x : ℕ) (xs : List ℕ) → Dec (x ∈ xs)
◌∈?◌ x [] = no (λ m. Memᴰ.not-nil m)
◌∈?◌ x (y ∷ ys) = go (ℕ_discrete x y) (◌∈?◌ x ys)
  where
    go : Dec (x ≡ y) → Dec (x ∈ ys) → Dec (x ∈ y ∷ ys)
    go (yes e) r = yes (Memᴰ.head e)
    go (no n) (yes t) = yes (Memᴰ.tail t)
    go (no n) (no f) = no (λ m. elim (Memᴰ.cases_cons m) [ inl e ↦ n e | inr t ↦ f t ])

-- places
unfoldable pub at_in : {A : Type 0} (z : A) (xs : List A) (i : ℕ) → i < length xs → get_or xs i z ∈ xs
at_in z [] i h = absurd (omega arith)
at_in z (x ∷ xs) zero h = Memᴰ.head refl
at_in z (x ∷ xs) (suc i) h = Memᴰ.tail (at_in z xs i (omega arith))

unfoldable pub in_at : {A : Type 0} (z : A) {x : A} {xs : List A} → x ∈ xs → (i : ℕ) × (i < length xs) × (get_or xs i z ≡ x)
in_at z (Memᴰ.head e) = (0, suc-le-suc zero-le, sym e)
in_at z (Memᴰ.tail m) = let r = in_at z m in (suc r.0, suc-le-suc r.1, r.2)

-- an order by places
pub ordered_at : {A : Type 0} {R : A → A → Type 0} (z : A) {xs : List A} → Ordered R xs → (i j : ℕ) → i < j → j < length xs → R (get_or xs i z) (get_or xs j z)
ordered_at z none i j h l = absurd (omega arith)
ordered_at {R = R} z (more {x = x} {xs = xs} a s) i zero h l = absurd (omega arith)
ordered_at {R = R} z (more {x = x} {xs = xs} a s) zero (suc j) h l = a (get_or xs j z) (at_in z xs j (omega arith))
ordered_at {R = R} z (more {x = x} {xs = xs} a s) (suc i) (suc j) h l = ordered_at z s i j (omega arith) (omega arith)

pub at_ordered : {A : Type 0} {R : A → A → Type 0} (z : A) (xs : List A) → ((i j : ℕ) → i < j → j < length xs → R (get_or xs i z) (get_or xs j z)) → Ordered R xs
at_ordered z [] h = none
at_ordered {R = R} z (x ∷ xs) h = more {xs = xs} (λ y m. let r = in_at z m in subst (R x) r.2 (h 0 (suc r.0) (omega arith) (omega (arith, r.1)))) (at_ordered z xs (λ i j a b. h (suc i) (suc j) (omega arith) (omega arith)))

-- each below the next, then each below all later ones
pub rising : (f : ℕ → ℕ) (n : ℕ) → ((k : ℕ) → k + 1 < n → f k < f (k + 1)) → (i j : ℕ) → i < j → j < n → f i < f j
rising f n h i zero a b = absurd (omega arith)
rising f n h i (suc j) a b = go (ℕ_discrete i j) (λ l. rising f n h i j l (omega arith))
  where
    next : f j < f (suc j)
    next = rw add-one at (h j (omega arith))

    go : Dec (i ≡ j) → (i < j → f i < f j) → f i < f (suc j)
    go (yes e) r = rw e next
    go (no x) r = omega (arith, r (omega arith), next)

-- a member splits a list
pub member_splits : {A : Type 0} {x : A} {ys : List A} → x ∈ ys → (us : List A) × (vs : List A) × (ys ≡ us ++ (x ∷ vs))
member_splits {ys = ys} (Memᴰ.head {xs = xs} e) = ([], xs, ap (λ z. z ∷ xs) (sym e))
member_splits {ys = ys} (Memᴰ.tail {x = y} m) = let r = member_splits m in (y ∷ r.0, r.1, ap (λ z. y ∷ z) r.2)

-- a list without repeats is no longer than a list that has all its members
pub sub_length : {A : Type 0} (xs ys : List A) → Ordered (λ x y. ¬ (x ≡ y)) xs → ((x : A) → x ∈ xs → x ∈ ys) → length xs ≤ length ys
sub_length [] ys d f = omega arith
sub_length {A} (x ∷ xs) ys d f = go (λ zs. sub_length xs zs (ordered_tail d)) (member_splits (f x (Memᴰ.head refl)))
  where
    keep : (us vs : List A) (y : A) → y ∈ xs → (y ∈ us) ⊎ (y ∈ x ∷ vs) → y ∈ us ++ vs
    keep us vs y m (inl a) = Memᴰ.append_left vs a
    keep us vs y m (inr b) = elim (Memᴰ.cases_cons b) [ inl e ↦ absurd (ordered_head d y m (sym e)) | inr t ↦ Memᴰ.append_right us t ]

    go : ((zs : List A) → ((y : A) → y ∈ xs → y ∈ zs) → length xs ≤ length zs) → ((us : List A) × (vs : List A) × (ys ≡ us ++ (x ∷ vs))) → suc (length xs) ≤ length ys
    go shorter (us, vs, e) =
        let r : length xs ≤ length (us ++ vs) = shorter (us ++ vs) (λ y m. keep us vs y m (Memᴰ.append_cases us (subst (λ z. y ∈ z) e (f y (Memᴰ.tail m))))) in
        omega (arith, ap length e, length-append us (x ∷ vs), length-append us vs)

-- a list in ascending order, without repeats
insert : (x : ℕ) (xs : List ℕ) → Ascending xs → (ys : List ℕ) × Ascending ys × Alike ys (x ∷ xs)
insert x [] s = (x ∷ [], more (λ y m. absurd (Memᴰ.not-nil m)) none, alike_refl (x ∷ []))
insert x (y ∷ ys) s = go (insert x ys (ordered_tail s)) (dec_lt x y) (ℕ_discrete x y)
  where
    below : x < y → (z : ℕ) → (z ≡ y) ⊎ (z ∈ ys) → x < z
    below h z (inl e) = rw e h
    below h z (inr m) = omega (arith, ordered_head s z m)

    above : ¬ (x < y) → ¬ (x ≡ y) → (z : ℕ) → (z ≡ x) ⊎ (z ∈ ys) → y < z
    above h n z (inl e) = rw e (omega arith)
    above h n z (inr m) = ordered_head s z m

    into : (zs : List ℕ) → Alike zs (x ∷ ys) → (z : ℕ) → (z ≡ y) ⊎ (z ∈ zs) → z ∈ x ∷ y ∷ ys
    into zs a z (inl e) = Memᴰ.tail (Memᴰ.head e)
    into zs a z (inr m) = elim (Memᴰ.cases_cons (a.into z m)) [ inl e ↦ Memᴰ.head e | inr t ↦ Memᴰ.tail (Memᴰ.tail t) ]

    back : (zs : List ℕ) → Alike zs (x ∷ ys) → (z : ℕ) → (z ≡ x) ⊎ (z ∈ y ∷ ys) → z ∈ y ∷ zs
    back zs a z (inl e) = Memᴰ.tail (a.back z (Memᴰ.head e))
    back zs a z (inr m) = elim (Memᴰ.cases_cons m) [ inl e ↦ Memᴰ.head e | inr t ↦ Memᴰ.tail (a.back z (Memᴰ.tail t)) ]

    go : (zs : List ℕ) × Ascending zs × Alike zs (x ∷ ys) → Dec (x < y) → Dec (x ≡ y) → (zs : List ℕ) × Ascending zs × Alike zs (x ∷ y ∷ ys)
    go r (yes h) e = (x ∷ y ∷ ys, more (λ z m. below h z (Memᴰ.cases_cons m)) s, alike_refl (x ∷ y ∷ ys))
    go r (no h) (yes e) = (y ∷ ys, s, record { into = λ z m. Memᴰ.tail m; back = λ z m. elim (Memᴰ.cases_cons m) [ inl q ↦ Memᴰ.head (q ∙ e) | inr t ↦ t ] })
    go r (no h) (no n) = (y ∷ r.0, more (λ z m. above h n z (Memᴰ.cases_cons (r.2.into z m))) r.1, record { into = λ z m. into r.0 r.2 z (Memᴰ.cases_cons m); back = λ z m. back r.0 r.2 z (Memᴰ.cases_cons m) })

-- a set with one more member
pub set_more : {P : ℕ → Type 0} {ds : List ℕ} (d : ℕ) → SetOf P ds → ¬ P d → (es : List ℕ) × SetOf (λ x. P x ⊎ (x ≡ d)) es × (length es ≡ length ds + 1)
set_more {P} {ds} d S n = go (insert d ds S.ascending)
  where
    new : (y : ℕ) → y ∈ ds → ¬ (d ≡ y)
    new y m e = n (subst P (sym e) (S.into y m))

    into : (x : ℕ) → (x ≡ d) ⊎ (x ∈ ds) → P x ⊎ (x ≡ d)
    into x (inl e) = inr e
    into x (inr m) = inl (S.into x m)

    back : (x : ℕ) → P x ⊎ (x ≡ d) → x ∈ d ∷ ds
    back x (inl p) = Memᴰ.tail (S.back x p)
    back x (inr e) = Memᴰ.head e

    go : (es : List ℕ) × Ascending es × Alike es (d ∷ ds) → (es : List ℕ) × SetOf (λ x. P x ⊎ (x ≡ d)) es × (length es ≡ length ds + 1)
    go r =
        let a : length r.0 ≤ length (d ∷ ds) = sub_length r.0 (d ∷ ds) (ascending_apart r.1) r.2.into in
        let b : length (d ∷ ds) ≤ length r.0 = sub_length (d ∷ ds) r.0 (more new (ascending_apart S.ascending)) r.2.back in
        (r.0, record { ascending = r.1; into = λ x m. into x (Memᴰ.cases_cons (r.2.into x m)); back = λ x p. r.2.back x (back x p) }, omega (arith, a, b))

-- a decidable set all of whose members stand in a list can be listed
pub set_is : (P : ℕ → Type 0) → ((x : ℕ) → Dec (P x)) → (xs : List ℕ) → ((x : ℕ) → P x → x ∈ xs) → (ds : List ℕ) × SetOf P ds
set_is P d xs b = let r = pick xs in (r.0, record { ascending = r.1; into = λ x m. ((r.2 x).0 m).0; back = λ x p. (r.2 x).1 (p, b x p) })
  where
    Picked : List ℕ → Type 0
    Picked xs = (ys : List ℕ) × Ascending ys × ((x : ℕ) → (x ∈ ys) ↔ (P x × (x ∈ xs)))

    keep : (x : ℕ) (xs : List ℕ) → P x → Picked xs → Picked (x ∷ xs)
    keep x xs p r = let t = insert x r.0 r.1 in (t.0, t.1, λ y. ((λ m. left y (Memᴰ.cases_cons (t.2.into y m))), λ q. t.2.back y (right y q.0 (Memᴰ.cases_cons q.1))))
      where
        left : (y : ℕ) → (y ≡ x) ⊎ (y ∈ r.0) → P y × (y ∈ x ∷ xs)
        left y (inl e) = (subst P (sym e) p, Memᴰ.head e)
        left y (inr m) = let q = (r.2 y).0 m in (q.0, Memᴰ.tail q.1)

        right : (y : ℕ) → P y → (y ≡ x) ⊎ (y ∈ xs) → y ∈ x ∷ r.0
        right y q (inl e) = Memᴰ.head e
        right y q (inr m) = Memᴰ.tail ((r.2 y).1 (q, m))

    leave : (x : ℕ) (xs : List ℕ) → ¬ P x → Picked xs → Picked (x ∷ xs)
    leave x xs n r = (r.0, r.1, λ y. ((λ m. let q = (r.2 y).0 m in (q.0, Memᴰ.tail q.1)), λ q. right y q.0 (Memᴰ.cases_cons q.1)))
      where
        right : (y : ℕ) → P y → (y ≡ x) ⊎ (y ∈ xs) → y ∈ r.0
        right y q (inl e) = absurd (n (subst P e q))
        right y q (inr m) = (r.2 y).1 (q, m)

    step : (x : ℕ) (xs : List ℕ) → Dec (P x) → Picked xs → Picked (x ∷ xs)
    step x xs (yes p) r = keep x xs p r
    step x xs (no n) r = leave x xs n r

    pick : (xs : List ℕ) → Picked xs
    pick [] = ([], none, λ y. ((λ m. absurd (Memᴰ.not-nil m)), λ q. absurd (Memᴰ.not-nil q.1)))
    pick (x ∷ xs) = step x xs (d x) (pick xs)
