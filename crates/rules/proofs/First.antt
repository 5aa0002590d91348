-- The first condition that holds has one number, and lists of equal conditions give the same.
-- Assumes nothing.
use Prim.Native.Nat.{ℕ, zero, suc}
use native.Mathlib.Omega.{arith}
use mathlib.Core.Path.{◌≡◌, refl, sym, ◌∙◌}
use mathlib.Core.Logic.{inl, inr, ◌↔◌}
use mathlib.Core.List.{List, [], ◌∷◌, ◌++◌}
use Rattle.rules.specs.First.{First}

pub first_unique : (cs : List (ℕ × Type 0)) {m n : ℕ} → First cs m → First cs n → m ≡ n
unfolding First
first_unique [] p q = p ∙ sym q
first_unique (c ∷ cs) (inl p) (inl q) = p.1 ∙ sym q.1
first_unique (c ∷ cs) (inl p) (inr q) = absurd (q.0 p.0)
first_unique (c ∷ cs) (inr p) (inl q) = absurd (p.0 q.0)
first_unique (c ∷ cs) (inr p) (inr q) = first_unique cs p.1 q.1

-- the first condition holds, or a later one gives the number, or none holds
pub first_done : First [] 0
unfolding First
first_done = refl

pub first_here : (n : ℕ) (P : Type 0) (cs : List (ℕ × Type 0)) → P → First ((n, P) ∷ cs) n
unfolding First
first_here n P cs p = inl (p, refl)

pub first_next : (m : ℕ) (P : Type 0) (cs : List (ℕ × Type 0)) (n : ℕ) → ¬ P → First cs n → First ((m, P) ∷ cs) n
unfolding First
first_next m P cs n p q = inr (p, q)

-- the same numbers, and each condition as strong as the other list's where none holds before it
abbrev pub Matched : List (ℕ × Type 0) → List (ℕ × Type 0) → Type 0
Matched [] [] = Unit {0}
Matched [] (d ∷ ds) = ⊥
Matched (c ∷ cs) [] = ⊥
Matched (c ∷ cs) (d ∷ ds) = (c.0 ≡ d.0) × (c.1 ↔ d.1) × (¬ c.1 → Matched cs ds)

pub first_moves : (cs ds : List (ℕ × Type 0)) (n : ℕ) → Matched cs ds → First cs n → First ds n
unfolding First
first_moves [] [] n w p = p
first_moves [] (d ∷ ds) n w p = absurd w
first_moves (c ∷ cs) [] n w p = absurd w
first_moves (c ∷ cs) (d ∷ ds) n w (inl p) = inl (w.1.0 p.0, p.1 ∙ w.0)
first_moves (c ∷ cs) (d ∷ ds) n w (inr p) = inr ((λ x. p.0 (w.1.1 x)), first_moves cs ds n (w.2 p.0) p.1)

-- none of the conditions holds
abbrev pub None : List (ℕ × Type 0) → Type 0
None [] = Unit {0}
None (c ∷ cs) = (¬ c.1) × None cs

-- n is the number of none of the conditions
abbrev pub Apart : ℕ → List (ℕ × Type 0) → Type 0
Apart n [] = Unit {0}
Apart n (c ∷ cs) = (¬ (n ≡ c.0)) × Apart n cs

-- a number that none of the first conditions has is given by the others
pub first_skips : (cs ds : List (ℕ × Type 0)) (n : ℕ) → Apart n cs → First (cs ++ ds) n → None cs × First ds n
unfolding First
first_skips [] ds n a p = (tt, p)
first_skips (c ∷ cs) ds n a (inl p) = absurd (a.0 p.1)
first_skips (c ∷ cs) ds n a (inr p) = let r = first_skips cs ds n a.1 p.1 in ((p.0, r.0), r.1)

-- none of the first conditions holds, and a later one gives the number
pub first_past : (cs ds : List (ℕ × Type 0)) (n : ℕ) → None cs → First ds n → First (cs ++ ds) n
unfolding First
first_past [] ds n a p = p
first_past (c ∷ cs) ds n a p = inr (a.0, first_past cs ds n a.1 p)

-- a refusal by the first conditions
pub first_stays : (cs ds : List (ℕ × Type 0)) (n : ℕ) → ¬ (n ≡ 0) → First cs n → First (cs ++ ds) n
unfolding First
first_stays [] ds n z p = absurd (z p)
first_stays (c ∷ cs) ds n z (inl p) = inl p
first_stays (c ∷ cs) ds n z (inr p) = inr (p.0, first_stays cs ds n z p.1)

-- lists that match, and match in what follows where none of them holds
pub matched_append : (cs ds es fs : List (ℕ × Type 0)) → Matched cs ds → (None cs → Matched es fs) → Matched (cs ++ es) (ds ++ fs)
matched_append [] [] es fs w f = f tt
matched_append [] (d ∷ ds) es fs w f = absurd w
matched_append (c ∷ cs) [] es fs w f = absurd w
matched_append (c ∷ cs) (d ∷ ds) es fs w f = (w.0, w.1, λ n. matched_append cs ds es fs (w.2 n) (λ m. f (n, m)))

-- the conditions with the number 0 do not hold
abbrev Clear : ℕ → Type 0 → Type 0
Clear zero P = ¬ P
Clear (suc n) P = Unit {0}

abbrev pub AllClear : List (ℕ × Type 0) → Type 0
AllClear [] = Unit {0}
AllClear (c ∷ cs) = Clear c.0 c.1 × AllClear cs

-- done, and not by one of the conditions: none of them holds
pub first_clear : (cs ds : List (ℕ × Type 0)) → AllClear cs → First (cs ++ ds) 0 → None cs
unfolding First
first_clear [] ds a p = tt
first_clear (c ∷ cs) ds a (inl p) = absurd (go c.0 a.0 p.1)
  where
    go : (n : ℕ) → Clear n c.1 → 0 ≡ n → ⊥
    go zero q e = q p.0
    go (suc n) q e = omega arith
first_clear (c ∷ cs) ds a (inr p) = (p.0, first_clear cs ds a.1 p.1)

pub iff : {A : Type 0} → A ↔ A
iff = ((λ x. x), (λ x. x))
