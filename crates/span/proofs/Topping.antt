-- How far the places before a position reach, position by position.
-- Assumes nothing.
use Prim.Native.Nat.{ℕ, ◌+◌, ◌≤◌, ◌<◌}
use native.Mathlib.Omega.{arith}
use native.Mathlib.Decide.{ℕ_discrete}
use mathlib.Core.Path.{◌≡◌}
use mathlib.Core.List.{List}
use lib.ListN.{get_or}
use Rattle.span.specs.Tops.{Spanned, Topped, Higher, ends, rises, stays}

pub topped_none : (f h : List ℕ) → Topped f h 0 0
topped_none f h = record { into = λ x l t. record { each = λ j b. absurd (omega arith) }; back = λ x l p. omega arith }

pub topped_more : {f h : List ℕ} {i t r : ℕ} → Topped f h i t → Higher t (get_or f (get_or h i 0) 0) r → Topped f h (i + 1) r
topped_more {f} {h} {i} {t} {r} T H = record { into = λ x l b. into x l b H; back = λ x l p. back x l p H }
  where
    here : ℕ
    here = get_or f (get_or h i 0) 0

    one_more : (x : ℕ) → 0 < here → here ≤ x → Spanned f h i x → Spanned f h (i + 1) x
    one_more x a b P = record { each = λ j l. go j l (ℕ_discrete j i) }
      where
        go : (j : ℕ) → j < i + 1 → Dec (j ≡ i) → (0 < get_or f (get_or h j 0) 0) × (get_or f (get_or h j 0) 0 ≤ x)
        go j l (yes e) = rw e (a, b)
        go j l (no n) = P.each j (omega arith)

    into : (x : ℕ) → x < 65535 → r ≤ x → Higher t here r → Spanned f h (i + 1) x
    into x l b (ends z e) = absurd (omega arith)
    into x l b (rises z q e) = one_more x z (omega arith) (T.into x l (omega arith))
    into x l b (stays z q e) = one_more x z (omega arith) (T.into x l (omega arith))

    fewer : (x : ℕ) → Spanned f h (i + 1) x → Spanned f h i x
    fewer x P = record { each = λ j l. P.each j (omega arith) }

    back : (x : ℕ) → x < 65535 → Spanned f h (i + 1) x → Higher t here r → r ≤ x
    back x l P (ends z e) = absurd (omega (arith, z, (P.each i (omega arith)).0))
    back x l P (rises z q e) = omega (arith, e, (P.each i (omega arith)).1)
    back x l P (stays z q e) = omega (arith, e, T.back x l (fewer x P))
