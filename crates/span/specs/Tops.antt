-- How far the places before a position reach: h are places in order, f how far those that list a place stand, 0 where none does.
-- Assumes nothing.
use Rattle.std.specs.Prelude.{ℕ, ◌≤◌, ◌<◌, ◌≡◌, List, get_or}

-- each place before position i is listed, and by none beyond x
pub record Spanned (f h : List ℕ) (i x : ℕ) : Type 0 where
  pub each : (j : ℕ) → j < i → (0 < get_or f (get_or h j 0) 0) × (get_or f (get_or h j 0) 0 ≤ x)

-- t tells how far the places before position i reach, 65535 where one of them is listed by none
pub record Topped (f h : List ℕ) (i t : ℕ) : Type 0 where
  pub into : (x : ℕ) → x < 65535 → t ≤ x → Spanned f h i x
  pub back : (x : ℕ) → x < 65535 → Spanned f h i x → t ≤ x

-- r is the greater of t and x, 65535 where x is 0
pub data Higher (t x r : ℕ) : Type 0 where
  ends : x ≡ 0 → r ≡ 65535 → Higher t x r
  rises : 0 < x → t ≤ x → r ≡ x → Higher t x r
  stays : 0 < x → x ≤ t → r ≡ t → Higher t x r
