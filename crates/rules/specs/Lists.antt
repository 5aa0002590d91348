-- Lists taken as sets, and ordered lists.
-- Assumes nothing.
use Rattle.std.specs.Prelude.{ℕ, ◌<◌}
use mathlib.Core.List.{List, [], ◌∷◌, Memᴰ}

infix 50 ◌∈◌
-- x stands in xs
abbrev pub ◌∈◌ : {A : Type 0} → A → List A → Type 0
◌∈◌ x xs = Memᴰ x xs

-- the two lists have the same members
pub record Alike {A : Type 0} (xs ys : List A) : Type 0 where
  pub into : (x : A) → x ∈ xs → x ∈ ys
  pub back : (x : A) → x ∈ ys → x ∈ xs

-- each member stands in the order R before all that follow it
pub data Ordered {A : Type 0} (R : A → A → Type 0) : List A → Type 0 where
  none : Ordered R []
  more : {x : A} {xs : List A} → ((y : A) → y ∈ xs → R x y) → Ordered R xs → Ordered R (x ∷ xs)

-- strictly ascending numbers
abbrev pub Ascending : List ℕ → Type 0
Ascending xs = Ordered ◌<◌ xs

-- ds is the set P, listed ascending
pub record SetOf (P : ℕ → Type 0) (ds : List ℕ) : Type 0 where
  pub ascending : Ascending ds
  pub into : (d : ℕ) → d ∈ ds → P d
  pub back : (d : ℕ) → P d → d ∈ ds
