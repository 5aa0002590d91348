-- What a comparison's answer says.
-- Assumes nothing.
use Rattle.std.specs.Prelude.{ℕ, ◌<◌, ◌≡◌}
use Rattle.std.specs.declared.cmp.Ordering.{Ordering}
use Rattle.std.specs.declared.cmp.Ordering.TheVariants.{Less, Equal, Greater}

-- how x stands to y
abbrev pub Stands : Ordering → ℕ → ℕ → Type 0
Stands Less x y = x < y
Stands Equal x y = x ≡ y
Stands Greater x y = y < x
