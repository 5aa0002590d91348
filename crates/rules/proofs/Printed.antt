-- The lines of document 01's replay example, computed from the definition of the text.
-- Assumes nothing.
use Prim.Native.Nat.{◌*◌, ◌/◌, ◌-◌, ◌^◌}
use mathlib.Core.Path.{◌≡◌, refl}
use mathlib.Core.List.{[]}
use Rattle.rules.specs.Listing.{text, digits, hex, record_line, ops_line, op_line}

record Printed : Type 0 where
  ops : ops_line 3 1 3 ≡ text "ops 3 heads 1 batches 3\n"
  first : op_line 1 0 0 (1 * ((256 ^ 32 - 1) / 255)) ≡ text "1 0 A 0101010101010101010101010101010101010101010101010101010101010101\n"
  second : op_line 2 1 1 (2 * ((256 ^ 32 - 1) / 255)) ≡ text "2 1 R 0202020202020202020202020202020202020202020202020202020202020202\n"
  third : op_line 3 2 2 (3 * ((256 ^ 32 - 1) / 255)) ≡ text "3 2 U 0303030303030303030303030303030303030303030303030303030303030303\n"
  empty : ops_line 0 0 0 ≡ text "ops 0 heads 0 batches 0\n"
  letters : op_line 10 511 2 0xabcdef ≡ text "10 511 U 0000000000000000000000000000000000000000000000000000000000abcdef\n"
  refused : record_line 12 5 ≡ text "record 12 refused 5\n"
  passed : record_line 12 0 ≡ []

printed : Printed
unfolding text digits hex
printed = record { ops = refl; first = refl; second = refl; third = refl; empty = refl; letters = refl; refused = refl; passed = refl }
