-- `refusal::of_store` meets its contract.
use Prim.Native.Nat.{ℕ}
use mathlib.Core.Path.{◌≡◌, refl}
use mathlib.Core.List.{List}
use Rattle.std.specs.Prelude.{Option, Some, None}
use Rattle.std.specs.Option.{ok_or}
use Rattle.rules.specs.Small.{store_refusals}
use Rattle.rules.specs.Table.{limits}
use Rattle.rules.specs.declared.Refusal.TheVariants as variant
use Rattle.rules.proofs.First.{first_done, first_here, first_next}
use Rattle.store.specs.Capacities.{limits_of}
use Rattle.store.specs.Graphs.{Read}
use Rattle.store.specs.declared.capacity.Capacity.{Capacity}
use Rattle.store.specs.declared.graph.Graph.{Graph}
use Rattle.refusal.specs.Damage.{Damaged, GraphOf, Tested}
use Rattle.refusal.proofs.of_store.Goals as goal

read_tested : (o : Option Graph) {s : List ℕ} (c : Capacity) → limits_of c ≡ limits → Read o s c → Tested (store_refusals (Damaged s)) (GraphOf s) (ok_or o variant.Damaged)
read_tested (Some g) c e r = let S = rw e at r.2 in record { number = first_next _ _ _ _ (λ n. n S) first_done; passed = record { bytes = r.0; sound = S } }
read_tested None c e r = let S = rw e at r in record { number = first_here _ _ _ S; passed = tt }

pub returns : goal.returns
returns c = rw c.ok_or.ensures.value (read_tested c.new.result _ refl c.new.ensures)
