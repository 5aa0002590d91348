-- One step more of a graph that is built.
-- Assumes nothing.
use Prim.Native.Nat.{ℕ, ◌+◌, ◌<◌}
use mathlib.Core.List.{List}
use lib.ListN.{length, get_or, take}
use Rattle.std.proofs.lemmas.List.{take_more}
use Rattle.samples.specs.declared.Step.{Step}
use Rattle.samples.specs.Steps.{Offers, Builds, offer}

pub builds_more : (steps : List Step) (i : ℕ) (d : Step) {s t : List ℕ} → i < length steps → Builds (take i steps) s → Offers s (get_or steps i d) t → Builds (take (i + 1) steps) t
builds_more steps i d {s} {t} below built more = rw (take_more steps i d below) (offer built more)
