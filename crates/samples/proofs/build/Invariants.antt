-- `samples::build` meets its contract. The loop's invariant: the steps so far leave the store.
use Rattle.std.proofs.Common.{take}
use Rattle.samples.specs.Steps.{Builds}
use Rattle.samples.proofs.build.Given as goal

abbrev pub invariant-loop-step : goal.invariant-loop-step
invariant-loop-step l = Builds (take l.step-index l.steps) l.store
