-- `samples::build` meets its contract.
use Rattle.std.proofs.Common.{arith}
use Rattle.rules.specs.Numbers.{number_of}
use Rattle.admission.specs.Offers.{known_of}
use Rattle.admission.specs.Adds.{passed_of}
use Rattle.samples.specs.Steps.{fresh}
use Rattle.samples.proofs.Building.{builds_more}
use Rattle.samples.proofs.build.Goals as goal

pub loop-step-init : goal.loop-step-init
loop-step-init c = fresh c.fresh.ensures

pub loop-step-preserved : goal.loop-step-preserved
loop-step-preserved c = builds_more c.args.steps.now c.loop-step.step-index _ (omega arith) c.loop-step.invariant (record {
  number = number_of c.offer.result;
  known = known_of c.offer.result;
  count = passed_of c.offer.result;
  out = c.offer.new.out;
  adds = c.offer.ensures;
})
