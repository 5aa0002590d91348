-- `samples::fresh` meets its contract.
use Rattle.samples.proofs.Blanks.{blank_of}
use Rattle.samples.proofs.fresh.Goals as goal

pub returns : goal.returns
returns c = blank_of c.told-store c.fresh.ensures
