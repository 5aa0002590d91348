-- The bytes that are written are those of the list, at the end of the digits or of the room.
use Rattle.std.proofs.Common.{arith, length}
use Rattle.samples.proofs.Spelling.{spelled_of}
use Rattle.samples.proofs.expand.Goals as goal

pub returns-in_default-clause-written : goal.returns-in_default-clause-written
returns-in_default-clause-written c = spelled_of c.args.digits.now c.loop-i.list c.loop-i.i (omega (arith, c.in_default.ensures)) c.loop-i.invariant.written

pub returns-clause-written : goal.returns-clause-written
returns-clause-written c = spelled_of c.args.digits.now c.loop-i.list (length c.loop-i.list) (omega arith) (λ k h. c.loop-i.invariant.written k (omega arith))
