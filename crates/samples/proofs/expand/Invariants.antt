-- `samples::expand` meets its contract. The loop's invariant: the bytes so far are those of the digits, and no digit is passed.
use Rattle.std.proofs.Common.{ℕ, ◌*◌, ◌/◌, ◌%◌, ◌≤◌, ◌<◌, ◌≡◌, length, get_or}
use Rattle.samples.proofs.expand.Given as goal

abbrev pub invariant-loop-i : goal.invariant-loop-i
invariant-loop-i l = record {
  within : l.i ≤ 32 * length l.digits;
  written : (k : ℕ) → k < l.i → get_or l.list k 0 ≡ get_or l.digits (k / 32) 0 % 16;
}
