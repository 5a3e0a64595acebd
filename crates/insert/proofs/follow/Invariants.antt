-- What is held is within the input's buffer.
use Rattle.std.proofs.Common.{◌≤◌, length}
use Rattle.insert.proofs.follow.Given as goal

abbrev pub invariant-loop : goal.invariant-loop
invariant-loop l = l.held ≤ length l.input
