-- What is left to do of the rest, from what is set so far, is the whole.
use Rattle.std.proofs.Common.{◌≡◌, length}
use Rattle.addressing.specs.Functions.{functions_of}
use Rattle.addressing.proofs.functions.Given as goal

abbrev pub invariant-loop-s : goal.invariant-loop-s
invariant-loop-s l = functions_of l.on l.s l.t ≡ functions_of l.on l.fn.s l.fn.before

abbrev pub decreases-loop-s : goal.decreases-loop-s
decreases-loop-s l = length l.s
