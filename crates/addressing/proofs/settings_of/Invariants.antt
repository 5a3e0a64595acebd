-- What is left to do of the rest, from what is set so far, is the whole.
use Rattle.std.proofs.Common.{◌≡◌, length}
use Rattle.addressing.specs.Entries.{settings_of}
use Rattle.addressing.proofs.settings_of.Given as goal

abbrev pub invariant-loop-s : goal.invariant-loop-s
invariant-loop-s l = settings_of l.s l.site l.t ≡ settings_of l.fn.s l.site l.fn.before

abbrev pub decreases-loop-s : goal.decreases-loop-s
decreases-loop-s l = length l.s
