-- The bytes still to enter take the register to the one of all.
use Rattle.std.proofs.Common.{◌*◌, drop}
use Rattle.check_value.proofs.Turns.{Reached}
use Rattle.check_value.proofs.register_of.Given as goal

abbrev pub invariant-loop-eight : goal.invariant-loop-eight
invariant-loop-eight l = Reached l.s (drop (8 * l.eight-index) l.s) l.z

abbrev pub invariant-loop-b : goal.invariant-loop-b
invariant-loop-b l = Reached l.s (drop l.b-index l.rest) l.z
