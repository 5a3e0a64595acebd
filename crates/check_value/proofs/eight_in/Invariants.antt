-- The k lowest nibbles have entered.
use Rattle.std.proofs.Common.{◌≡◌, ◌*◌}
use Rattle.check_value.specs.Register.{bits_in}
use Rattle.check_value.proofs.eight_in.Given as goal

abbrev pub invariant-loop-k : goal.invariant-loop-k
invariant-loop-k l = l.sum ≡ bits_in (4 * l.k) 0 l.w
