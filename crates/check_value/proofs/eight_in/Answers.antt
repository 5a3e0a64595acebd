-- Row k of the table has what the nibble behind the k lowest leaves.
use Rattle.std.proofs.Common.{◌∙◌, ap₂, arith, refl}
use Rattle.std.specs.Int.Bits.{bit_xor}
use Rattle.check_value.specs.Register.{bits_in}
use Rattle.check_value.proofs.Nibbles.{nibble_more, entry}
use Rattle.check_value.proofs.eight_in.Goals as goal

pub loop-k-init : goal.loop-k-init
unfolding bits_in
loop-k-init c = refl

pub loop-k-preserved : goal.loop-k-preserved
loop-k-preserved c =
    ap₂ bit_xor c.loop-k.invariant (entry c.loop-k.k _ _ (omega arith) (omega arith)) ∙ nibble_more c.loop-k.k c.args.w
