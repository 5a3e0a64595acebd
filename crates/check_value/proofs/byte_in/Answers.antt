-- The byte is added to the top of the register, and the sum's two nibbles are looked up.
use Rattle.std.proofs.Common.{◌≡◌, ◌∙◌, refl, sym, ap, ap₂, arith, ℕ, [], ◌*◌, ◌/◌, ◌%◌, ◌^◌, ◌<◌}
use Rattle.std.specs.Int.Bits.{bit_xor, xor_assoc}
use Rattle.std.proofs.lemmas.Nat.{xor_lt}
use Rattle.check_value.specs.Register.{bits_in}
use Rattle.check_value.proofs.Bits.{bits_enter}
use Rattle.check_value.proofs.Nibbles.{left_of, nibble_first, nibble_more, entry}
use Rattle.check_value.proofs.byte_in.Goals as goal

-- the rest of the register moved up, and what the two nibbles of the sum leave
from_table : (z b low high : ℕ) → z < 2 ^ 32 → low ≡ left_of (bit_xor (z / 2 ^ 24) b % 16) 0 → high ≡ left_of (bit_xor (z / 2 ^ 24) b / 16 % 16) 4
    → bit_xor (bit_xor (z * 2 ^ 8 % 2 ^ 32) low) high ≡ bits_in 8 z b
from_table z b low high h l k =
    let x : ℕ = bit_xor (z / 2 ^ 24) b in
    let rest : z * 2 ^ 8 % 2 ^ 32 ≡ z % 2 ^ 24 * 2 ^ 8 = omega arith in
    xor_assoc (z * 2 ^ 8 % 2 ^ 32) low high ∙ ap₂ bit_xor rest (ap₂ bit_xor (l ∙ nibble_first x) k ∙ nibble_more 1 x) ∙ sym (bits_enter 8 24 z b refl h)

pub returns : goal.returns
returns c =
    let x = bit_xor (c.args.z / 2 ^ 24) c.args.b in
    let small : x < 2 ^ 8 = xor_lt 8 (c.args.z / 2 ^ 24) c.args.b (omega arith) (omega arith) in
    from_table c.args.z c.args.b _ _ c.ranges.z.fits
    (entry 0 c.from.result [] (omega arith) (omega arith) ∙ ap (λ (v : ℕ). left_of v 0) (omega arith))
    (entry 1 c.from-2.result [] (omega arith) (omega arith) ∙ ap (λ (v : ℕ). left_of v 4) (omega arith))
