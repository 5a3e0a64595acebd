-- The CRC decoder model of TS 101 191 annex A: the outputs of the 32 delay elements z(0) to z(31) are the bits of one number,
-- and bytes are shifted into them one bit at a time.
use Rattle.std.specs.Prelude.{List, [], ◌∷◌, ◌++◌, ℕ, zero, suc, ◌+◌, ◌*◌, ◌/◌, ◌%◌, ◌^◌, cond, leb, length, take, drop}
use Rattle.std.specs.Int.Bits.{bit_xor}
use Rattle.wire.specs.BigEndian.{bytes32}

-- the polynomial of annex A but for x^32: the places that have an adder, and z(0)
abbrev pub generator : ℕ
generator = 0x04C1_1DB7

-- one bit: it is added to the output of z(31), each output moves up one place, and the sum is added at the generator's places
unfoldable pub bit_in : ℕ → ℕ → ℕ
bit_in z b = bit_xor (z * 2 % 2 ^ 32) ((z / 2 ^ 31 + b) % 2 * generator)

-- the lowest n bits of x, the most significant first
unfoldable pub bits_in : ℕ → ℕ → ℕ → ℕ
bits_in zero z x = z
bits_in (suc n) z x = bits_in n (bit_in z (x / 2 ^ n % 2)) x

-- bytes, one after the other, into a register
unfoldable pub register_from : ℕ → List ℕ → ℕ
register_from z [] = z
register_from z (x ∷ xs) = register_from (bits_in 8 z x) xs

-- the initial value of each z(i) is 1
abbrev pub all_ones : ℕ
all_ones = 0xFFFF_FFFF

-- the register after some bytes
unfoldable pub register : List ℕ → ℕ
register xs = register_from all_ones xs

-- bytes with their check value behind them, the most significant byte first, as the crc_32 field has it
abbrev pub sealed : List ℕ → List ℕ
sealed xs = xs ++ bytes32 (register xs)

-- d with the check value of its first `end` bytes behind them, or d as it is where the four bytes do not fit
unfoldable pub sealed_at : ℕ → List ℕ → List ℕ
sealed_at end d = cond (leb (end + 4) (length d)) (sealed (take end d) ++ drop (end + 4) d) d
