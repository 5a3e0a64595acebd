-- Two's complement of 16, 24 and 32 bits (tcimsbf in TS 101 191).
use Rattle.std.specs.Prelude.{ℕ, ◌-◌, cond, ltb, ℤ, pos, negsuc}

-- the number that the bits v mean: from half on it is v less the whole range
abbrev pub signed : ℕ → ℕ → ℕ → ℤ
signed half range v = cond (ltb v half) (pos v) (negsuc (range - 1 - v))

abbrev pub signed16 : ℕ → ℤ
signed16 v = signed 32768 65536 v

abbrev pub signed24 : ℕ → ℤ
signed24 v = signed 8388608 16777216 v

abbrev pub signed32 : ℕ → ℤ
signed32 v = signed 2147483648 4294967296 v

-- and back: the bits of a signed number
abbrev pub bits : ℕ → ℤ → ℕ
bits range (pos v) = v
bits range (negsuc v) = range - 1 - v

abbrev pub bits16 : ℤ → ℕ
bits16 z = bits 65536 z

abbrev pub bits32 : ℤ → ℕ
bits32 z = bits 4294967296 z
