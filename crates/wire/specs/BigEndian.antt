-- Numbers of 16, 24 and 32 bits as bytes, the most significant first.
use Rattle.std.specs.Prelude.{ℕ, ◌+◌, ◌*◌, ◌/◌, ◌%◌, List, [], ◌∷◌, get_or}

-- the number that some bytes spell
abbrev pub be16 : ℕ → ℕ → ℕ
be16 a b = a * 256 + b

abbrev pub be24 : ℕ → ℕ → ℕ → ℕ
be24 a b c = a * 65536 + b * 256 + c

abbrev pub be32 : ℕ → ℕ → ℕ → ℕ → ℕ
be32 a b c d = a * 16777216 + b * 65536 + c * 256 + d

-- the number at byte i of a list
abbrev pub be16_at : List ℕ → ℕ → ℕ
be16_at s i = be16 (get_or s i 0) (get_or s (i + 1) 0)

abbrev pub be24_at : List ℕ → ℕ → ℕ
be24_at s i = be24 (get_or s i 0) (get_or s (i + 1) 0) (get_or s (i + 2) 0)

abbrev pub be32_at : List ℕ → ℕ → ℕ
be32_at s i = be32 (get_or s i 0) (get_or s (i + 1) 0) (get_or s (i + 2) 0) (get_or s (i + 3) 0)

-- byte k of a number, counted from its least significant
abbrev pub byte0 : ℕ → ℕ
byte0 w = w % 256

abbrev pub byte1 : ℕ → ℕ
byte1 w = w / 256 % 256

abbrev pub byte2 : ℕ → ℕ
byte2 w = w / 65536 % 256

abbrev pub byte3 : ℕ → ℕ
byte3 w = w / 16777216 % 256

-- a number's bytes
abbrev pub bytes16 : ℕ → List ℕ
bytes16 w = byte1 w ∷ byte0 w ∷ []

abbrev pub bytes24 : ℕ → List ℕ
bytes24 w = byte2 w ∷ byte1 w ∷ byte0 w ∷ []

abbrev pub bytes32 : ℕ → List ℕ
bytes32 w = byte3 w ∷ byte2 w ∷ byte1 w ∷ byte0 w ∷ []
