-- A number as text: its decimal digits in ASCII, without leading zeros.
use Rattle.std.specs.Prelude.{ℕ, zero, suc, ◌+◌, ◌/◌, ◌%◌, cond, List, [], ◌∷◌, ◌++◌, ltb}

-- the ASCII code of a digit
abbrev pub digit : ℕ → ℕ
digit d = 48 + d

-- the digits of n, of which there are at most `most`
unfoldable pub decimal_in : ℕ → ℕ → List ℕ
decimal_in zero n = []
decimal_in (suc most) n = cond (ltb n 10) (digit n ∷ []) (decimal_in most (n / 10) ++ digit (n % 10) ∷ [])

-- the digits of n: no number has more digits than itself and one
unfoldable pub decimal : ℕ → List ℕ
decimal n = decimal_in (suc n) n

-- a number of 64 bits has at most so many
abbrev pub most_digits : ℕ
most_digits = 20
