-- The generator held to what annex A prints of it: the polynomial, and the adders of figure A.1.
use mathlib.Core.Path.{◌≡◌, refl}
use Prim.Native.Nat.{◌+◌, ◌*◌, ◌^◌}
use Rattle.check_value.specs.Register.{generator}

-- the polynomial of annex A, but for x^32
pub polynomial : generator ≡ 2 ^ 26 + 2 ^ 23 + 2 ^ 22 + 2 ^ 16 + 2 ^ 12 + 2 ^ 11 + 2 ^ 10 + 2 ^ 8 + 2 ^ 7 + 2 ^ 5 + 2 ^ 4 + 2 ^ 2 + 2 + 1
polynomial = refl

-- the adders of figure A.1: from z(i) to z(i + 1), and the input's own at z(0)
pub adders : generator ≡ 1 + (2 ^ 0 + 2 ^ 1 + 2 ^ 3 + 2 ^ 4 + 2 ^ 6 + 2 ^ 7 + 2 ^ 9 + 2 ^ 10 + 2 ^ 11 + 2 ^ 15 + 2 ^ 21 + 2 ^ 22 + 2 ^ 25) * 2
adders = refl
