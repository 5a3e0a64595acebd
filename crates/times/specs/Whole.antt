-- A natural number with a signed one, as the formulas of document 01's "Release" and refusal 13 need them.
use Rattle.std.specs.Prelude.{Bool, ◌&&◌, ℕ, suc, ◌+◌, ◌-◌, ◌%◌, ℤ, pos, negsuc}
use Rattle.std.specs.Int.Signed.{le_z, lt_z}

-- n plus a signed number; 0 where that would be negative
abbrev pub plus : ℕ → ℤ → ℕ
plus n (pos k) = n + k
plus n (negsuc k) = n - suc k

-- z mod u, from 0 to u − 1
abbrev pub residue : ℕ → ℤ → ℕ
residue u (pos k) = k % u
residue u (negsuc k) = u - suc (k % u)

-- z is within low to u − 1
unfoldable pub within : ℕ → ℕ → ℤ → Bool
within low u z = le_z (pos low) z && lt_z z (pos u)
