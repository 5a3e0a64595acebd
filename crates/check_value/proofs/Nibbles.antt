-- What some nibbles leave of a register of zeros is the sum of what each of them leaves; and the table of what each leaves.
use mathlib.Core.Path.{◌≡◌, refl, sym, ap, ◌∙◌}
use mathlib.Core.List.{List, map}
use Prim.Native.Nat.{ℕ, ◌+◌, ◌*◌, ◌/◌, ◌%◌, ◌^◌, ◌<◌}
use native.Mathlib.Nat.{mod-mod}
use native.Mathlib.Omega.{arith}
use lib.Bits.{bit_xor, xor_comm}
use lib.ListN.{get_or}
use Rattle.std.specs.List.{range_with_len}
use Rattle.std.proofs.lemmas.List.FromFn.{get_or-map-range_with_len}
use Rattle.check_value.specs.Register.{bit_in, bits_in}
use Rattle.check_value.specs.declared.TheConstants.{LEFT}
use Rattle.check_value.proofs.Bits.{bits_apart, bits_low, bits_split}

-- what the nibble v leaves of a register of zeros, once m bits of zero have followed it
unfoldable pub left_of : ℕ → ℕ → ℕ
left_of v m = bits_in m (bits_in 4 0 v) 0

-- the lowest nibble, and one more above the lowest k
pub nibble_first : (w : ℕ) → left_of (w % 16) 0 ≡ bits_in 4 0 w
unfolding left_of bits_in
nibble_first w = bits_low 4 0 (w % 16) w (mod-mod w 16)

pub nibble_more : (k w : ℕ) → bit_xor (bits_in (4 * k) 0 w) (left_of (w / 2 ^ (4 * k) % 16) (4 * k)) ≡ bits_in (4 * (k + 1)) 0 w
unfolding left_of
nibble_more k w =
    let m : ℕ = 4 * k in
    let v : ℕ = w / 2 ^ m % 16 in
    let e : 4 + m ≡ 4 * (k + 1) = omega arith in
    xor_comm (bits_in m 0 w) (left_of v m) ∙ sym (bits_apart m (bits_in 4 0 v) w) ∙ bits_split 4 m 0 w ∙ ap (λ (j : ℕ). bits_in j 0 w) e

-- the table's rows, and their entries
row_of : ℕ → List ℕ
row_of k = map (λ v. left_of v (4 * k)) (range_with_len 0 16)

table : LEFT ≡ map row_of (range_with_len 0 16)
unfolding row_of left_of bits_in bit_in
table = refl

pub entry : (k v : ℕ) (d : List ℕ) → k < 16 → v < 16 → get_or (get_or LEFT k d) v 0 ≡ left_of v (4 * k)
unfolding row_of
entry k v d hk hv =
    ap (λ (rows : List (List ℕ)). get_or (get_or rows k d) v 0) table
    ∙ ap (λ (row : List ℕ). get_or row v 0) (get_or-map-range_with_len row_of 0 16 k k d hk (omega arith))
    ∙ get_or-map-range_with_len (λ v. left_of v (4 * k)) 0 16 v v 0 hv (omega arith)
