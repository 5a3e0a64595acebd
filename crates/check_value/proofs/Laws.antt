-- What the check value is good for (TS 101 191 annex A and clause 6, crc_32): bytes followed by their own register leave zero, no other four bytes
-- do, and a change within one byte is never missed.
use mathlib.Core.Path.{◌≡◌, refl, sym, ap, ap₂, ◌∙◌}
use mathlib.Core.List.{List, [], ◌∷◌, ◌++◌}
use Prim.Native.Nat.{ℕ, zero, suc, ◌*◌, ◌/◌, ◌%◌, ◌^◌, ◌<◌}
use native.Mathlib.Nat.{mod-eq_of_lt, le_of_suc-le-suc, not-suc-le-zero}
use native.Mathlib.Omega.{arith}
use lib.ListN.{length, get_or, set}
use lib.Pow.{pow_pos, pow-lt}
use lib.Bits.{bit_xor, xor_lt, xor_self, xor_zero_r}
use Rattle.check_value.specs.Register.{bits_in, register_from, all_ones, register, sealed}
use Rattle.wire.specs.BigEndian.{be32, byte0, byte1, byte2, byte3, bytes32}
use Rattle.wire.proofs.Numbers.{spelled32}
use Rattle.wire.proofs.Bytes.{Bytes}
use Rattle.check_value.proofs.Xor.{xor_cancel, xor_same}
use Rattle.check_value.proofs.Bits.{bits_fit, bits_linear, bits_injective, own_bits, four_bytes}

-- bytes after bytes
pub register_append : (z : ℕ) (xs ys : List ℕ) → register_from z (xs ++ ys) ≡ register_from (register_from z xs) ys
unfolding register_from
register_append z [] ys = refl
register_append z (x ∷ xs) ys = register_append (bits_in 8 z x) xs ys

-- a register has 32 bits
pub from_fits : (z : ℕ) (xs : List ℕ) → z < 2 ^ 32 → register_from z xs < 2 ^ 32
unfolding register_from
from_fits z [] h = h
from_fits z (x ∷ xs) h = from_fits (bits_in 8 z x) xs (bits_fit 8 z x h)

pub register_fits : (xs : List ℕ) → register xs < 2 ^ 32
unfolding register
register_fits xs = from_fits all_ones xs (omega arith)

-- four bytes more are one word more
append_word : (xs : List ℕ) (a b c d : ℕ) → b < 2 ^ 8 → c < 2 ^ 8 → d < 2 ^ 8
    → register (xs ++ a ∷ b ∷ c ∷ d ∷ []) ≡ bits_in 32 (register xs) (be32 a b c d)
unfolding register register_from
append_word xs a b c d hb hc hd =
    register_append all_ones xs (a ∷ b ∷ c ∷ d ∷ []) ∙ four_bytes (register xs) a b c d hb hc hd

-- a register's own word empties it
own_word : (w : ℕ) → w < 2 ^ 32 → bits_in 32 w w ≡ 0
own_word w h =
    let e : w ≡ w % 2 ^ 32 * 2 ^ 0 = omega arith in
    ap (λ (z : ℕ). bits_in 32 z w) e ∙ own_bits 32 0 w refl

-- any bytes followed by the four bytes of their register leave zero
pub leaves_zero : (xs : List ℕ) → register (sealed xs) ≡ 0
leaves_zero xs =
    let w : ℕ = register xs in
    append_word xs (byte3 w) (byte2 w) (byte1 w) (byte0 w) (omega arith) (omega arith) (omega arith)
    ∙ ap (bits_in 32 w) (spelled32 w (register_fits xs))
    ∙ own_word w (register_fits xs)

-- and no other four bytes do
pub zero_only : (xs : List ℕ) (a b c d : ℕ) → a < 2 ^ 8 → b < 2 ^ 8 → c < 2 ^ 8 → d < 2 ^ 8
    → register (xs ++ a ∷ b ∷ c ∷ d ∷ []) ≡ 0 → a ∷ b ∷ c ∷ d ∷ [] ≡ bytes32 (register xs)
zero_only xs a b c d ha hb hc hd e =
    let w : ℕ = be32 a b c d in
    let small : w < 2 ^ 32 = omega arith in
    let same : register xs ≡ w =
    bits_injective 32 (register xs) w w (register_fits xs) small
    (sym (append_word xs a b c d hb hc hd) ∙ e ∙ sym (own_word w small)) in
    let ea : a ≡ w / 16777216 % 256 = omega arith in
    let eb : b ≡ w / 65536 % 256 = omega arith in
    let ec : c ≡ w / 256 % 256 = omega arith in
    let ed : d ≡ w % 256 = omega arith in
    ap₂ (λ (x : ℕ) (l : List ℕ). x ∷ l) ea (ap₂ (λ (x : ℕ) (l : List ℕ). x ∷ l) eb (ap₂ (λ (x y : ℕ). x ∷ y ∷ []) ec ed))
    ∙ ap bytes32 (sym same)

-- bytes take two registers to one only if they are one
pub from_injective : (xs : List ℕ) (y z : ℕ) → y < 2 ^ 32 → z < 2 ^ 32 → register_from y xs ≡ register_from z xs → y ≡ z
unfolding register_from
from_injective [] y z hy hz e = e
from_injective (x ∷ xs) y z hy hz e =
    bits_injective 8 y z x hy hz (from_injective xs (bits_in 8 y x) (bits_in 8 z x) (bits_fit 8 y x hy) (bits_fit 8 z x hz) e)

-- two bytes take a register to one only if they are one
byte_injective : (z a b : ℕ) → a < 2 ^ 8 → b < 2 ^ 8 → bits_in 8 z a ≡ bits_in 8 z b → a ≡ b
unfolding bits_in
byte_injective z a b ha hb e =
    let y : ℕ = bit_xor a b in
    let small : y < 2 ^ 8 = xor_lt 8 a b ha hb in
    let none : bits_in 8 0 y ≡ 0 =
    ap (λ (x : ℕ). bits_in 8 x y) (sym (xor_self z))
    ∙ bits_linear 8 z z a b
    ∙ ap (λ (x : ℕ). bit_xor x (bits_in 8 z b)) e
    ∙ xor_self (bits_in 8 z b) in
    let empty : y % 2 ^ 8 * 2 ^ 24 ≡ 0 =
    bits_injective 8 (y % 2 ^ 8 * 2 ^ 24) 0 y (omega arith) (omega arith) (own_bits 8 24 y refl ∙ sym none) in
    xor_same a b (omega (arith, mod-eq_of_lt small))

-- another byte in one place, from any register
from_one_byte : (xs : List ℕ) (z i b : ℕ) → z < 2 ^ 32 → i < length xs → Bytes xs → b < 2 ^ 8
    → register_from z (set xs i b) ≡ register_from z xs → b ≡ get_or xs i 0
unfolding register_from
from_one_byte [] z i b hz h bytes hb e = absurd (not-suc-le-zero h)
from_one_byte (x ∷ xs) z zero b hz h bytes hb e =
    byte_injective z b x hb (bytes 0)
    (from_injective xs (bits_in 8 z b) (bits_in 8 z x) (bits_fit 8 z b hz) (bits_fit 8 z x hz) e)
from_one_byte (x ∷ xs) z (suc i) b hz h bytes hb e =
    from_one_byte xs (bits_in 8 z x) i b (bits_fit 8 z x hz) (le_of_suc-le-suc h) (λ j. bytes (suc j)) hb e

-- another byte in one place gives another register
pub one_byte : (xs : List ℕ) (i b : ℕ) → i < length xs → Bytes xs → b < 2 ^ 8
    → register (set xs i b) ≡ register xs → b ≡ get_or xs i 0
unfolding register
one_byte xs i b = from_one_byte xs all_ones i b (omega arith)

-- a list with bit k of its byte i flipped
abbrev pub flipped : List ℕ → ℕ → ℕ → List ℕ
flipped xs i k = set xs i (bit_xor (get_or xs i 0) (2 ^ k))

-- a number with a bit flipped is another
pub flip_differs : (x k : ℕ) → bit_xor x (2 ^ k) ≡ x → ⊥
flip_differs x k e =
    let none : 2 ^ k ≡ 0 = xor_cancel x (2 ^ k) 0 (e ∙ sym (xor_zero_r x)) in
    omega (arith, pow_pos k)

-- one bit changed gives another register
pub misses_no_bit : (xs : List ℕ) (i k : ℕ) → i < length xs → k < 8 → Bytes xs → register (flipped xs i k) ≡ register xs → ⊥
misses_no_bit xs i k h hk bytes e =
    let x : ℕ = get_or xs i 0 in
    flip_differs x k (one_byte xs i (bit_xor x (2 ^ k)) h bytes (xor_lt 8 x (2 ^ k) (bytes i) (pow-lt hk)) e)
