-- Laws of the bits that enter the decoder: the step is linear over xor and loses nothing, bits that enter together enter one after the other,
-- and a register's own bits empty it.
use mathlib.Core.Path.{◌≡◌, refl, sym, ap, ap₂, ◌∙◌, subst}
use Prim.Native.Nat.{ℕ, zero, suc, ◌+◌, ◌*◌, ◌/◌, ◌%◌, ◌^◌, ◌<◌, ◌≤◌}
use native.Mathlib.Nat.{zero-add, suc-add, add_comm, add-mul, mul_assoc, mul_comm, mul-one, mod-lt, mod-mod, mod-one, mod-eq_of_lt, zero-mul, zero-div, pow-suc, mul-le-mul_left}
use native.Mathlib.Numerals.{one-add}
use native.Mathlib.Omega.{arith}
use lib.Pow.{pow_pos, pow-add, shl_lt, shr_lt, field, high, low, split, shr-shr, mod-mod-pow, mod-pow-add}
use lib.Bits.{bit_xor, xor_comm, xor_lt, xor_mod, xor_shr, xor_zero_r, xor_shifted}
use Rattle.check_value.specs.Register.{generator, bit_in, bits_in}
use Rattle.wire.specs.BigEndian.{be32}
use Rattle.check_value.proofs.Xor.{of_bits, xor_odd, sum_odd, xor_swap, xor_twice, xor_cancel, xor_shl}

-- a register has 32 bits
pub bit_fits : (z b : ℕ) → bit_in z b < 2 ^ 32
unfolding bit_in
bit_fits z b = xor_lt 32 (z * 2 % 2 ^ 32) ((z / 2 ^ 31 + b) % 2 * generator) (omega arith) (omega arith)

pub bits_fit : (n z x : ℕ) → z < 2 ^ 32 → bits_in n z x < 2 ^ 32
unfolding bits_in
bits_fit zero z x h = h
bits_fit (suc n) z x h = bits_fit n (bit_in z (x / 2 ^ n % 2)) x (bit_fits z (x / 2 ^ n % 2))

-- the step is linear
pub bit_linear : (y z a b : ℕ) → bit_in (bit_xor y z) ((a + b) % 2) ≡ bit_xor (bit_in y a) (bit_in z b)
unfolding bit_in
bit_linear y z a b =
    let p : ℕ = y / 2 ^ 31 in
    let q : ℕ = z / 2 ^ 31 in
    let top : (bit_xor y z / 2 ^ 31 + (a + b) % 2) % 2 ≡ ((p + a) % 2 + (q + b) % 2) % 2 =
    sum_odd (bit_xor y z / 2 ^ 31) (p + q) ((a + b) % 2) (a + b) (ap (λ (x : ℕ). x % 2) (xor_shr y z 31) ∙ xor_odd p q) (omega arith)
    ∙ ap (λ (x : ℕ). x % 2) (omega arith)
    ∙ sum_odd (p + a) ((p + a) % 2) (q + b) ((q + b) % 2) (omega arith) (omega arith) in
    ap₂ bit_xor
    (ap (λ (x : ℕ). x % 2 ^ 32) (xor_shl 1 y z) ∙ xor_mod (y * 2) (z * 2) 32)
    (ap (λ (x : ℕ). x * generator) top
    ∙ of_bits (λ x y. (x + y) % 2 * generator ≡ bit_xor (x * generator) (y * generator)) refl refl refl refl
    ((p + a) % 2) ((q + b) % 2) (omega arith) (omega arith))
    ∙ xor_swap (y * 2 % 2 ^ 32) (z * 2 % 2 ^ 32) ((p + a) % 2 * generator) ((q + b) % 2 * generator)

pub bits_linear : (n y z a b : ℕ) → bits_in n (bit_xor y z) (bit_xor a b) ≡ bit_xor (bits_in n y a) (bits_in n z b)
unfolding bits_in
bits_linear zero y z a b = refl
bits_linear (suc n) y z a b =
    let p : ℕ = a / 2 ^ n in
    let q : ℕ = b / 2 ^ n in
    let bit : bit_xor a b / 2 ^ n % 2 ≡ (p % 2 + q % 2) % 2 =
    ap (λ (x : ℕ). x % 2) (xor_shr a b n) ∙ xor_odd p q ∙ sum_odd p (p % 2) q (q % 2) (omega arith) (omega arith) in
    ap (λ (x : ℕ). bits_in n (bit_in (bit_xor y z) x) (bit_xor a b)) bit
    ∙ ap (λ (x : ℕ). bits_in n x (bit_xor a b)) (bit_linear y z (p % 2) (q % 2))
    ∙ bits_linear n (bit_in y (p % 2)) (bit_in z (q % 2)) a b

-- the register and the input apart
pub bits_apart : (n z x : ℕ) → bits_in n z x ≡ bit_xor (bits_in n z 0) (bits_in n 0 x)
bits_apart n z x = ap (λ (y : ℕ). bits_in n y x) (sym (xor_zero_r z)) ∙ bits_linear n z 0 0 x

-- the step loses nothing: the generator is odd, so the lowest bit tells what left z(31)
bit_odd : (z b : ℕ) → bit_in z b % 2 ≡ (z / 2 ^ 31 + b) % 2
unfolding bit_in
bit_odd z b =
    let t : ℕ = (z / 2 ^ 31 + b) % 2 in
    let e : (z * 2 % 2 ^ 32 + t * generator) % 2 ≡ (z / 2 ^ 31 + b) % 2 = omega arith in
    xor_odd (z * 2 % 2 ^ 32) (t * generator) ∙ e

-- a register of 32 bits: z(31), and the rest moved up
moved : (z : ℕ) → z < 2 ^ 32 → z * 2 ≡ z / 2 ^ 31 * 2 ^ 32 + z * 2 % 2 ^ 32
moved z h = omega arith

pub bit_injective : (y z b : ℕ) → y < 2 ^ 32 → z < 2 ^ 32 → bit_in y b ≡ bit_in z b → y ≡ z
unfolding bit_in
bit_injective y z b hy hz e =
    let odd : (y / 2 ^ 31 + b) % 2 ≡ (z / 2 ^ 31 + b) % 2 = sym (bit_odd y b) ∙ ap (λ (x : ℕ). x % 2) e ∙ bit_odd z b in
    let top : y / 2 ^ 31 ≡ z / 2 ^ 31 = omega arith in
    let sum : ℕ → ℕ = λ x. (x + b) % 2 * generator in
    let rest : y * 2 % 2 ^ 32 ≡ z * 2 % 2 ^ 32 =
    xor_cancel (sum (z / 2 ^ 31)) (y * 2 % 2 ^ 32) (z * 2 % 2 ^ 32)
    (xor_comm (sum (z / 2 ^ 31)) (y * 2 % 2 ^ 32)
    ∙ ap (λ (x : ℕ). bit_xor (y * 2 % 2 ^ 32) (sum x)) (sym top)
    ∙ e
    ∙ xor_comm (z * 2 % 2 ^ 32) (sum (z / 2 ^ 31))) in
    omega (arith, moved y hy, moved z hz)

pub bits_injective : (n y z x : ℕ) → y < 2 ^ 32 → z < 2 ^ 32 → bits_in n y x ≡ bits_in n z x → y ≡ z
unfolding bits_in
bits_injective zero y z x hy hz e = e
bits_injective (suc n) y z x hy hz e =
    let b : ℕ = x / 2 ^ n % 2 in
    bit_injective y z b hy hz (bits_injective n (bit_in y b) (bit_in z b) x (bit_fits y b) (bit_fits z b) e)

-- only the lowest n bits enter
pub bits_low : (n z x y : ℕ) → x % 2 ^ n ≡ y % 2 ^ n → bits_in n z x ≡ bits_in n z y
unfolding bits_in
bits_low zero z x y e = refl
bits_low (suc n) z x y e =
    let s : 1 + n ≡ suc n = omega arith in
    let f : x % 2 ^ (1 + n) ≡ y % 2 ^ (1 + n) = rw s e in
    let bit : x / 2 ^ n % 2 ≡ y / 2 ^ n % 2 = sym (field x 1 n) ∙ ap (λ (m : ℕ). m / 2 ^ n) f ∙ field y 1 n in
    ap (λ (m : ℕ). bits_in n (bit_in z m) x) bit
    ∙ bits_low n (bit_in z (y / 2 ^ n % 2)) x y (sym (mod-mod-pow x 1 n) ∙ ap (λ (m : ℕ). m % 2 ^ n) f ∙ mod-mod-pow y 1 n)

-- m bits of x, and then the n bits y: both at once
pub bits_join : (m n z x y : ℕ) → y < 2 ^ n → bits_in n (bits_in m z x) y ≡ bits_in (m + n) z (x * 2 ^ n + y)
unfolding bits_in
bits_join zero n z x y h =
    bits_low n z y (x * 2 ^ n + y) (sym (low x n h ∙ sym (mod-eq_of_lt h)))
    ∙ ap (λ (k : ℕ). bits_in k z (x * 2 ^ n + y)) (sym (zero-add n))
bits_join (suc m) n z x y h =
    let w : ℕ = x * 2 ^ n + y in
    let top : w / 2 ^ (m + n) ≡ x / 2 ^ m =
    ap (λ (k : ℕ). w / 2 ^ k) (add_comm m n) ∙ sym (shr-shr w n m) ∙ ap (λ (k : ℕ). k / 2 ^ m) (high x n h) in
    bits_join m n (bit_in z (x / 2 ^ m % 2)) x y h
    ∙ ap (λ (k : ℕ). bits_in (m + n) (bit_in z (k % 2)) w) (sym top)
    ∙ ap (λ (k : ℕ). bits_in k z w) (sym (suc-add m n))

-- the n bits of x above the lowest k, and then the lowest k
pub bits_split : (n k z x : ℕ) → bits_in k (bits_in n z (x / 2 ^ k % 2 ^ n)) x ≡ bits_in (n + k) z x
bits_split n k z x =
    let y : ℕ = x / 2 ^ k in
    ap (λ (t : ℕ). bits_in k t x) (bits_low n z (y % 2 ^ n) y (mod-mod y (2 ^ n)))
    ∙ bits_low k (bits_in n z y) x (x % 2 ^ k) (sym (mod-mod x (2 ^ k)))
    ∙ bits_join n k z y (x % 2 ^ k) (mod-lt x (pow_pos k))
    ∙ ap (bits_in (n + k) z) (split x k)

-- four bytes are one word
pub four_bytes : (z a b c d : ℕ) → b < 2 ^ 8 → c < 2 ^ 8 → d < 2 ^ 8
    → bits_in 8 (bits_in 8 (bits_in 8 (bits_in 8 z a) b) c) d ≡ bits_in 32 z (be32 a b c d)
four_bytes z a b c d hb hc hd =
    let e : ((a * 2 ^ 8 + b) * 2 ^ 8 + c) * 2 ^ 8 + d ≡ be32 a b c d = omega arith in
    ap (λ (y : ℕ). bits_in 8 (bits_in 8 y c) d) (bits_join 8 8 z a b hb)
    ∙ ap (λ (y : ℕ). bits_in 8 y d) (bits_join 16 8 z (a * 2 ^ 8 + b) c hc)
    ∙ bits_join 24 8 z ((a * 2 ^ 8 + b) * 2 ^ 8 + c) d hd
    ∙ ap (bits_in 32 z) e

-- a bit equal to what leaves z(31) only moves the rest
own_bit : (b y : ℕ) → b < 2 → y < 2 ^ 31 → bit_in (b * 2 ^ 31 + y) b ≡ y * 2
unfolding bit_in
own_bit b y hb hy =
    let rest : (b * 2 ^ 31 + y) * 2 % 2 ^ 32 ≡ y * 2 = omega arith in
    let sum : ((b * 2 ^ 31 + y) / 2 ^ 31 + b) % 2 ≡ 0 = omega arith in
    ap₂ bit_xor rest (ap (λ (x : ℕ). x * generator) sum) ∙ xor_zero_r (y * 2)

-- the n bits at the top of a register, as input, empty it
pub own_bits : (n j x : ℕ) → j + n ≡ 32 → bits_in n (x % 2 ^ n * 2 ^ j) x ≡ 0
unfolding bits_in
own_bits zero j x h = ap (λ (k : ℕ). k * 2 ^ j) (mod-one x) ∙ zero-mul (2 ^ j)
own_bits (suc n) j x h =
    let b : ℕ = x / 2 ^ n % 2 in
    let y : ℕ = x % 2 ^ n * 2 ^ j in
    let m : n + j ≡ 31 = omega arith in
    let up : x % 2 ^ suc n * 2 ^ j ≡ b * 2 ^ 31 + y =
    ap (λ (k : ℕ). x % 2 ^ k * 2 ^ j) (sym (one-add n)) ∙ ap (λ (k : ℕ). k * 2 ^ j) (mod-pow-add x 1 n)
    ∙ add-mul (b * 2 ^ n) (x % 2 ^ n) (2 ^ j)
    ∙ ap (λ (k : ℕ). k + y) (mul_assoc b (2 ^ n) (2 ^ j) ∙ ap (λ (k : ℕ). b * k) (sym (pow-add 2 n j) ∙ ap (λ (k : ℕ). 2 ^ k) m)) in
    let small : y < 2 ^ 31 = subst (λ (k : ℕ). y < 2 ^ k) m (shl_lt n j (mod-lt x (pow_pos n))) in
    let down : y * 2 ≡ x % 2 ^ n * 2 ^ suc j = mul_assoc (x % 2 ^ n) (2 ^ j) 2 ∙ ap (λ (k : ℕ). x % 2 ^ n * k) (sym (pow-suc 2 j)) in
    ap (λ (k : ℕ). bits_in n k x) (ap (λ (k : ℕ). bit_in k b) up ∙ own_bit b y (omega arith) small ∙ down)
    ∙ own_bits n (suc j) x (omega arith)

-- zeros move a register up while nothing leaves z(31)
pub zeros_low : (n z : ℕ) → z * 2 ^ n < 2 ^ 32 → bits_in n z 0 ≡ z * 2 ^ n
unfolding bits_in
zeros_low zero z h = sym (mul-one z)
zeros_low (suc n) z h =
    let e : z * 2 ^ suc n ≡ z * 2 * 2 ^ n = ap (λ (k : ℕ). z * k) (pow-suc 2 n ∙ mul_comm (2 ^ n) 2) ∙ sym (mul_assoc z 2 (2 ^ n)) in
    let l : z * 2 * 1 ≤ z * 2 * 2 ^ n = mul-le-mul_left (z * 2) (pow_pos n) in
    let step : bit_in z (0 / 2 ^ n % 2) ≡ z * 2 =
    ap₂ bit_in (sym (zero-add z)) (ap (λ (k : ℕ). k % 2) (zero-div (2 ^ n))) ∙ own_bit 0 z (omega arith) (omega arith) in
    ap (λ (k : ℕ). bits_in n k 0) step ∙ zeros_low n (z * 2) (omega arith) ∙ sym e

-- n bits are added to the top of the register, and the sum enters a register that the rest moved up is added to
pub bits_enter : (n j z x : ℕ) → j + n ≡ 32 → z < 2 ^ 32
    → bits_in n z x ≡ bit_xor (z % 2 ^ j * 2 ^ n) (bits_in n 0 (bit_xor (z / 2 ^ j) x))
bits_enter n j z x e h =
    let t : ℕ = z / 2 ^ j in
    let l : ℕ = z % 2 ^ j in
    let small : l < 2 ^ j = mod-lt z (pow_pos j) in
    let top : t < 2 ^ n = shr_lt n j (subst (λ (k : ℕ). z < 2 ^ k) (sym e ∙ add_comm j n) h) in
    let own : bits_in n (t * 2 ^ j) t ≡ 0 = ap (λ (k : ℕ). bits_in n (k * 2 ^ j) t) (sym (mod-eq_of_lt top)) ∙ own_bits n j t e in
    ap₂ (bits_in n) (sym (split z j) ∙ sym (xor_shifted t j l small)) (sym (xor_twice t x))
    ∙ bits_linear n (t * 2 ^ j) l t (bit_xor t x)
    ∙ ap (λ (k : ℕ). bit_xor k (bits_in n l (bit_xor t x))) own
    ∙ bits_apart n l (bit_xor t x)
    ∙ ap (λ (k : ℕ). bit_xor k (bits_in n 0 (bit_xor t x)))
    (zeros_low n l (subst (λ (k : ℕ). l * 2 ^ n < 2 ^ k) e (shl_lt j n small)))
