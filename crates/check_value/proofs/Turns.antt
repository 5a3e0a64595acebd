-- What holds at each turn of `register_of`'s loops, and that a turn of eight bytes or of one keeps it.
use mathlib.Core.Path.{◌≡◌, refl, sym, ap, ap₂, ◌∙◌, subst}
use mathlib.Core.List.{List, [], ◌∷◌, ◌++◌}
use Prim.Native.Nat.{ℕ, ◌+◌, ◌*◌, ◌%◌, ◌^◌, ◌<◌, ◌≤◌, zero, suc}
use native.Mathlib.Nat.{add-zero, div-one, mod-one}
use native.Mathlib.Numerals.{add-one}
use native.Mathlib.Omega.{arith}
use lib.ListN.{length, take, drop, get_or, take-append-drop, drop_of_length-le}
use lib.Seq.{drop-cons, drop-drop}
use lib.Bits.{bit_xor, xor_block}
use Rattle.std.specs.Simd.{first_chunks}
use Rattle.std.specs.Int.{w64, from_be_bytes}
use Rattle.wire.proofs.Bytes.{elements, elements_are}
use Rattle.wire.specs.BigEndian.{be32}
use Rattle.check_value.specs.Register.{bits_in, register_from, register}
use Rattle.check_value.proofs.Bits.{bits_fit, bits_join, bits_enter, four_bytes}

-- the register z, with the bytes of rest still to enter: they take it to the register of s
pub record Reached (s rest : List ℕ) (z : ℕ) : Type 0 where
  pub fits : z < 2 ^ 32
  pub ends : register_from z rest ≡ register s

-- two words: the first is added to the register, and both enter a register of zeros
two_words : (z v w : ℕ) → z < 2 ^ 32 → w < 2 ^ 32 → bits_in 64 0 (bit_xor (z * 2 ^ 32) (v * 2 ^ 32 + w)) ≡ bits_in 32 (bits_in 32 z v) w
two_words z v w hz hw =
    let low : z % 2 ^ 0 * 2 ^ 32 ≡ 0 = omega (arith, mod-one z) in
    let first : bits_in 32 z v ≡ bits_in 32 0 (bit_xor z v) =
    bits_enter 32 0 z v refl hz
    ∙ ap₂ (λ (x y : ℕ). bit_xor x (bits_in 32 0 (bit_xor y v))) low (div-one z) in
    let sum : bit_xor (z * 2 ^ 32) (v * 2 ^ 32 + w) ≡ bit_xor z v * 2 ^ 32 + w =
    ap (λ (x : ℕ). bit_xor x (v * 2 ^ 32 + w)) (sym (add-zero (z * 2 ^ 32))) ∙ xor_block 32 z v 0 w (omega arith) hw in
    ap (bits_in 64 0) sum ∙ sym (bits_join 32 32 0 (bit_xor z v) w hw) ∙ ap (λ (x : ℕ). bits_in 32 x w) (sym first)

pub at_end : (s t : List ℕ) (z i : ℕ) → length t ≤ i → Reached s (drop i t) z → z ≡ register s
unfolding register_from
at_end s t z i h r = ap (register_from z) (sym (drop_of_length-le t h)) ∙ r.ends

pub after_byte : (s t : List ℕ) (z i y : ℕ) → i < length t → y ≡ bits_in 8 z (get_or t i 0) → Reached s (drop i t) z → Reached s (drop (i + 1) t) y
unfolding register_from
after_byte s t z i y h e r =
    record {
      fits = subst (λ (x : ℕ). x < 2 ^ 32) (sym e) (bits_fit 8 z (get_or t i 0) r.fits);
      ends = ap₂ (λ (x k : ℕ). register_from x (drop k t)) e (add-one i) ∙ ap (register_from z) (sym (drop-cons t i 0 h)) ∙ r.ends;
    }

-- the chunks of eight, one by one
pub chunk : (n j : ℕ) (xs d : List ℕ) → j < n → get_or (first_chunks 8 n xs) j d ≡ take 8 (drop (8 * j) xs)
chunk zero j xs d h = absurd (omega arith)
chunk (suc n) zero xs d h = refl
chunk (suc n) (suc j) xs d h =
    let e : 8 + 8 * j ≡ 8 * suc j = omega arith in
    chunk n j (drop 8 xs) d (omega arith) ∙ ap (take 8) (drop-drop (8 * j) 8 xs ∙ ap (λ (k : ℕ). drop k xs) e)

-- eight bytes are two words
spelled : (a b c d e f g h : ℕ) → from_be_bytes w64 (a ∷ b ∷ c ∷ d ∷ e ∷ f ∷ g ∷ h ∷ []) ≡ be32 a b c d * 2 ^ 32 + be32 e f g h
spelled a b c d e f g h =
    let sum : from_be_bytes w64 (a ∷ b ∷ c ∷ d ∷ e ∷ f ∷ g ∷ h ∷ [])
    ≡ a * 256 ^ 7 + b * 256 ^ 6 + c * 256 ^ 5 + d * 256 ^ 4 + e * 256 ^ 3 + f * 256 ^ 2 + g * 256 ^ 1 + h = refl in
    omega (arith, sum)

-- and enter at once
enter : (z a b c d e f g h : ℕ) → z < 2 ^ 32 → b < 2 ^ 8 → c < 2 ^ 8 → d < 2 ^ 8 → e < 2 ^ 8 → f < 2 ^ 8 → g < 2 ^ 8 → h < 2 ^ 8
    → bits_in 8 (bits_in 8 (bits_in 8 (bits_in 8 (bits_in 8 (bits_in 8 (bits_in 8 (bits_in 8 z a) b) c) d) e) f) g) h
    ≡ bits_in 64 0 (bit_xor (z * 2 ^ 32) (from_be_bytes w64 (a ∷ b ∷ c ∷ d ∷ e ∷ f ∷ g ∷ h ∷ [])))
enter z a b c d e f g h hz hb hc hd he hf hg hh =
    ap (λ (y : ℕ). bits_in 8 (bits_in 8 (bits_in 8 (bits_in 8 y e) f) g) h) (four_bytes z a b c d hb hc hd)
    ∙ four_bytes (bits_in 32 z (be32 a b c d)) e f g h hf hg hh
    ∙ sym (two_words z (be32 a b c d) (be32 e f g h) hz (omega arith))
    ∙ ap (λ (x : ℕ). bits_in 64 0 (bit_xor (z * 2 ^ 32) x)) (sym (spelled a b c d e f g h))

-- the bytes from place i on: the next eight, and those behind them
eight_more : (s : List ℕ) (i : ℕ) → i + 8 ≤ length s → drop i s ≡ elements 8 i s ++ drop (i + 8) s
eight_more s i h =
    sym (take-append-drop 8 (drop i s)) ∙ ap₂ (λ (a b : List ℕ). a ++ b) (elements_are 8 i s h) (drop-drop 8 i s)

pub after_eight : (s t : List ℕ) (z i x y : ℕ) → ((k : ℕ) → get_or t k 0 < 2 ^ 8) → i + 8 ≤ length t
    → x ≡ bit_xor (z * 2 ^ 32) (from_be_bytes w64 (take 8 (drop i t))) → y ≡ bits_in 64 0 x → Reached s (drop i t) z → Reached s (drop (i + 8) t) y
unfolding register_from
after_eight s t z i x y bytes h ex ey r =
    let e : y ≡ bits_in 64 0 (bit_xor (z * 2 ^ 32) (from_be_bytes w64 (elements 8 i t))) =
    ey ∙ ap (bits_in 64 0) (ex ∙ ap (λ (l : List ℕ). bit_xor (z * 2 ^ 32) (from_be_bytes w64 l)) (elements_are 8 i t h)) in
    let n = enter z _ _ _ _ _ _ _ _ r.fits (bytes _) (bytes _) (bytes _) (bytes _) (bytes _) (bytes _) (bytes _) in
    record {
      fits = subst (λ (x : ℕ). x < 2 ^ 32) (sym ey) (bits_fit 64 0 x (omega arith));
      ends = ap (λ (x : ℕ). register_from x (drop (i + 8) t)) (e ∙ sym n) ∙ ap (register_from z) (sym (eight_more t i h)) ∙ r.ends;
    }
