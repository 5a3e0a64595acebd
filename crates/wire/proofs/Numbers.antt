-- A number is the one that its bytes spell, and bytes are those of the number that they spell.
use mathlib.Core.Path.{◌≡◌, refl, ap}
use mathlib.Core.Bool.{Bool, true, false, cond}
use Prim.Native.Nat.{ℕ, ◌+◌, ◌-◌, ◌/◌, ◌%◌, ◌^◌, ◌<◌}
use native.Mathlib.Nat.{div-add-mod'}
use native.Mathlib.Omega.{arith}
use lib.Pow.{shr-shr}
use lib.Dec.{ltb}
use lib.IntN.{ℤ, pos, negsuc}
use lib.Signed.{mag}
use borrow.Author.Tests.{lt-ltb, le-ltb, ltb-false}
use Rattle.wire.specs.BigEndian.{be16, be24, be32, byte0, byte1, byte2, byte3}
use Rattle.wire.specs.Signed.{signed, bits}

pub spelled16 : (w : ℕ) → w < 65536 → be16 (byte1 w) (byte0 w) ≡ w
spelled16 w h = omega arith

pub spelled24 : (w : ℕ) → w < 16777216 → be24 (byte2 w) (byte1 w) (byte0 w) ≡ w
spelled24 w h = omega (arith, shr-shr w 8 8, div-add-mod' w 256, div-add-mod' (w / 256) 256)

pub spelled32 : (w : ℕ) → w < 2 ^ 32 → be32 (byte3 w) (byte2 w) (byte1 w) (byte0 w) ≡ w
spelled32 w h =
    let top : w / 16777216 % 256 ≡ w / 16777216 = omega arith in
    omega (arith, shr-shr w 8 8, shr-shr w 16 8, div-add-mod' w 256, div-add-mod' (w / 256) 256, div-add-mod' (w / 65536) 256)

module _ (a b : ℕ) (ha : a < 256) (hb : b < 256) where
  pub of16 : (byte1 (be16 a b) ≡ a) × (byte0 (be16 a b) ≡ b)
  of16 = omega arith

  module _ (c : ℕ) (hc : c < 256) where
    pub of24 : (byte2 (be24 a b c) ≡ a) × (byte1 (be24 a b c) ≡ b) × (byte0 (be24 a b c) ≡ c)
    of24 = omega arith

    pub of32 : (d : ℕ) → d < 256
        → (byte3 (be32 a b c d) ≡ a) × (byte2 (be32 a b c d) ≡ b) × (byte1 (be32 a b c d) ≡ c) × (byte0 (be32 a b c d) ≡ d)
    of32 d hd = omega arith

-- a signed number is the one that its bits mean
module _ (half : ℕ) where
  pub signed_bits : (z : ℤ) → mag z < half → signed half (half + half) (bits (half + half) z) ≡ z
  signed_bits (pos n) h = rw (lt-ltb n half h)
  signed_bits (negsuc n) h =
      rw (le-ltb (half + half - 1 - n) half (omega arith)) (ap negsuc (omega arith))

  -- and bits are those of the number that they mean
  pub bits_signed : (v : ℕ) → v < half + half → bits (half + half) (signed half (half + half) v) ≡ v
  bits_signed v h = go (ltb v half) refl
    where
      go : (t : Bool) → ltb v half ≡ t → bits (half + half) (cond t (pos v) (negsuc (half + half - 1 - v))) ≡ v
      go true e = refl
      go false e = omega (arith, ltb-false v half e)
