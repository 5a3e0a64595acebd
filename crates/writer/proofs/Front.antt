-- The first bytes of a list, one by one, and the fields that they spell: a packet's head is what the writer makes of its notice.
use mathlib.Core.Path.{◌≡◌, refl, sym, ap, ◌∙◌}
use mathlib.Core.Bool.{Bool, true, false, cond}
use mathlib.Core.List.{List, [], ◌∷◌}
use Prim.Native.Nat.{ℕ, ◌+◌, ◌%◌, ◌<◌}
use native.Mathlib.Omega.{arith}
use lib.Dec.{leb}
use lib.ListN.{get_or}
use borrow.Author.Tests.{leb-true, leb-false}
use Rattle.wire.specs.BigEndian.{be16, be16_at, byte0, byte1}
use Rattle.wire.proofs.Numbers.{of16, of24, of32}
use Rattle.wire.proofs.Bytes.{Bytes, elements}
use Rattle.notice.specs.Mip.{individual_addressing_length, notice_in}
use Rattle.writer.specs.Writer.{flags_of, head_of}
use Rattle.notice.proofs.Sound.{Sound}

-- flag and reserved bits make the two bytes again
flags_again : (a b : ℕ) (t : Bool) → leb 128 a ≡ t → a < 256 → b < 256 → cond t (32768 + be16 a b % 32768) (be16 a b % 32768) ≡ be16 a b
flags_again a b true e ha hb = omega (arith, leb-true 128 a e)
flags_again a b false e ha hb = omega (arith, leb-false 128 a e)

module _ (s : List ℕ) (limit : ℕ) (k : Sound s limit) (bytes : Bytes s) where
  -- the fixed bits of bytes 1 to 3
  second : 0x60 ≡ get_or s 1 0
  second = omega (arith, k.whole, k.start, k.pid, bytes 1, bytes 2)

  third : 0x15 ≡ get_or s 2 0
  third = omega (arith, k.whole, k.start, k.pid, bytes 1, bytes 2)

  fourth : 0x10 + get_or s 3 0 % 16 ≡ get_or s 3 0
  fourth = omega (arith, k.control)

  flags : flags_of (notice_in s) ≡ be16_at s 8
  flags = flags_again (get_or s 8 0) (get_or s 9 0) (leb 128 (get_or s 8 0)) refl (bytes 8) (bytes 9)

  pub head_again : head_of (notice_in s) (individual_addressing_length s) ≡ elements 21 0 s
  unfolding head_of
  head_again =
      let p = of16 (get_or s 6 0) (get_or s 7 0) (bytes 6) (bytes 7) in
      let f = of16 (get_or s 8 0) (get_or s 9 0) (bytes 8) (bytes 9) in
      let t = of24 (get_or s 10 0) (get_or s 11 0) (bytes 10) (bytes 11) (get_or s 12 0) (bytes 12) in
      let m = of24 (get_or s 13 0) (get_or s 14 0) (bytes 13) (bytes 14) (get_or s 15 0) (bytes 15) in
      let q = of32 (get_or s 16 0) (get_or s 17 0) (bytes 16) (bytes 17) (get_or s 18 0) (bytes 18) (get_or s 19 0) (bytes 19) in
      let f₁ : byte1 (flags_of (notice_in s)) ≡ get_or s 8 0 = ap byte1 flags ∙ f.0 in
      let f₀ : byte0 (flags_of (notice_in s)) ≡ get_or s 9 0 = ap byte0 flags ∙ f.1 in
      λ i. sym k.sync i ∷ second i ∷ third i ∷ fourth i ∷ sym k.scheme i ∷ sym k.section i
      ∷ p.0 i ∷ p.1 i ∷ f₁ i ∷ f₀ i ∷ t.0 i ∷ t.1 i ∷ t.2 i ∷ m.0 i ∷ m.1 i ∷ m.2 i
      ∷ q.0 i ∷ q.1 i ∷ q.2 i ∷ q.3 i ∷ get_or s 20 0 ∷ []
