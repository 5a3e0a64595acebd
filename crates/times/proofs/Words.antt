-- Sums of signed 64-bit numbers: the word v holds z, whose size is at most k.
-- Each sum asks that the sum of the bounds is below 2 ^ 63.
use Rattle.std.proofs.Common.{◌≡◌, ℕ, ◌+◌, ◌^◌, ◌≤◌, ◌<◌, arith, ℤ, pos, ◌+ℤ◌, w64, to_z, of_z}
use lib.IntN.{nat_abs}
use mir.Syntax.{w16}
use mir.Val.{SFits}
use Rattle.std.proofs.lemmas.Int.{ints}

pub record Holds (v : ℕ) (z : ℤ) (k : ℕ) : Type 0 where
  pub is : to_z w64 v ≡ z
  pub small : nat_abs z ≤ k

-- ---- what is cast to i64
pub from_u32 : {n : ℕ} → n < 2 ^ 32 → Holds n (pos n) (2 ^ 32)
from_u32 {n} h = record { is = omega (arith, ints); small = omega arith }

pub from_i16 : {z : ℤ} → SFits w16 z → Holds (of_z w64 (to_z w16 (of_z w16 z))) z (2 ^ 15)
from_i16 {z} h = record { is = omega (arith, ints); small = omega (arith, ints) }

pub from_i64 : {z : ℤ} {k : ℕ} → nat_abs z ≤ k → k < 2 ^ 63 → Holds (of_z w64 z) z k
from_i64 {z} h l = record { is = omega (arith, ints); small = h }

-- ---- a sum
pub sum_holds : {v w : ℕ} {x y : ℤ} {j k : ℕ} → Holds v x j → Holds w y k → j + k < 2 ^ 63 → Holds (of_z w64 (to_z w64 v +ℤ to_z w64 w)) (x +ℤ y) (j + k)
sum_holds p q l = record { is = omega (arith, ints); small = omega (arith, ints) }
