-- Whole numbers as differences of naturals: z is a − b. Residues of whole numbers are read off such a difference, in naturals.
use Rattle.std.proofs.Common.{◌≡◌, sym, ap, ◌∙◌, ℕ, suc, ◌+◌, ◌*◌, ◌/◌, ◌%◌, ◌<◌, ◌≤◌, arith, ℤ, pos, negsuc, ◌+ℤ◌, ◌-ℤ◌}
use native.Mathlib.Nat.{div-add-mod', mod-lt, mod-eq_of_lt, add-mul-mod_self_right}
use borrow.Author.Differences.{up, down}
use Rattle.std.proofs.lemmas.Int.{ints}
use Rattle.times.specs.Whole.{plus, residue}

-- z is a − b
pub record Diff (z : ℤ) (a b : ℕ) : Type 0 where
  pub is : up z + b ≡ a + down z

pub natural : (n : ℕ) → Diff (pos n) n 0
natural n = record { is = omega arith }

pub sum : {x y : ℤ} {a b c d : ℕ} → Diff x a b → Diff y c d → Diff (x +ℤ y) (a + c) (b + d)
sum p q = record { is = omega (arith, ints) }

pub difference : {x y : ℤ} {a b c d : ℕ} → Diff x a b → Diff y c d → Diff (x -ℤ y) (a + d) (b + c)
difference p q = record { is = omega (arith, ints) }

-- ---- n plus z
pub plus_is : (n : ℕ) (z : ℤ) → down z ≤ n + up z → pos (plus n z) ≡ pos n +ℤ z
plus_is n (pos k) h = omega (arith, ints)
plus_is n (negsuc k) h = omega (arith, ints)

-- ---- residues
-- numbers of one remainder by u differ by multiples of u
pub differ : (u a b : ℕ) → a % u ≡ b % u → a + b / u * u ≡ b + a / u * u
differ u a b e = omega (arith, div-add-mod' a u, div-add-mod' b u)

pub congruent : (u a b p q : ℕ) → a + p * u ≡ b + q * u → a % u ≡ b % u
congruent u a b p q e = sym (add-mul-mod_self_right a p u) ∙ ap (λ (n : ℕ). n % u) e ∙ add-mul-mod_self_right b q u

module _ {u : ℕ} (some : 0 < u) where
  pub residue_less : (z : ℤ) → residue u z < u
  residue_less (pos k) = mod-lt k some
  residue_less (negsuc k) = omega arith

  residue_own : (z : ℤ) → (residue u z + down z) % u ≡ up z % u
  residue_own (pos k) = congruent u _ _ (k / u) 0 (omega (arith, div-add-mod' k u))
  residue_own (negsuc k) = congruent u _ _ 0 (suc (k / u)) (omega (arith, div-add-mod' k u, mod-lt k some))

  module _ {z : ℤ} {a b : ℕ} (d : Diff z a b) where
    -- the residue of a − b, and the only number below u with a's residue when b is added
    pub residue_is : (residue u z + b) % u ≡ a % u
    residue_is =
        let m = differ u (residue u z + down z) (up z) (residue_own z) in
        congruent u (residue u z + b) a (up z / u) ((residue u z + down z) / u) (omega arith)

    pub residue_only : (r : ℕ) → r < u → (r + b) % u ≡ a % u → residue u z ≡ r
    residue_only r h e = sym (mod-eq_of_lt (residue_less z)) ∙ go ∙ mod-eq_of_lt h
      where
        go : residue u z % u ≡ r % u
        go =
            let m = differ u (residue u z + b) (r + b) (residue_is ∙ sym e) in
            congruent u (residue u z) r ((r + b) / u) ((residue u z + b) / u) (omega arith)
