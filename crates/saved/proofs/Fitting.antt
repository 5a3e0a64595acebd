-- A block that fits, test by test, whatever slave it is read as.
use mathlib.Core.Path.{◌≡◌}
use mathlib.Core.Bool.{true}
use mathlib.Core.List.{List}
use Prim.Native.Nat.{ℕ}
use native.Mathlib.Omega.{arith}
use Rattle.std.proofs.lemmas.Bool.{eq-eqb}
use Rattle.std.proofs.lemmas.Bool.Decides.{nat_tests}
use Rattle.check_value.specs.Register.{register}
use Rattle.state.specs.Sound.{sound}
use Rattle.state.specs.declared.Slave.{Slave}
use Rattle.saved.specs.Block.{trailer_site, shaped, from_body, block_fits}

module _ (s : Slave) (b : List ℕ) where
  pub fits_sound : shaped b ≡ true → register (from_body b) ≡ 0 → trailer_site b ≡ s.board.site → sound s ≡ block_fits s b
  unfolding block_fits
  fits_sound e z h = rw (e, eq-eqb (register (from_body b)) 0 z, eq-eqb (trailer_site b) s.board.site h)

  -- and what one that fits has
  pub record Fitting : Type 0 where
    pub shape : shaped b ≡ true
    pub check : register (from_body b) ≡ 0
    pub site : trailer_site b ≡ s.board.site
    pub is_sound : sound s ≡ true

  pub fitting : block_fits s b ≡ true → Fitting
  unfolding block_fits
  fitting e =
      record { shape = grind (arith, nat_tests); check = grind (arith, nat_tests); site = grind (arith, nat_tests); is_sound = grind (arith, nat_tests) }
