-- Laws of each formula of a release: its cases, its range, and what it is modulo u.
use Rattle.std.proofs.Common.{◌≡◌, true, cond, ℕ, ◌+◌, ◌*◌, ◌-◌, ◌%◌, ◌≤◌, ◌<◌, arith, ℤ, pos, ◌+ℤ◌, ◌-ℤ◌}
use lib.Dec.{ltb}
use lib.Signed.{lt_z, ◌<ℤ◌, ◌≤ℤ◌}
use Rattle.std.proofs.lemmas.Int.{ints}
use Rattle.std.proofs.lemmas.Bool.Decides.{nat_tests}
use Rattle.times.specs.Whole.{plus, within}
use Rattle.times.specs.Release.{wrap, modulation, link_delay, wait, negative, lateness, delay_fits, delay_fits_a110}
use Rattle.times.proofs.Whole.{plus_is, congruent, residue_less, residue_is}

-- ---- a sum of u or more loses u
module _ (u x : ℕ) where
  pub wrap_over : u ≤ x → wrap u x ≡ x - u
  unfolding wrap
  wrap_over h = grind (arith, nat_tests)

  pub wrap_stays : x < u → wrap u x ≡ x
  unfolding wrap
  wrap_stays h = grind (arith, nat_tests)

  pub wrap_less : x < u + u → wrap u x < u
  unfolding wrap
  wrap_less h = grind (arith, nat_tests)

  -- it lost u, or nothing
  wrap_whole : wrap u x + cond (ltb x u) 0 1 * u ≡ x
  unfolding wrap
  wrap_whole = grind (arith, nat_tests)

  pub wrap_residue : wrap u x % u ≡ x % u
  wrap_residue = congruent u (wrap u x) x (cond (ltb x u) 0 1) 0 (omega (arith, wrap_whole))

-- ---- emission less TAD, plus u if negative
module _ (u e tad : ℕ) where
  pub modulation_under : e < tad → modulation u e tad ≡ e + u - tad
  unfolding modulation
  modulation_under h = grind (arith, nat_tests)

  pub modulation_over : tad ≤ e → modulation u e tad ≡ e - tad
  unfolding modulation
  modulation_over h = grind (arith, nat_tests)

  pub modulation_less : e < u → modulation u e tad < u
  unfolding modulation
  modulation_less h = grind (arith, nat_tests)

  modulation_whole : tad ≤ u → modulation u e tad + tad ≡ e + cond (ltb e tad) 1 0 * u
  unfolding modulation
  modulation_whole h = grind (arith, nat_tests)

  pub modulation_residue : tad ≤ u → (modulation u e tad + tad) % u ≡ e % u
  modulation_residue h = congruent u (modulation u e tad + tad) e 0 (cond (ltb e tad) 1 0) (omega (arith, modulation_whole))

-- ---- the link delay
module _ (u arrival sts : ℕ) (some : 0 < u) where
  pub link_less : link_delay u arrival sts < u
  unfolding link_delay
  link_less = residue_less some (pos arrival -ℤ pos sts)

  pub link_residue : (link_delay u arrival sts + sts) % u ≡ arrival % u
  unfolding link_delay
  link_residue = residue_is some (record { is = omega (arith, ints) })

-- ---- 13
pub fits_a110 : (u md : ℕ) (od : ℤ) (tad : ℕ) → delay_fits_a110 u md od tad ≡ true → delay_fits u md od ≡ true
unfolding delay_fits_a110
fits_a110 u md od tad e = grind (arith, nat_tests)

module _ (u md : ℕ) (od : ℤ) (fits : delay_fits u md od ≡ true) where
  -- MD + OD is not negative, and below u
  pub delay_least : pos 0 ≤ℤ (pos md +ℤ od)
  unfolding delay_fits within
  delay_least = grind (arith, ints, nat_tests)

  delay_most : (pos md +ℤ od) <ℤ pos u
  unfolding delay_fits within
  delay_most = grind (arith, ints, nat_tests)

  pub delay_whole : pos (plus md od) ≡ pos md +ℤ od
  delay_whole = plus_is md od (omega (arith, ints, delay_least))

  pub delay_less : plus md od < u
  delay_less = omega (arith, ints, delay_whole, delay_most)

  -- the sum of the emission time
  pub sum_whole : (sts : ℕ) → pos (plus (sts + md) od) ≡ pos sts +ℤ pos md +ℤ od
  sum_whole sts = plus_is (sts + md) od (omega (arith, ints, delay_least))

  pub sum_apart : (sts : ℕ) → plus (sts + md) od ≡ sts + plus md od
  sum_apart sts = omega (arith, ints, delay_whole, sum_whole sts)

-- ---- late exactly when MD + OD is less than TAD and the link delay together
pub late_is : (md : ℕ) (od : ℤ) (tad link : ℕ) → negative (wait md od tad link) ≡ lt_z (pos md +ℤ od) (pos (tad + link))
late_is md od tad link = grind (arith, ints, nat_tests)

-- ---- minus a negative wait, 1 or more
module _ (w : ℤ) (e : negative w ≡ true) where
  pub lateness_minus : w ≡ pos 0 -ℤ pos (lateness w)
  lateness_minus = grind (arith, ints, nat_tests)

  pub lateness_least : 1 ≤ lateness w
  lateness_least = grind (arith, ints, nat_tests)

-- ---- the wait grows as MD does
pub wait_longer : (md y : ℕ) (od : ℤ) (tad link : ℕ) → wait (md + y) od tad link ≡ wait md od tad link +ℤ pos y
wait_longer md y od tad link = omega (arith, ints)
