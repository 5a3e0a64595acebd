-- The cases of a mark that is due: late, or released with its times.
use Rattle.std.proofs.Common.{◌≡◌, true, false, ℕ, ℤ, arith}
use Rattle.times.specs.Release.{negative, lateness, Times, late, released, wait_of, times_of, due_of}

module _ (u sts md : ℕ) (od : ℤ) (tad arrival : ℕ) where
  pub due_late : negative (wait_of u sts md od tad arrival) ≡ true → due_of u sts md od tad arrival ≡ late (lateness (wait_of u sts md od tad arrival))
  unfolding due_of
  due_late e = rw e

  pub due_released : negative (wait_of u sts md od tad arrival) ≡ false → due_of u sts md od tad arrival ≡ released (times_of u sts md od tad arrival)
  unfolding due_of
  due_released e = rw e

  -- what a released mark has passed
  pub record Passed (t : Times) : Type 0 where
    pub in_time : negative (wait_of u sts md od tad arrival) ≡ false
    pub times_are : times_of u sts md od tad arrival ≡ t

  pub passed : (t : Times) → due_of u sts md od tad arrival ≡ released t → Passed t
  unfolding due_of
  passed t e = record { in_time = grind arith; times_are = grind arith }

  -- and a late one has missed
  pub record Missed (x : ℕ) : Type 0 where
    pub too_late : negative (wait_of u sts md od tad arrival) ≡ true
    pub by : lateness (wait_of u sts md od tad arrival) ≡ x

  pub missed : (x : ℕ) → due_of u sts md od tad arrival ≡ late x → Missed x
  unfolding due_of
  missed x e = record { too_late = grind arith; by = grind arith }
