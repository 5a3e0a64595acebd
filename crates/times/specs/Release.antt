-- The times of a release for a second of u units, and the limits that they keep.
-- Document 01, "Two clocks" and "Release", refusals 3, 11, 13 and 14; document 02, Papers 2 and 3; A/110 6.4.2 and 6.4.5.
use Rattle.std.specs.Prelude.{◌≡◌, Bool, true, cond, ◌&&◌, ℕ, ◌+◌, ◌-◌, ◌<◌, ltb, ℤ, pos, ◌+ℤ◌, ◌-ℤ◌}
use Rattle.std.specs.Int.Signed.{lt_z}
use Rattle.times.specs.Whole.{plus, residue, within}

-- a sum of u or more loses u (Paper 2)
unfoldable pub wrap : ℕ → ℕ → ℕ
wrap u x = cond (ltb x u) x (x - u)

-- R, the reference emission time: STS + MD
abbrev pub reference : ℕ → ℕ → ℕ → ℕ
reference u sts md = wrap u (sts + md)

-- S, the emission time: STS + MD + OD
abbrev pub emission : ℕ → ℕ → ℕ → ℤ → ℕ
emission u sts md od = wrap u (plus (sts + md) od)

-- the modulation time: emission − TAD, plus u if negative
unfoldable pub modulation : ℕ → ℕ → ℕ → ℕ
modulation u e tad = cond (ltb e tad) (e + u - tad) (e - tad)

-- the link delay: (arrival − STS) mod u
unfoldable pub link_delay : ℕ → ℕ → ℕ → ℕ
link_delay u arrival sts = residue u (pos arrival -ℤ pos sts)

-- the wait: MD + OD − TAD − link delay, signed and never reduced
abbrev pub wait : ℕ → ℤ → ℕ → ℕ → ℤ
wait md od tad link = pos md +ℤ od -ℤ pos tad -ℤ pos link

-- a negative wait is late
abbrev pub negative : ℤ → Bool
negative w = lt_z w (pos 0)

-- by so much: minus the wait, 0 where that would be negative (Paper 3)
abbrev pub lateness : ℤ → ℕ
lateness w = plus 0 (pos 0 -ℤ w)

-- at most u − 1, as an arrival tick (3), STS and MD (11) and TAD (15) must be
abbrev pub in_second : ℕ → ℕ → Bool
in_second u t = ltb t u

-- 13: MD + OD is within 0 to u − 1
unfoldable pub delay_fits : ℕ → ℕ → ℤ → Bool
delay_fits u md od = within 0 u (pos md +ℤ od)

-- 13 in profile 1: MD + OD + TAD is also within 1 to u − 1 (A/110 6.4.2)
unfoldable pub delay_fits_a110 : ℕ → ℕ → ℤ → ℕ → Bool
delay_fits_a110 u md od tad = delay_fits u md od && within 1 u (pos md +ℤ od +ℤ pos tad)

-- what a mark is released with
pub record Times : Type 0 where
  pub reference : ℕ
  pub emission : ℕ
  pub modulation : ℕ
  pub wait : ℤ

-- a mark that is due is late by so much, or released with its times
pub data Due : Type 0 where
  late : ℕ → Due
  released : Times → Due

-- a mark of STS, MD and OD that came at the tick `arrival` to a site with TAD
module _ (u sts md : ℕ) (od : ℤ) (tad arrival : ℕ) where
  abbrev pub wait_of : ℤ
  wait_of = wait md od tad (link_delay u arrival sts)

  abbrev pub times_of : Times
  times_of =
      record {
        reference = reference u sts md;
        emission = emission u sts md od;
        modulation = modulation u (emission u sts md od) tad;
        wait = wait_of;
      }

  -- the sign of the wait decides
  unfoldable pub due_of : Due
  due_of = cond (negative wait_of) (late (lateness wait_of)) (released times_of)

  -- the limits that a sound slave's notice keeps at a tick of its second
  pub record Kept : Type 0 where
    pub sts_less : sts < u
    pub md_less : md < u
    pub delay_in_second : delay_fits u md od ≡ true
    pub tad_less : tad < u
    pub arrival_less : arrival < u
