-- A reader's own limit on the addressing field (document 02, Paper 9): above 163 it is 163, and the full board's reader is document 01's. A notice within two
-- limits is read alike by both. One above the limit is never read: it is 26 where no number before it applies, whatever its check value, form and times.
use mathlib.Core.Path.{◌≡◌, refl}
use mathlib.Core.Bool.{true}
use mathlib.Core.List.{List}
use Prim.Native.Nat.{ℕ, ◌+◌, ◌≤◌, ◌<◌}
use native.Mathlib.Omega.{arith}
use lib.Dec.{eqb, leb}
use lib.ListN.{length}
use Rattle.std.proofs.lemmas.Bool.Decides.{nat_tests}
use Rattle.wire.specs.Reply.{refused, given, must}
use Rattle.wire.specs.Standards.{section_beside, longest_addressing}
use Rattle.check_value.specs.Register.{register}
use Rattle.notice.specs.Mip.{unit_start_and_priority, scrambling_and_adaptation, synchronization_id, section_length, individual_addressing_length, addressing_field, through_check}
use Rattle.notice.specs.declared.Notice.{Notice}
use Rattle.notice.specs.Reader.{limit_of, packet_refusal, section_refusal, before_check, read_refusal, read_of}
use Rattle.notice.proofs.Sound.{Sound, field_whole, reads_sound}

-- the limits from 0 to 163 are all
pub above_163 : (limit : ℕ) → longest_addressing ≤ limit → limit_of limit ≡ longest_addressing
above_163 limit h = omega (arith, h)

pub up_to_163 : (limit : ℕ) → limit ≤ longest_addressing → limit_of limit ≡ limit
up_to_163 limit h = omega (arith, h)

module _ (s : List ℕ) where
  abbrev a : ℕ
  a = individual_addressing_length s

  -- the full board's 6 to 9
  pub full_board :
      section_refusal s longest_addressing
      ≡ must (eqb (unit_start_and_priority s) 3) 6
      (must (eqb (scrambling_and_adaptation s) 1) 6
      (must (eqb (synchronization_id s) 0) 7
      (must (leb a longest_addressing) 8
      (must (eqb (section_length s) (section_beside + a)) 8
      (must (eqb (register (through_check s)) 0) 9
      0)))))
  unfolding section_refusal
  full_board = grind (arith, nat_tests)

  -- limits that are the same for a reader, as 163 and all above it are
  module _ (l m : ℕ) (e : limit_of l ≡ limit_of m) where
    pub section_same : section_refusal s l ≡ section_refusal s m
    unfolding section_refusal
    section_same = rw e refl

    pub read_same : read_of s l ≡ read_of s m
    unfolding read_of read_refusal
    read_same = rw section_same refl

  -- and any limits that the notice is within
  module _ (l m : ℕ) (x : a ≤ limit_of l) (y : a ≤ limit_of m) where
    pub section_alike : section_refusal s l ≡ section_refusal s m
    unfolding section_refusal
    section_alike = grind (arith, nat_tests)

    pub read_alike : read_of s l ≡ read_of s m
    unfolding read_of read_refusal
    read_alike = rw section_alike refl

  -- what 6, 7 and 8 ask
  pub record Front : Type 0 where
    pub start : unit_start_and_priority s ≡ 3
    pub control : scrambling_and_adaptation s ≡ 1
    pub scheme : synchronization_id s ≡ 0
    pub room : a ≤ longest_addressing
    pub section : section_length s ≡ section_beside + a

  module _ (limit : ℕ) (over : limit_of limit < a) where
    -- 6, 7, 8 or 26, and so neither 9 nor none
    pub over_section : before_check (section_refusal s limit) ≡ true
    unfolding section_refusal
    over_section = grind (arith, nat_tests)

    -- 26 where 6, 7 and 8 do not apply
    pub over_26 : Front → section_refusal s limit ≡ 26
    unfolding section_refusal
    over_26 k = grind (arith, nat_tests)

    -- and for a reader where 1, 2, 4 and 5 do not apply either
    pub over_read : packet_refusal s ≡ 0 → Front → read_of s limit ≡ refused 26
    unfolding read_of read_refusal
    over_read e k = rw (e, over_26 k) refl

    -- it is never read
    pub over_refused : (n : Notice) → read_of s limit ≡ given n → ⊥
    over_refused n e = let k = (reads_sound s limit n e).0 in omega (arith, k.within)

  -- the addressing field that comes with a notice that is read: all its bytes, at most the limit's
  pub part_read : (limit : ℕ) (n : Notice) → read_of s limit ≡ given n → (length (addressing_field s) ≡ a) × (length (addressing_field s) ≤ limit_of limit)
  part_read limit n e =
      let k = (reads_sound s limit n e).0 in
      (field_whole s limit k, omega (arith, field_whole s limit k, k.within))

  -- what a notice that some reader reads has passed
  pub sound_front : (limit : ℕ) → Sound s limit → (packet_refusal s ≡ 0) × Front
  unfolding packet_refusal
  sound_front limit k =
      (grind (arith, nat_tests), record { start = k.start; control = k.control; scheme = k.scheme; room = k.room; section = k.section })
