-- What a sound slave's parts satisfy, and how a slave is shown to be sound.
use Rattle.std.proofs.Common.{◌≡◌, true, ℕ, ◌<◌, ℤ, arith}
use lib.Dec.{ltb}
use Rattle.std.proofs.lemmas.Int.{ints}
use Rattle.std.proofs.lemmas.Bool.Decides.{nat_tests}
use Rattle.times.specs.Release.{in_second, delay_fits, Kept}
use Rattle.times.proofs.Formulas.{fits_a110}
use Rattle.cadence.specs.Cadence.{admits}
use Rattle.cadence.proofs.Lengths.{admitted_range}
use Rattle.state.specs.Profile.{second, delay_kept, settings_kept}
use Rattle.state.specs.Slave.{hunting}
use Rattle.state.specs.Sound.{is_zero, frequency_fits, index_fits, is_nothing, waiting_fits, is_unset, is_uncounted, hunting_fits, locked_fits, parts_fit, sound}
use Rattle.state.specs.declared.Board.{Board}
use Rattle.state.specs.declared.Slave.{Slave}

-- ---- the settings of a start
module _ (b : Board) (k : settings_kept b ≡ true) where
  pub admitted : admits b.profile b.n ≡ true
  unfolding settings_kept
  admitted = grind (arith, nat_tests)

  -- a cadence has packets
  pub some_packets : 0 < b.n
  some_packets = omega (arith, admitted_range b.profile b.n admitted)

  pub profile_small : b.profile < 2
  unfolding admits
  profile_small = let a = admitted in grind (arith, nat_tests)

  tad_less : b.tad < second b.profile
  unfolding settings_kept
  tad_less = grind (arith, nat_tests)

-- ---- 13
-- what the profile's 13 says of MD + OD, for the profile's second
delay_second : (b : Board) (md : ℕ) (od : ℤ) → delay_kept b md od ≡ true → delay_fits (second b.profile) md od ≡ true
unfolding delay_kept second
delay_second b md od h = grind (arith, nat_tests, fits_a110)

-- ---- a sound slave
-- what a locked one has
pub record Locked (s : Slave) : Type 0 where
  pub frequency : frequency_fits s.settings.frequency ≡ true
  pub small : ltb s.count.next s.board.n ≡ true
  pub index : index_fits s.board.profile s.count.index ≡ true
  pub held : waiting_fits s.board s.settings.od s.waiting ≡ true

module _ (s : Slave) (ok : sound s ≡ true) where
  pub settings_kept_lem : settings_kept s.board ≡ true
  unfolding sound
  settings_kept_lem = grind (arith, nat_tests)

  pub locked : s.count.phase ≡ 2 → Locked s
  unfolding sound parts_fit locked_fits
  locked e =
      record {
        frequency = grind (arith, nat_tests);
        small = grind (arith, nat_tests);
        index = grind (arith, nat_tests);
        held = grind (arith, nat_tests);
      }

  -- either phase has a frequency and an index that fit, and a label below n
  pub record Fitting : Type 0 where
    pub frequency : frequency_fits s.settings.frequency ≡ true
    pub index : index_fits s.board.profile s.count.index ≡ true
    pub below : s.count.next < s.board.n

  pub fitting : Fitting
  unfolding sound parts_fit hunting_fits is_unset is_uncounted is_zero locked_fits frequency_fits index_fits
  fitting =
      let p = some_packets s.board settings_kept_lem in
      record { frequency = grind (arith, ints, nat_tests); index = grind (arith, nat_tests); below = grind (arith, nat_tests) }

  -- a pending notice keeps the limits of a release at any tick of the second
  pub pending_kept : s.count.phase ≡ 2 → s.waiting.pending ≡ 1 → (tick : ℕ) → in_second (second s.board.profile) tick ≡ true
      → Kept (second s.board.profile) s.waiting.sts s.waiting.md s.settings.od s.board.tad tick
  unfolding waiting_fits
  pending_kept e p tick t =
      let held = (locked e).held in
      record {
        sts_less = grind (arith, nat_tests);
        md_less = grind (arith, nat_tests);
        delay_in_second = delay_second s.board _ _ (grind (arith, nat_tests));
        tad_less = tad_less s.board settings_kept_lem;
        arrival_less = grind (arith, nat_tests);
      }

-- ---- how a slave is sound
pub is_sound : (s : Slave) → s.count.phase ≡ 2 → settings_kept s.board ≡ true → Locked s → sound s ≡ true
unfolding sound parts_fit locked_fits
is_sound s p k l = rw (k, p, l.frequency, l.small, l.index, l.held)

pub hunting_sound : (b : Board) → settings_kept b ≡ true → sound (hunting b) ≡ true
unfolding sound parts_fit hunting_fits is_unset is_uncounted is_nothing is_zero
hunting_sound b e = rw e
