-- What an accepted packet satisfies, rule by rule, and that these rules are all: the reader's numbers as one record. Of a reader of any limit.
use mathlib.Core.Path.{◌≡◌}
use mathlib.Core.Bool.{true}
use mathlib.Core.List.{List}
use Prim.Native.Nat.{ℕ, ◌+◌, ◌≤◌}
use native.Mathlib.Omega.{arith}
use lib.ListN.{length, drop, length-drop}
use lib.Seq.{length-take-le}
use Rattle.std.proofs.lemmas.Bool.Decides.{nat_tests}
use Rattle.wire.specs.Reply.{given}
use Rattle.wire.specs.Standards.{packet_length, sync_byte, mip_pid, addressing_start, section_beside, longest_addressing, dvb_second}
use Rattle.wire.proofs.Tests.{reply_gives, given_zero}
use Rattle.check_value.specs.Register.{register}
use Rattle.times.specs.Release.{in_second}
use Rattle.addressing.specs.Entries.{well_formed}
use Rattle.notice.specs.Mip.{sync, error_indicator, unit_start_and_priority, packet_identifier, scrambling_and_adaptation, synchronization_id, section_length, synchronization_time_stamp, maximum_delay, individual_addressing_length, addressing_field, through_check, notice_in}
use Rattle.notice.specs.Reader.{limit_of, packet_refusal, section_refusal, body_refusal, read_refusal, read_of}
use Rattle.notice.specs.declared.Notice.{Notice}

pub record Sound (s : List ℕ) (limit : ℕ) : Type 0 where
  pub long : length s ≡ packet_length
  pub sync : sync s ≡ sync_byte
  pub whole : error_indicator s ≡ 0
  pub pid : packet_identifier s ≡ mip_pid
  pub start : unit_start_and_priority s ≡ 3
  pub control : scrambling_and_adaptation s ≡ 1
  pub scheme : synchronization_id s ≡ 0
  pub room : individual_addressing_length s ≤ longest_addressing
  pub section : section_length s ≡ section_beside + individual_addressing_length s
  pub within : individual_addressing_length s ≤ limit_of limit
  pub check : register (through_check s) ≡ 0
  pub form : well_formed (addressing_field s) ≡ true
  pub sts : in_second dvb_second (synchronization_time_stamp s).0 ≡ true
  pub md : in_second dvb_second (maximum_delay s).0 ≡ true

module _ (s : List ℕ) (limit : ℕ) where
  pub accepted_sound : read_refusal s limit ≡ 0 → Sound s limit
  unfolding read_refusal packet_refusal section_refusal body_refusal
  accepted_sound e =
      record {
        long = grind (arith, nat_tests);
        sync = grind (arith, nat_tests);
        whole = grind (arith, nat_tests);
        pid = grind (arith, nat_tests);
        start = grind (arith, nat_tests);
        control = grind (arith, nat_tests);
        scheme = grind (arith, nat_tests);
        room = grind (arith, nat_tests);
        section = grind (arith, nat_tests);
        within = grind (arith, nat_tests);
        check = grind (arith, nat_tests);
        form = grind (arith, nat_tests);
        sts = grind (arith, nat_tests);
        md = grind (arith, nat_tests);
      }

  pub sound_accepted : Sound s limit → read_refusal s limit ≡ 0
  unfolding read_refusal packet_refusal section_refusal body_refusal
  sound_accepted k = grind (arith, nat_tests)

  pub sound_reads : Sound s limit → read_of s limit ≡ given (notice_in s)
  unfolding read_of
  sound_reads k = reply_gives (read_refusal s limit) (notice_in s) (sound_accepted k)

  -- the addressing field that is lent with it: all its bytes
  pub field_whole : Sound s limit → length (addressing_field s) ≡ individual_addressing_length s
  field_whole k = length-take-le (individual_addressing_length s) (drop addressing_start s) (omega (arith, length-drop addressing_start s, k.long, k.room))

  pub reads_sound : (n : Notice) → read_of s limit ≡ given n → Sound s limit × (notice_in s ≡ n)
  unfolding read_of
  reads_sound n e =
      let g = given_zero (read_refusal s limit) (notice_in s) n e in
      (accepted_sound g.0, g.1)
