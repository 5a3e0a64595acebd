-- What the reader answers: document 01's numbers 1, 2, 4 to 11, and 26 between 8 and 9, the first that applies, or the notice. A reader has a limit of its own
-- on the addressing field, given with each call (document 02, Paper 9); the full board's is 163, and refuses nothing with 26.
use Rattle.std.specs.Prelude.{ℕ, ◌+◌, min, Bool, ◌||◌, List, length, eqb, leb}
use Rattle.wire.specs.Reply.{Reply, must, or_else, reply}
use Rattle.wire.specs.Standards.{packet_length, sync_byte, mip_pid, section_beside, longest_addressing, dvb_second}
use Rattle.check_value.specs.Register.{register}
use Rattle.times.specs.Release.{in_second}
use Rattle.addressing.specs.Entries.{well_formed}
use Rattle.notice.specs.Mip.{sync, error_indicator, unit_start_and_priority, packet_identifier, scrambling_and_adaptation, synchronization_id, section_length, synchronization_time_stamp, maximum_delay, individual_addressing_length, addressing_field, through_check, notice_in}
use Rattle.notice.specs.declared.Notice.{Notice}

-- 1, 2, 4, 5: a packet, undamaged, that is a MIP
unfoldable pub packet_refusal : List ℕ → ℕ
packet_refusal s =
    must (eqb (length s) packet_length) 1
    (must (eqb (sync s) sync_byte) 2
    (must (eqb (error_indicator s) 0) 4
    (must (eqb (packet_identifier s) mip_pid) 5
    0)))

-- a limit above 163 is 163
abbrev pub limit_of : ℕ → ℕ
limit_of limit = min limit longest_addressing

-- 6, 7, 8, 26, 9: the fixed header bits, the scheme, the lengths, the reader's limit and the check value
unfoldable pub section_refusal : List ℕ → ℕ → ℕ
section_refusal s limit =
    must (eqb (unit_start_and_priority s) 3) 6
    (must (eqb (scrambling_and_adaptation s) 1) 6
    (must (eqb (synchronization_id s) 0) 7
    (must (leb (individual_addressing_length s) longest_addressing) 8
    (must (eqb (section_length s) (section_beside + individual_addressing_length s)) 8
    (must (leb (individual_addressing_length s) (limit_of limit)) 26
    (must (eqb (register (through_check s)) 0) 9
    0))))))

-- the numbers of a section that come before 9: those of a notice above the limit
abbrev pub before_check : ℕ → Bool
before_check k = eqb k 6 || eqb k 7 || eqb k 8 || eqb k 26

-- 10 and 11: the addressing field's form and the times
unfoldable pub body_refusal : List ℕ → ℕ
body_refusal s =
    must (well_formed (addressing_field s)) 10
    (must (in_second dvb_second (synchronization_time_stamp s).0) 11
    (must (in_second dvb_second (maximum_delay s).0) 11
    0))

unfoldable pub read_refusal : List ℕ → ℕ → ℕ
read_refusal s limit = or_else (packet_refusal s) (or_else (section_refusal s limit) (body_refusal s))

unfoldable pub read_of : List ℕ → ℕ → Reply Notice
read_of s limit = reply (read_refusal s limit) (notice_in s)
