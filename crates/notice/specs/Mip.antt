-- The fields of the Mega-frame Initialization Packet, TS 101 191 table 1, in the order in which they stand in its 188 bytes.
use Rattle.std.specs.Prelude.{ℕ, ◌+◌, ◌/◌, ◌%◌, Bool, List, get_or, take, drop, leb}
use Rattle.wire.specs.Standards.{addressing_start, check_length}
use Rattle.wire.specs.BigEndian.{be16_at, be24_at, be32_at}
use Rattle.times.specs.declared.Steps.{Steps}
use Rattle.notice.specs.declared.Notice.{Notice}

-- transport_packet_header (ISO/IEC 13818-1, 2.4.3.2)
abbrev pub sync : List ℕ → ℕ
sync s = get_or s 0 0

abbrev pub error_indicator : List ℕ → ℕ
error_indicator s = get_or s 1 0 / 128

abbrev pub unit_start_and_priority : List ℕ → ℕ
unit_start_and_priority s = get_or s 1 0 / 32 % 4

abbrev pub packet_identifier : List ℕ → ℕ
packet_identifier s = be16_at s 1 % 8192

abbrev pub scrambling_and_adaptation : List ℕ → ℕ
scrambling_and_adaptation s = get_or s 3 0 / 16

abbrev pub continuity_counter : List ℕ → ℕ
continuity_counter s = get_or s 3 0 % 16

abbrev pub synchronization_id : List ℕ → ℕ
synchronization_id s = get_or s 4 0

abbrev pub section_length : List ℕ → ℕ
section_length s = get_or s 5 0

abbrev pub pointer : List ℕ → ℕ
pointer s = be16_at s 6

abbrev pub periodic_flag : List ℕ → Bool
periodic_flag s = leb 128 (get_or s 8 0)

abbrev pub future_use : List ℕ → ℕ
future_use s = be16_at s 8 % 32768

abbrev pub synchronization_time_stamp : List ℕ → Steps
synchronization_time_stamp s = record { 0 = be24_at s 10 }

abbrev pub maximum_delay : List ℕ → Steps
maximum_delay s = record { 0 = be24_at s 13 }

abbrev pub tps_mip : List ℕ → ℕ
tps_mip s = be32_at s 16

abbrev pub individual_addressing_length : List ℕ → ℕ
individual_addressing_length s = get_or s 20 0

-- the addressing field; of bytes that end early, what is there
abbrev pub addressing_field : List ℕ → List ℕ
addressing_field s = take (individual_addressing_length s) (drop addressing_start s)

-- all bytes through crc_32, which leave zero; what follows is stuffing
abbrev pub through_check : List ℕ → List ℕ
through_check s = take (addressing_start + check_length + individual_addressing_length s) s

-- what a notice says
abbrev pub notice_in : List ℕ → Notice
notice_in s = record {
  continuity = continuity_counter s;
  pointer = pointer s;
  periodic = periodic_flag s;
  reserved = future_use s;
  sts = synchronization_time_stamp s;
  md = maximum_delay s;
  tps = tps_mip s;
}
