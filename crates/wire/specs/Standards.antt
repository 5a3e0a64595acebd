-- The numbers that the standards fix, each named once.
use Rattle.std.specs.Prelude.{ℕ}

-- a transport packet's bytes, and its first (ISO/IEC 13818-1)
abbrev pub packet_length : ℕ
packet_length = 188

abbrev pub sync_byte : ℕ
sync_byte = 0x47

-- the MIP's packet identifier (TS 101 191, clause 6)
abbrev pub mip_pid : ℕ
mip_pid = 0x15

-- the addressing field's first byte, and the bytes that section_length counts beside the field (table 1)
abbrev pub addressing_start : ℕ
addressing_start = 21

abbrev pub section_beside : ℕ
section_beside = 19

-- crc_32's bytes (table 1)
abbrev pub check_length : ℕ
check_length = 4

-- the section counts at most 182 bytes in all (clause 6)
abbrev pub longest_addressing : ℕ
longest_addressing = 163

-- U, the units of a second: 100 ns steps (TS 101 191) and transport stream bit periods (A/110 6.4)
abbrev pub dvb_second : ℕ
dvb_second = 10_000_000

abbrev pub a110_second : ℕ
a110_second = 0x127_E892
