-- The log of a capture: the settings, the records one after another, and what is left at the end.
use Rattle.std.specs.Prelude.{ℕ, zero, suc, ◌+◌, ◌-◌, ◌/◌, cond, List, [], ◌++◌, eqb, leb, length, take, drop, get_or}
use Rattle.wire.specs.Reply.{Reply, refused, given}
use Rattle.wire.specs.Standards.{packet_length, longest_addressing}
use Rattle.wire.specs.BigEndian.{be16_at, be32_at}
use Rattle.state.specs.declared.Board.{Board}
use Rattle.state.specs.declared.Slave.{Slave}
use Rattle.slave.specs.Answer.{Report, Result, left}
use Rattle.slave.specs.Calls.{unless15, start_of, packet_of}
use Rattle.text.specs.Line.{refusal_text, line_of, site_line, end_line}

-- the settings: profile (1), n (2), site (2), TAD (4)
abbrev pub settings_length : ℕ
settings_length = 9

abbrev pub board_in : List ℕ → Board
board_in h = record { profile = get_or h 0 0; n = be16_at h 1; site = be16_at h 3; tad = be32_at h 5 }

-- the start that the settings at the front of an input ask for; 15 where they are short
unfoldable pub begun_by : List ℕ → Result (Unit {0})
begun_by h = unless15 (leb settings_length (length h)) (start_of (board_in h))

-- the site line, or the refusal alone
abbrev pub opened_by : Board → Reply (Unit {0}) → List ℕ
opened_by b (refused k) = refusal_text k
opened_by b (given u) = site_line b.site b.n

unfoldable pub opening_of : List ℕ → List ℕ
opening_of h = opened_by (board_in h) (begun_by h).reply

-- a record: its tick (4) and its packet
abbrev pub tick_length : ℕ
tick_length = 4

abbrev pub record_length : ℕ
record_length = tick_length + packet_length

-- what a record does to the slave, a full board's; one that is cut short is refused with 1
unfoldable pub record_of : Slave → List ℕ → Result Report
record_of s r = cond (eqb (length r) record_length) (packet_of s (drop tick_length r) (be32_at r 0) longest_addressing) (left s (refused 1))

-- the first record's bytes
abbrev pub first_of : List ℕ → List ℕ
first_of i = take record_length i

-- the slave after the first k records of an input
unfoldable pub slave_behind : ℕ → Slave → List ℕ → Slave
slave_behind zero s i = s
slave_behind (suc k) s i = slave_behind k (record_of s (first_of i)).slave (drop record_length i)

-- the lines of the first k records, numbered from `number` on
unfoldable pub lines_of : ℕ → ℕ → Slave → List ℕ → List ℕ
lines_of zero number s i = []
lines_of (suc k) number s i =
    line_of number (record_of s (first_of i)).reply
    ++ lines_of k (suc number) (record_of s (first_of i)).slave (drop record_length i)

-- how many records so many bytes are, the last perhaps cut short
abbrev pub records_in : ℕ → ℕ
records_in bytes = (bytes + (record_length - 1)) / record_length

-- the lines of all records of an input from `number` on, and the end line, which counts them all
unfoldable pub rest_of : ℕ → Slave → List ℕ → List ℕ
rest_of number s i = lines_of (records_in (length i)) number s i ++ end_line (number + records_in (length i))

-- what follows the opening; nothing after a refusal
abbrev pub if_started : Reply (Unit {0}) → List ℕ → List ℕ
if_started (refused k) rest = []
if_started (given u) rest = rest

-- the log of a whole capture
unfoldable pub log_of : List ℕ → List ℕ
log_of i = opening_of i ++ if_started (begun_by i).reply (rest_of 0 (begun_by i).slave (drop settings_length i))
