-- The tick that says its clock, and what the calls leave and reply as plain numbers.
use Rattle.std.specs.Prelude.{ℕ, false, cond, List, eqb}
use Rattle.wire.specs.Reply.{Reply, refused, given, number_of, Output}
use Rattle.times.specs.declared.Steps.{Steps}
use Rattle.times.specs.declared.Periods.{Periods}
use Rattle.notice.specs.declared.Notice as Mip
use Rattle.state.specs.declared.Board.{Board}
use Rattle.state.specs.declared.Slave.{Slave}
use Rattle.slave.specs.Answer.{Result}
use Rattle.inserter.specs.declared.Inserter.{Inserter}
use Rattle.inserter.specs.Settings.{Started}
use Rattle.inserter.specs.Packet.{Handled, sent_number}
use Rattle.vikombare.specs.declared.Tick.{Tick}
use Rattle.vikombare.specs.declared.NoticeRead.{NoticeRead}

-- no tick: more than the units of any second
abbrev pub no_tick : ℕ
no_tick = 4294967295

-- a tick is one of the slave's own clock, or none: a count of 100 ns steps and a count of bit periods are never taken one for the other
abbrev pub tick_on : ℕ → Tick → ℕ
tick_on profile t = cond (eqb profile t.profile) t.count no_tick

-- the settings of a board of profile 0, and of profile 1
abbrev pub dvb_board : ℕ → ℕ → Steps → Board
dvb_board n site tad = record { profile = 0; n = n; site = site; tad = tad.0 }

abbrev pub a110_board : ℕ → ℕ → Periods → Board
a110_board n site tad = record { profile = 1; n = n; site = site; tad = tad.0 }

-- what a start, a gap or a resume leaves, with the number of its reply
pub record Changed : Type 0 where
  pub slave : Slave
  pub number : ℕ

abbrev pub changed : Slave → ℕ → Changed
changed s k = record { slave = s; number = k }

abbrev pub flat_change : Result (Unit {0}) → Changed
flat_change r = changed r.slave (number_of r.reply)

-- what a save or a write leaves: its number, and the bytes of the buffer
pub record Filled : Type 0 where
  pub number : ℕ
  pub bytes : List ℕ

abbrev pub filled_with : ℕ → List ℕ → Filled
filled_with k bytes = record { number = k; bytes = bytes }

abbrev pub flat_output : Output → Filled
flat_output o = filled_with (number_of o.reply) o.bytes

-- a notice that was read, with the length of its addressing field
abbrev pub flat_notice : Reply Mip.Notice → ℕ → NoticeRead
flat_notice (refused k) a =
    record {
      number = k;
      notice = record { continuity = 0; pointer = 0; periodic = false; reserved = 0; sts = record { 0 = 0 }; md = record { 0 = 0 }; tps = 0 };
      addressing = 0;
    }
flat_notice (given n) a = record { number = 0; notice = n; addressing = a }

-- what a start of an inserter leaves, with its number
pub record Begun : Type 0 where
  pub inserter : Inserter
  pub number : ℕ

abbrev pub begun_with : Inserter → ℕ → Begun
begun_with s k = record { inserter = s; number = k }

abbrev pub flat_start : Started → Begun
flat_start r = begun_with r.inserter (number_of r.reply)

-- what a packet call of one leaves: the inserter, the bytes of the packet, and the number that refuses it, or that of a packet that is sent
pub record Inserted : Type 0 where
  pub inserter : Inserter
  pub bytes : List ℕ
  pub number : ℕ

abbrev pub inserted_with : Inserter → List ℕ → ℕ → Inserted
inserted_with s bytes k = record { inserter = s; bytes = bytes; number = k }

abbrev pub flat_insert : Handled → Inserted
flat_insert h = inserted_with h.inserter h.bytes (sent_number h.reply)
