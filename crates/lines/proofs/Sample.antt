-- Document 01's example of a log, computed over the definitions: whole, and in two pieces.
use mathlib.Core.Path.{◌≡◌, refl}
use mathlib.Core.List.{List, [], ◌∷◌, ◌++◌}
use Prim.Native.Nat.{ℕ, ◌-◌}
use lib.Dec.{lit≤}
use lib.ListN.{replicate, take, drop}
use Rattle.wire.specs.Standards.{sync_byte}
use Rattle.cadence.specs.Cadence.{at_some_rate, is_mega_frame, admits}
use Rattle.state.specs.declared.Slave.{Slave}
use Rattle.state.specs.Profile.{second, settings_kept}
use Rattle.state.specs.Sound.{is_zero, is_nothing, is_unset, is_uncounted, hunting_fits, parts_fit, sound}
use Rattle.judging.specs.Judge.{arrival_refusal, carries, judge_arrived}
use Rattle.slave.specs.Step.{unheard, counted}
use Rattle.slave.specs.Calls.{step_of, start_of, packet_of}
use Rattle.text.specs.Decimal.{decimal_in, decimal}
use Rattle.text.specs.Rooms.{line_room}
use Rattle.text.specs.Line.{line_of, site_line, end_line}
use Rattle.lines.specs.Log.{begun_by, opening_of, record_of, slave_behind, lines_of, rest_of, log_of}
use Rattle.lines.specs.Pieces.{handled_in, ending_of}
use Rattle.lines.specs.Calls.{Call, came, written, place_after, Read, log_by}

-- a null packet whose byte 0 is given
abbrev null_packet : ℕ → List ℕ
null_packet sync = sync ∷ 0x1F ∷ 0xFF ∷ 0x10 ∷ replicate 184 0xFF

-- profile 0, n = 2016, site 7, TAD 0; tick 5 with a null packet; tick 6 with byte 0 0x46
abbrev settings : List ℕ
settings = 0 ∷ 0x07 ∷ 0xE0 ∷ 0 ∷ 0x07 ∷ 0 ∷ 0 ∷ 0 ∷ 0 ∷ []

abbrev record0 : List ℕ
record0 = 0 ∷ 0 ∷ 0 ∷ 5 ∷ null_packet sync_byte

abbrev record1 : List ℕ
record1 = 0 ∷ 0 ∷ 0 ∷ 6 ∷ null_packet 0x46

abbrev pub capture : List ℕ
capture = settings ++ record0 ++ record1

-- "site 7 cadence 2016", "0 - - -", "1 refused 2" and "end 2", each with its line feed
abbrev line0 : List ℕ
line0 = 0x30 ∷ 0x20 ∷ 0x2D ∷ 0x20 ∷ 0x2D ∷ 0x20 ∷ 0x2D ∷ 0x0A ∷ []

abbrev line1 : List ℕ
line1 = 0x31 ∷ 0x20 ∷ 0x72 ∷ 0x65 ∷ 0x66 ∷ 0x75 ∷ 0x73 ∷ 0x65 ∷ 0x64 ∷ 0x20 ∷ 0x32 ∷ 0x0A ∷ []

abbrev pub printed : List ℕ
printed =
    (0x73 ∷ 0x69 ∷ 0x74 ∷ 0x65 ∷ 0x20 ∷ 0x37 ∷ 0x20 ∷ 0x63 ∷ 0x61 ∷ 0x64 ∷ 0x65 ∷ 0x6E ∷ 0x63 ∷ 0x65 ∷ 0x20 ∷ 0x32 ∷ 0x30 ∷ 0x31 ∷ 0x36 ∷ 0x0A ∷ [])
    ++ line0
    ++ line1
    ++ (0x65 ∷ 0x6E ∷ 0x64 ∷ 0x20 ∷ 0x32 ∷ 0x0A ∷ [])

pub example : log_of capture ≡ printed
unfolding log_of opening_of begun_by start_of settings_kept admits is_mega_frame at_some_rate second rest_of lines_of record_of packet_of sound parts_fit hunting_fits is_unset is_uncounted is_nothing is_zero arrival_refusal judge_arrived carries step_of counted unheard line_of site_line end_line decimal decimal_in
example = refl

-- in two pieces, read into a buffer of 300 bytes: the second record is cut after ten bytes; each output has room for one line
abbrev part : List ℕ
part = take 10 record1

abbrev slave : Slave
slave = (begun_by settings).slave

abbrev one : Call
one =
    record {
      piece = record0 ++ part;
      n = 202;
      input = record0 ++ part ++ replicate 98 0;
      input' = part ++ drop 10 record0 ++ part ++ replicate 98 0;
      output = replicate line_room 0;
      output' = line0 ++ replicate (line_room - 8) 0;
      answer = record { slave = slave; number = 1; filled = 8; held = 10 };
    }

abbrev two : Call
two =
    record {
      piece = drop 10 record1;
      n = 192;
      input = record1 ++ part ++ replicate 98 0;
      input' = record1 ++ part ++ replicate 98 0;
      output = line0 ++ replicate (line_room - 8) 0;
      output' = line1 ++ replicate (line_room - 12) 0;
      answer = record { slave = slave; number = 2; filled = 12; held = 0 };
    }

-- what is asked of calls can be met, and they print the same
abbrev calls : List Call
calls = one ∷ two ∷ []

pub record Computed (h : List ℕ) (calls : List Call) (input output : List ℕ) : Type 0 where
  pub read : Read h calls
  pub capture : h ++ came calls ≡ input
  pub printed : log_by h calls ≡ output

pub in_two : Computed settings calls capture printed
unfolding log_by came written place_after ending_of handled_in slave_behind lines_of opening_of begun_by start_of settings_kept admits is_mega_frame at_some_rate second record_of packet_of sound parts_fit hunting_fits is_unset is_uncounted is_nothing is_zero arrival_refusal judge_arrived carries step_of counted unheard line_of site_line end_line decimal decimal_in
in_two =
    record {
      read =
          record {
            nine = refl;
            made = (
              record { given = refl; kept = record { slave = refl; next = refl; lines = record { bytes = refl; ends = refl }; rest = record { bytes = refl; ends = refl } } },
              (
                record { given = refl; kept = record { slave = refl; next = refl; lines = record { bytes = refl; ends = refl }; rest = record { bytes = refl; ends = refl } } },
                tt,
              ),
            );
            room = (lit≤ tt, (lit≤ tt, tt));
            counted = lit≤ tt;
          };
      capture = refl;
      printed = refl;
    }
