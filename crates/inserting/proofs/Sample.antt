-- A small input computed over the definitions, whole and in two pieces: what is asked of calls can be met, and they write the same.
use mathlib.Core.Path.{◌≡◌, refl}
use mathlib.Core.List.{List, [], ◌∷◌, ◌++◌}
use Prim.Native.Nat.{ℕ, ◌-◌}
use lib.Dec.{lit≤}
use lib.ListN.{replicate, take, drop}
use Rattle.wire.specs.Standards.{sync_byte}
use Rattle.cadence.specs.Cadence.{at_some_rate, is_mega_frame, admits}
use Rattle.addressing.specs.Entries.{entries_in, settings_of, well_formed}
use Rattle.writer.specs.Writer.{write_refusal}
use Rattle.text.specs.Decimal.{decimal_in, decimal}
use Rattle.inserter.specs.Settings.{settings_refusal, start_of, progress_fits, sound}
use Rattle.inserter.specs.Packet.{given_refusal, insert_refusal, cleared, sent_of, progress_after, missed, sent, insert_of}
use Rattle.inserting.specs.declared.Insertion.{Insertion}
use Rattle.text.specs.Line.{record_line}
use Rattle.inserting.specs.Settings.{begun_by}
use Rattle.inserting.specs.Records.{answer_of, counted_by, sent_by, line_by, insertion_after, behind, all_of, first, Written, written_of}
use Rattle.inserting.specs.Pieces.{line_room, handled_in, ending_of}
use Rattle.inserting.specs.Calls.{Call, gathered, came_to, place_after, Read, written_by}

-- a packet with PID 0x100 whose byte 0 is given
abbrev packet : ℕ → List ℕ
packet sync = sync ∷ 0x01 ∷ 0x00 ∷ 0x10 ∷ replicate 184 0x55

-- n = 2016, no addressing field; STS 5 with a packet; STS 6 with byte 0 0x46, and its line
abbrev settings : List ℕ
settings = 0x07 ∷ 0xE0 ∷ 0 ∷ 0 ∷ 0 ∷ 0 ∷ 0 ∷ 0 ∷ 9 ∷ 0 ∷ 0 ∷ 0 ∷ 0 ∷ 0 ∷ []

abbrev record0 : List ℕ
record0 = 0 ∷ 0 ∷ 0 ∷ 5 ∷ packet sync_byte

abbrev record1 : List ℕ
record1 = 0 ∷ 0 ∷ 0 ∷ 6 ∷ packet 0x46

-- "record 1 refused 2"
abbrev line : List ℕ
line =
    (0x72 ∷ 0x65 ∷ 0x63 ∷ 0x6F ∷ 0x72 ∷ 0x64 ∷ 0x20 ∷ 0x31 ∷ 0x20 ∷ [])
    ++ (0x72 ∷ 0x65 ∷ 0x66 ∷ 0x75 ∷ 0x73 ∷ 0x65 ∷ 0x64 ∷ 0x20 ∷ 0x32 ∷ 0x0A ∷ [])

abbrev input : List ℕ
input = settings ++ record0 ++ record1

abbrev output : Written
output = record { packets = packet sync_byte; lines = line }

pub example : written_of input ≡ output
unfolding written_of begun_by start_of settings_refusal admits is_mega_frame at_some_rate write_refusal well_formed settings_of entries_in all_of answer_of insert_of insert_refusal given_refusal sound progress_fits sent sent_of cleared progress_after missed counted_by sent_by line_by record_line decimal decimal_in
example = refl

-- in two pieces, read into a buffer of 300 bytes: the second record is cut after ten bytes; each output has room for one record
abbrev part : List ℕ
part = take 10 record1

abbrev first_insertion : Insertion
first_insertion = first (begun_by settings).inserter

abbrev one : Call
one =
    record {
      piece = record0 ++ part;
      n = 202;
      input = record0 ++ part ++ replicate 98 0;
      input' = part ++ drop 10 record0 ++ part ++ replicate 98 0;
      out = replicate 188 0;
      out' = packet sync_byte;
      err = replicate line_room 0;
      err' = replicate line_room 0;
      insertion = insertion_after first_insertion record0;
      taken = record { packets = 188; lines = 0; held = 10 };
    }

abbrev two : Call
two =
    record {
      piece = drop 10 record1;
      n = 192;
      input = record1 ++ part ++ replicate 98 0;
      input' = record1 ++ part ++ replicate 98 0;
      out = packet sync_byte;
      out' = packet sync_byte;
      err = replicate line_room 0;
      err' = line ++ replicate (line_room - 19) 0;
      insertion = insertion_after (insertion_after first_insertion record0) record1;
      taken = record { packets = 0; lines = 19; held = 0 };
    }

abbrev calls : List Call
calls = one ∷ two ∷ []

pub record Computed (h : List ℕ) (calls : List Call) (i : List ℕ) (w : Written) : Type 0 where
  pub read : Read h calls
  pub input : h ++ gathered came_to calls ≡ i
  pub output : written_by h calls ≡ w

pub in_two : Computed settings calls input output
unfolding written_by gathered place_after ending_of handled_in behind begun_by start_of settings_refusal admits is_mega_frame at_some_rate write_refusal well_formed settings_of entries_in all_of answer_of insert_of insert_refusal given_refusal sound progress_fits sent sent_of cleared progress_after missed counted_by sent_by line_by record_line decimal decimal_in
in_two =
    record {
      read =
          record {
            whole = refl;
            made = (
              record {
                given = refl;
                kept = record {
                  handled = record { insertion = refl; packets = record { bytes = refl; ends = refl }; lines = record { bytes = refl; ends = refl }; held = refl };
                  rest = record { bytes = refl; ends = refl };
                };
                packets = lit≤ tt;
                lines = lit≤ tt;
              },
              (
                record {
                  given = refl;
                  kept = record {
                    handled = record { insertion = refl; packets = record { bytes = refl; ends = refl }; lines = record { bytes = refl; ends = refl }; held = refl };
                    rest = record { bytes = refl; ends = refl };
                  };
                  packets = lit≤ tt;
                  lines = lit≤ tt;
                },
                tt,
              ),
            );
          };
      input = refl;
      output = refl;
    }
