-- A packet's place in the M/H frame of profile 1 (document 01, "Cadence"; A/110 9.1.2.2).
use Rattle.std.specs.Prelude.{ℕ, ◌+◌, ◌*◌, ◌%◌}
use Rattle.cadence.specs.Cadence.{data_frame}

-- an M/H frame: 5 subframes of 16 slots of 156 packets
abbrev pub subframes : ℕ
subframes = 5

abbrev pub slots : ℕ
slots = 16

abbrev pub slot_packets : ℕ
slot_packets = 156

abbrev pub frame_packets : ℕ
frame_packets = 12_480

-- its marks, indexes 0 to 19; mark 0 is the 38th packet, packet 37, of subframe 0, group 0
abbrev pub frame_marks : ℕ
frame_marks = 20

abbrev pub first_mark : ℕ
first_mark = 37

-- the M/H place of the packet p after mark i
abbrev pub mobile_place : ℕ → ℕ → ℕ
mobile_place i p = (first_mark + data_frame * i + p) % frame_packets
