-- Laws of the M/H place: the frame's numbers agree, a place is below 12,480, and the places of successive packets are successive.
use mathlib.Core.Path.{◌≡◌, refl}
use Prim.Native.Nat.{ℕ, ◌+◌, ◌-◌, ◌*◌, ◌%◌, ◌<◌}
use native.Mathlib.Omega.{arith}
use Rattle.cadence.specs.Cadence.{data_frame}
use Rattle.cadence.specs.MobileFrame.{subframes, slots, slot_packets, frame_packets, frame_marks, mobile_place}

-- 5 × 16 × 156 = 20 × 624 = 12,480
pub frame_of_slots : subframes * slots * slot_packets ≡ frame_packets
frame_of_slots = refl

pub frame_of_marks : frame_marks * data_frame ≡ frame_packets
frame_of_marks = refl

pub place_below : (i p : ℕ) → mobile_place i p < frame_packets
place_below i p = omega arith

-- the next packet has the next place: after the same mark, at the next mark, and at mark 0 after mark 19
pub next_packet : (i p : ℕ) → mobile_place i (p + 1) ≡ (mobile_place i p + 1) % frame_packets
next_packet i p = omega arith

pub next_mark : (i : ℕ) → mobile_place (i + 1) 0 ≡ (mobile_place i (data_frame - 1) + 1) % frame_packets
next_mark i = omega arith

pub next_frame : mobile_place 0 0 ≡ (mobile_place (frame_marks - 1) (data_frame - 1) + 1) % frame_packets
next_frame = refl
