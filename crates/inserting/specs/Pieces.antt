-- An input comes in pieces: how many records a call handles at once, and what it does with the bytes that are left at the end.
use Rattle.std.specs.Prelude.{◌≡◌, ℕ, ◌*◌, ◌/◌, min, cond, List, [], eqb, length, take, drop}
use Rattle.wire.specs.Reply.{refused}
use Rattle.wire.specs.Standards.{packet_length}
use Rattle.text.specs.Puts.{Fronts}
use Rattle.inserting.specs.declared.Insertion.{Insertion}
use Rattle.inserting.specs.declared.Taken.{Taken}
use Rattle.text.specs.Rooms.{record_room}
use Rattle.inserting.specs.Records.{record_length, packet_of, line_of, line_by, behind, all_of}

-- the longer of the two lines
abbrev pub line_room : ℕ
line_room = record_room

-- as many records as are whole in so many bytes, and as have room for their packets and for their lines
unfoldable pub handled_in : (bytes packets lines : ℕ) → ℕ
handled_in bytes packets lines = min (bytes / record_length) (min (packets / packet_length) (lines / line_room))

-- what a call leaves that handles the first k records of an input: the insertion, and the packets and the lines at the front of the outputs
pub record Handled (s : Insertion) (i : List ℕ) (k : ℕ) (out out' err err' : List ℕ) (s' : Insertion) (t : Taken) : Type 0 where
  pub insertion : s' ≡ behind k s i
  pub packets : Fronts (all_of packet_of k s i) out out' t.packets
  pub lines : Fronts (all_of line_of k s i) err err' t.lines
  pub held : t.held ≡ length (drop (record_length * k) i)

-- and where the input is a piece that stands in a buffer d: what is left of it stands at the front of d
pub record PieceTaken (s : Insertion) (i : List ℕ) (k : ℕ) (d d' out out' err err' : List ℕ) (s' : Insertion) (t : Taken) : Type 0 where
  pub handled : Handled s i k out out' err err' s' t
  pub rest : Fronts (drop (record_length * k) i) d d' t.held

-- the contract of `take_piece`: the piece stands in the first n bytes of d, and as many of its records are handled as can be
abbrev pub TakesPiece : Insertion → ℕ → (d d' out out' err err' : List ℕ) → Insertion → Taken → Type 0
TakesPiece s n d d' out out' err err' s' t =
    PieceTaken s (take n d) (handled_in (length (take n d)) (length out) (length err)) d d' out out' err err' s' t

-- the end: bytes that are left are a record cut short
unfoldable pub ending_of : Insertion → List ℕ → List ℕ
ending_of s rest = cond (eqb (length rest) 0) [] (line_by s.counts (refused 1))
