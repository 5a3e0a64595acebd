-- A capture comes in pieces: how many records a call handles at once, and what it does with the bytes that are left at the end.
use Rattle.std.specs.Prelude.{◌≡◌, ℕ, suc, ◌+◌, ◌*◌, ◌-◌, ◌/◌, min, cond, ◌||◌, List, ◌++◌, eqb, length, take, drop}
use Rattle.wire.specs.Reply.{refused}
use Rattle.state.specs.declared.Slave.{Slave}
use Rattle.text.specs.Line.{line_of, end_line}
use Rattle.text.specs.Rooms.{line_room}
use Rattle.text.specs.Puts.{Fronts}
use Rattle.lines.specs.Log.{record_length, slave_behind, lines_of}
use Rattle.lines.specs.declared.Log.{Log}
use Rattle.lines.specs.declared.Taken.{Taken}

-- a log's records are counted in 64 bits; it ends after so many
abbrev pub most_records : ℕ
most_records = 18_446_744_073_709_551_615

-- as many records as are whole in so many bytes, as have room for their lines, and as can be counted
unfoldable pub handled_in : ℕ → ℕ → ℕ → ℕ
handled_in bytes room number = min (bytes / record_length) (min (room / line_room) (most_records - number))

-- what some records of an input leave: the slave, the next record's number, how many bytes were used and how many written
pub record Piece : Type 0 where
  pub slave : Slave
  pub number : ℕ
  pub used : ℕ
  pub filled : ℕ

abbrev pub piece_by : Log → ℕ → ℕ → Piece
piece_by l used filled = record { slave = l.slave; number = l.number; used = used; filled = filled }

-- and what a piece that is read into a buffer leaves: held bytes of it stand at the buffer's front
pub record Held : Type 0 where
  pub slave : Slave
  pub number : ℕ
  pub filled : ℕ
  pub held : ℕ

abbrev pub held_by : Log → Taken → Held
held_by l t = record { slave = l.slave; number = l.number; filled = t.filled; held = t.held }

-- what a call leaves that handles the first k records of an input: the slave, the next record's number and the lines
pub record Handled (s : Slave) (number : ℕ) (i : List ℕ) (k : ℕ) (out out' : List ℕ) (p : Piece) : Type 0 where
  pub slave : p.slave ≡ slave_behind k s i
  pub next : p.number ≡ number + k
  pub used : p.used ≡ record_length * k
  pub lines : Fronts (lines_of k number s i) out out' p.filled

-- and where the input is a piece that stands in a buffer d: what is left of it stands at the front of d
pub record PieceTaken (s : Slave) (number : ℕ) (i : List ℕ) (k : ℕ) (d d' out out' : List ℕ) (r : Held) : Type 0 where
  pub slave : r.slave ≡ slave_behind k s i
  pub next : r.number ≡ number + k
  pub lines : Fronts (lines_of k number s i) out out' r.filled
  pub rest : Fronts (drop (record_length * k) i) d d' r.held

-- the contract of `take_piece`: the piece stands in the first n bytes of d, and as many of its records are handled as can be
abbrev pub TakesPiece : Slave → ℕ → ℕ → (d d' out out' : List ℕ) → Held → Type 0
TakesPiece s number n d d' out out' r = PieceTaken s number (take n d) (handled_in (length (take n d)) (length out) number) d d' out out' r

-- the end: bytes that are left are a record cut short, and count
unfoldable pub ending_of : ℕ → List ℕ → List ℕ
ending_of number rest =
    cond (eqb (length rest) 0 || eqb number most_records)
    (end_line number)
    (line_of number (refused 1) ++ end_line (suc number))
