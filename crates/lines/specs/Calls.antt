-- A capture is read by calls of `take_piece`, one after another: each finds what the last one held and the bytes that came since.
use Rattle.std.specs.Prelude.{◌≡◌, ℕ, ◌+◌, ◌*◌, ◌/◌, ◌≤◌, List, [], ◌∷◌, ◌++◌, length, take, drop}
use Rattle.state.specs.declared.Slave.{Slave}
use Rattle.text.specs.Rooms.{line_room}
use Rattle.lines.specs.Log.{settings_length, begun_by, opening_of, record_length, slave_behind, lines_of, records_in, if_started}
use Rattle.lines.specs.Pieces.{most_records, Held, TakesPiece, ending_of}

-- a call: the bytes that came since the last one, how many bytes of the input it takes, the buffers before and after it, and its answer
pub record Call : Type 0 where
  pub piece : List ℕ
  pub n : ℕ
  pub input : List ℕ
  pub input' : List ℕ
  pub output : List ℕ
  pub output' : List ℕ
  pub answer : Held

-- where a log stands between two calls: the slave, the next record's number, and the bytes that are held
pub record Place : Type 0 where
  pub slave : Slave
  pub number : ℕ
  pub held : List ℕ

-- where a call leaves it: the first bytes of the input are held
abbrev pub leave : Call → Place
leave c = record { slave = c.answer.slave; number = c.answer.number; held = take c.answer.held c.input' }

-- what is asked of a call: it is given what is held and then the bytes that came, and it keeps its contract
pub record Made (p : Place) (c : Call) : Type 0 where
  pub given : take c.n c.input ≡ p.held ++ c.piece
  pub kept : TakesPiece p.slave p.number c.n c.input c.input' c.output c.output' c.answer

-- and of more calls: each begins where the last one left the log
abbrev pub AllMade : Place → List Call → Type 0
AllMade p [] = Unit {0}
AllMade p (c ∷ cs) = Made p c × AllMade (leave c) cs

-- the output has room for the lines of all records that are whole in what the call is given
abbrev pub Room : Call → Type 0
Room c = line_room * (length (take c.n c.input) / record_length) ≤ length c.output

abbrev pub AllRoom : List Call → Type 0
AllRoom [] = Unit {0}
AllRoom (c ∷ cs) = Room c × AllRoom cs

-- all bytes that came, all bytes that the calls wrote, and where they leave the log
unfoldable pub came : List Call → List ℕ
came [] = []
came (c ∷ cs) = c.piece ++ came cs

unfoldable pub written : List Call → List ℕ
written [] = []
written (c ∷ cs) = take c.answer.filled c.output' ++ written cs

unfoldable pub place_after : Place → List Call → Place
place_after p [] = p
place_after p (c ∷ cs) = place_after (leave c) cs

-- where the first k records of an input lead
abbrev pub place_at : ℕ → Place → List ℕ → Place
place_at k p i = record { slave = slave_behind k p.slave i; number = p.number + k; held = drop (record_length * k) i }

-- the calls together handle the first k records of all bytes: what was held, and what came
pub record Together (k : ℕ) (p : Place) (calls : List Call) : Type 0 where
  pub whole : record_length * k ≤ length (p.held ++ came calls)
  pub lines : written calls ≡ lines_of k p.number p.slave (p.held ++ came calls)
  pub place : place_after p calls ≡ place_at k p (p.held ++ came calls)

-- ---- a whole log

-- behind the settings h no record is read yet
abbrev pub begun : List ℕ → Place
begun h = record { slave = (begun_by h).slave; number = 0; held = [] }

-- what is asked: nine bytes of settings, the calls from there on, room for all lines, and no more records than can be counted
pub record Read (h : List ℕ) (calls : List Call) : Type 0 where
  pub nine : length h ≡ settings_length
  pub made : AllMade (begun h) calls
  pub room : AllRoom calls
  pub counted : records_in (length (came calls)) ≤ most_records

-- what is printed: what `begin` writes, then, where it started the slave, what the calls and `ending` write
abbrev pub ended_at : Place → List ℕ
ended_at p = ending_of p.number p.held

unfoldable pub log_by : List ℕ → List Call → List ℕ
log_by h calls = opening_of h ++ if_started (begun_by h).reply (written calls ++ ended_at (place_after (begun h) calls))
