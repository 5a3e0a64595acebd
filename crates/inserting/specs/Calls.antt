-- An input is read by calls of `take_piece`, one after another: each finds what the last one held and the bytes that came since.
use Rattle.std.specs.Prelude.{◌≡◌, ℕ, ◌*◌, ◌/◌, ◌≤◌, List, [], ◌∷◌, ◌++◌, length, take}
use Rattle.wire.specs.Standards.{packet_length}
use Rattle.inserting.specs.declared.Insertion.{Insertion}
use Rattle.inserting.specs.declared.Taken.{Taken}
use Rattle.inserting.specs.Settings.{settings_length, begun_by}
use Rattle.inserting.specs.Records.{record_length, first, Written, written}
use Rattle.inserting.specs.Pieces.{line_room, TakesPiece, ending_of}

-- a call: the bytes that came since the last one, how many bytes of the input it takes, the buffers before and after it, and what it leaves and answers
pub record Call : Type 0 where
  pub piece : List ℕ
  pub n : ℕ
  pub input : List ℕ
  pub input' : List ℕ
  pub out : List ℕ
  pub out' : List ℕ
  pub err : List ℕ
  pub err' : List ℕ
  pub insertion : Insertion
  pub taken : Taken

-- between two calls: the insertion, and the bytes that are held
pub record Place : Type 0 where
  pub insertion : Insertion
  pub held : List ℕ

-- where a call leaves it: the first bytes of the input are held
abbrev pub leave : Call → Place
leave c = record { insertion = c.insertion; held = take c.taken.held c.input' }

-- what is asked of a call: it is given what is held and then the bytes that came, it keeps its contract, and the outputs have room for all records
-- that are whole in what it is given
pub record Made (p : Place) (c : Call) : Type 0 where
  pub given : take c.n c.input ≡ p.held ++ c.piece
  pub kept : TakesPiece p.insertion c.n c.input c.input' c.out c.out' c.err c.err' c.insertion c.taken
  pub packets : packet_length * (length (take c.n c.input) / record_length) ≤ length c.out
  pub lines : line_room * (length (take c.n c.input) / record_length) ≤ length c.err

-- and of more calls: each begins where the last one left it
abbrev pub AllMade : Place → List Call → Type 0
AllMade p [] = Unit {0}
AllMade p (c ∷ cs) = Made p c × AllMade (leave c) cs

-- all that the calls have of something, one behind the other: the bytes that came, the packets and the lines
unfoldable pub gathered : (Call → List ℕ) → List Call → List ℕ
gathered what [] = []
gathered what (c ∷ cs) = what c ++ gathered what cs

abbrev pub came_to : Call → List ℕ
came_to c = c.piece

abbrev pub packets_by : Call → List ℕ
packets_by c = take c.taken.packets c.out'

abbrev pub lines_by : Call → List ℕ
lines_by c = take c.taken.lines c.err'

-- where they leave it
unfoldable pub place_after : Place → List Call → Place
place_after p [] = p
place_after p (c ∷ cs) = place_after (leave c) cs

-- ---- a whole input

-- behind the settings h no record is read yet
abbrev pub begun : List ℕ → Place
begun h = record { insertion = first (begun_by h).inserter; held = [] }

-- what is asked: whole settings, and the calls from there on
pub record Read (h : List ℕ) (calls : List Call) : Type 0 where
  pub whole : length h ≡ settings_length h
  pub made : AllMade (begun h) calls

-- what is written: what `begin` writes, then, where it started the inserter, what the calls and `ending` write
abbrev pub ended_at : Place → List ℕ
ended_at p = ending_of p.insertion p.held

unfoldable pub written_by : List ℕ → List Call → Written
written_by h calls =
    written (begun_by h).reply (gathered packets_by calls) (gathered lines_by calls ++ ended_at (place_after (begun h) calls))
