-- The body of a saved block (document 01, "Saved block"; document 02, Paper 12): which part of a slave stands where.
use Rattle.std.specs.Prelude.{ℕ, List, [], ◌∷◌, ◌++◌, get_or}
use Rattle.wire.specs.BigEndian.{be16_at, be32_at, bytes16, bytes32}
use Rattle.wire.specs.Put.{put_at}
use Rattle.wire.specs.Signed.{signed16, signed32, bits16, bits32}
use Rattle.state.specs.Slave.{most_coasted}
use Rattle.state.specs.declared.Slave.{Slave}

-- the body that save writes, and the old one, of document 01, which ends before byte 30
pub data Body : Type 0 where
  whole : Body
  old : Body

abbrev pub length_of : Body → ℕ
length_of whole = 31
length_of old = 30

-- a field: one, two or four bytes from this one on, big-endian
pub data Field : Type 0 where
  byte : ℕ → Field
  pair : ℕ → Field
  word : ℕ → Field

-- the layout: the parts of a slave by the fields that they are read from
abbrev pub slave_of : (Field → ℕ) → Slave
slave_of at =
    record {
      board = record { profile = at (byte 1); n = at (pair 2); site = at (pair 4); tad = at (word 6) };
      settings = record { od = signed16 (at (pair 10)); frequency = signed32 (at (word 12)); power = at (pair 16) };
      count = record { phase = at (byte 0); next = at (pair 18); index = at (byte 21); coasted = at (byte 30) };
      waiting = record { pending = at (byte 20); sts = at (word 22); md = at (word 26) };
    }

-- and the fields in order, with the bits that are written to them; the last one is not in an old body
abbrev pub last_field : Body → Slave → List (Field × ℕ)
last_field whole s = (byte 30, s.count.coasted) ∷ []
last_field old s = []

abbrev pub body_fields : Body → Slave → List (Field × ℕ)
body_fields body s =
    (byte 0, s.count.phase)
    ∷ (byte 1, s.board.profile)
    ∷ (pair 2, s.board.n)
    ∷ (pair 4, s.board.site)
    ∷ (word 6, s.board.tad)
    ∷ (pair 10, bits16 s.settings.od)
    ∷ (word 12, bits32 s.settings.frequency)
    ∷ (pair 16, s.settings.power)
    ∷ (pair 18, s.count.next)
    ∷ (byte 20, s.waiting.pending)
    ∷ (byte 21, s.count.index)
    ∷ (word 22, s.waiting.sts)
    ∷ (word 26, s.waiting.md)
    ∷ last_field body s

-- the number that a field of some bytes spells, and a number's bytes in a field
abbrev pub number_in : List ℕ → Field → ℕ
number_in b (byte i) = get_or b i 0
number_in b (pair i) = be16_at b i
number_in b (word i) = be32_at b i

abbrev pub bytes_in : Field → ℕ → List ℕ
bytes_in (byte i) v = v ∷ []
bytes_in (pair i) v = bytes16 v
bytes_in (word i) v = bytes32 v

-- fields one after the other
abbrev pub written : List (Field × ℕ) → List ℕ
written [] = []
written (f ∷ fs) = bytes_in f.0 f.1 ++ written fs

-- the slave as a body has it: what an old one does not have is 255
abbrev pub coasted_by : Body → ℕ → ℕ
coasted_by whole coasted = coasted
coasted_by old coasted = most_coasted

abbrev pub had_in : Body → Slave → Slave
had_in body s = record s { count = record s.count { coasted = coasted_by body s.count.coasted } }

-- the slave in some bytes that begin with a body, and the body of a slave
unfoldable pub slave_in : Body → List ℕ → Slave
slave_in body b = had_in body (slave_of (number_in b))

unfoldable pub body_of : Body → Slave → List ℕ
body_of body s = written (body_fields body s)

-- some bytes with fields put over them, each at its place
abbrev pub first_byte : Field → ℕ
first_byte (byte i) = i
first_byte (pair i) = i
first_byte (word i) = i

abbrev pub put_in : List ℕ → Field → ℕ → List ℕ
put_in d f v = put_at d (first_byte f) (bytes_in f v)

abbrev pub put_all : List ℕ → List (Field × ℕ) → List ℕ
put_all d [] = d
put_all d (f ∷ fs) = put_all (put_in d f.0 f.1) fs
