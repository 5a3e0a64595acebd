-- The saved block (document 01, "Saved block"; document 02, Paper 12): a body, then a trailer of site, distance and check value. What save replies and
-- writes (15, 18), and what resume leaves and replies (15, 16, 17).
use Rattle.std.specs.Prelude as std
use Rattle.std.specs.Prelude.{ℕ, ◌+◌, ◌-◌, Bool, cond, ◌&&◌, List, ◌++◌, length, drop, eqb, leb}
use Rattle.wire.specs.Reply.{must, reply, kept_by, Output, filled, reply_of}
use Rattle.wire.specs.declared.Refusal.{Refusal}
use Rattle.wire.specs.BigEndian.{be16_at, bytes16}
use Rattle.check_value.specs.Register.{register, sealed}
use Rattle.state.specs.Profile.{settings_kept}
use Rattle.state.specs.Sound.{sound}
use Rattle.state.specs.declared.Board.{Board}
use Rattle.state.specs.declared.Slave.{Slave}
use Rattle.slave.specs.Answer.{Result, left}
use Rattle.slave.specs.Calls.{start_of}
use Rattle.saved.specs.Layout.{Body, whole, old, length_of, body_of, slave_in}

abbrev pub trailer_length : ℕ
trailer_length = 8

abbrev pub block_length : Body → ℕ
block_length body = length_of body + trailer_length

-- ---- save

-- body through distance, which the check value covers
unfoldable pub covered_of : Body → Slave → List ℕ
covered_of body s = body_of body s ++ bytes16 s.board.site ++ bytes16 (length_of body)

unfoldable pub block_of : Body → Slave → List ℕ
block_of body s = sealed (covered_of body s)

-- 15, 18, for an output of this length
unfoldable pub save_refusal : Slave → ℕ → ℕ
save_refusal s room = must (sound s) 15 (must (leb (block_length whole) room) 18 0)

-- a number keeps the output; else the block, and all bytes after it kept
unfoldable pub save_of : Slave → List ℕ → Output
save_of s out = filled (save_refusal s (length out)) out (block_of whole s ++ drop (block_length whole) out)

-- what a save leaves
abbrev pub saved_output : std.Result (Unit {0}) Refusal → List ℕ → Output
saved_output r out = record { reply = reply_of r; bytes = out }

-- ---- resume

-- the trailer: the last bytes of what is lent
abbrev pub trailer : List ℕ → List ℕ
trailer b = drop (length b - trailer_length) b

abbrev pub trailer_site : List ℕ → ℕ
trailer_site b = be16_at (trailer b) 0

-- how far before the trailer the body begins
abbrev pub distance : List ℕ → ℕ
distance b = be16_at (trailer b) 2

-- the body at that distance: the old one at exactly 30
abbrev pub body_at : ℕ → Body
body_at d = cond (eqb d (length_of old)) old whole

-- the distance is long enough for a body and leads to a byte of what is lent
unfoldable pub shaped : List ℕ → Bool
shaped b = leb (length_of old) (distance b) && leb (distance b + trailer_length) (length b)

-- body through check value, and the slave in it
unfoldable pub from_body : List ℕ → List ℕ
from_body b = drop (length b - trailer_length - distance b) b

abbrev pub held : List ℕ → Slave
held b = slave_in (body_at (distance b)) (from_body b)

-- no 16, of a block that is read as this slave: the shape, the check value, the trailer's site, and parts that a sound slave has
unfoldable pub block_fits : Slave → List ℕ → Bool
block_fits s b = shaped b && eqb (register (from_body b)) 0 && eqb (trailer_site b) s.board.site && sound s

-- no 17
unfoldable pub same_board : Board → Board → Bool
same_board a b = eqb a.site b.site && eqb a.profile b.profile && eqb a.n b.n && eqb a.tad b.tad

-- 15, 16, 17
unfoldable pub resume_refusal : Slave → List ℕ → Board → ℕ
resume_refusal s block b =
    must (settings_kept b) 15
    (must (block_fits s block) 16
    (must (same_board s.board b) 17
    0))

-- where a block is read as this slave: a number leaves what a start of the board leaves, the cold slave or a fresh hunting one; else this slave is left
unfoldable pub resumed : Slave → List ℕ → Board → Result (Unit {0})
resumed s block b = left (kept_by (resume_refusal s block b) (start_of b).slave s) (reply (resume_refusal s block b) tt)

-- and it is read as the slave that it holds
unfoldable pub resume_of : List ℕ → Board → Result (Unit {0})
resume_of block b = resumed (held block) block b
