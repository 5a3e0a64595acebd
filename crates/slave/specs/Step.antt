-- The steps of a sound slave on a packet that was judged (document 01, "Steps of a slave").
use Rattle.std.specs.Prelude.{ℕ, zero, suc, ◌+◌, ◌%◌, min, Bool, false, cond, not, ◌&&◌, eqb}
use Rattle.std.proofs.Math.Option.{Option, none, some}
use Rattle.wire.specs.Reply.{given}
use Rattle.times.specs.Release.{due_of}
use Rattle.cadence.specs.Label.{label_of, next_label}
use Rattle.cadence.specs.MobileFrame.{frame_marks, mobile_place}
use Rattle.addressing.specs.declared.Settings.{Settings}
use Rattle.state.specs.Profile.{second}
use Rattle.state.specs.Slave.{unknown, most_coasted, nothing}
use Rattle.state.specs.declared.Count.{Count}
use Rattle.state.specs.declared.Waiting.{Waiting}
use Rattle.state.specs.declared.Slave.{Slave}
use Rattle.judging.specs.declared.Taken.{Taken}
use Rattle.slave.specs.Answer.{Notice, absent, taken, slip, ignored, Mark, unmarked, untimed, due, Report, Result, left}

-- each mark passed raises a known index by one, 19 to 0
abbrev pub raised : ℕ → ℕ → ℕ
raised index marks = cond (eqb index unknown) unknown ((index + marks) % frame_marks)

-- and the marks coasted since the last notice taken, up to 255 (document 02, Paper 12)
abbrev pub coasted_on : ℕ → ℕ → ℕ
coasted_on coasted marks = min (coasted + marks) most_coasted

-- the place of the packet with this label: the mark passed is one less than the next mark's index, 19 before 0
abbrev pub place_of : ℕ → ℕ → Option ℕ
place_of index label = cond (eqb index unknown) none (some (mobile_place ((index + 19) % frame_marks) label))

-- the count with another label, and after some marks
abbrev pub labelled : Count → ℕ → Count
labelled c next = record c { next = next }

abbrev pub past : Count → ℕ → Count
past c marks = record c { index = raised c.index marks; coasted = coasted_on c.coasted marks }

-- the count of a slave that takes a notice: no mark has passed since. And a slave with what a step may change
abbrev pub locked_at : (next index : ℕ) → Count
locked_at next index = record { phase = 2; next = next; index = index; coasted = 0 }

abbrev pub moved_to : Slave → Settings → Count → Waiting → Slave
moved_to s t c w = record s { settings = t; count = c; waiting = w }

-- the pending notice's release, by the settings in force
unfoldable pub release_at : Slave → ℕ → Mark
release_at s tick =
    due s.board.profile (due_of (second s.board.profile) s.waiting.sts s.waiting.md s.settings.od s.board.tad tick)

-- a locked slave's next packet is a mark
abbrev pub on_mark : Count → Bool
on_mark c = eqb c.phase 2 && eqb c.next 0

-- the mark on a packet whose label the slave counted: a pending notice is released, with none it is untimed
unfoldable pub mark_at : Slave → ℕ → Mark
mark_at s tick = cond (on_mark s.count) (cond (eqb s.waiting.pending 1) (release_at s tick) untimed) unmarked

-- the count after the mark on this packet, and what is kept of a pending notice
abbrev pub count_at : Count → Count
count_at c = cond (eqb c.next 0) (past c 1) c

abbrev pub kept_at : Slave → Waiting
kept_at s = cond (eqb s.count.next 0) nothing s.waiting

-- the report on a counted packet of which no notice is taken
abbrev pub counted_report : (label index : ℕ) → Notice → Mark → Report
counted_report label index notice mark =
    record { label = some label; notice = notice; turn = false; mark = mark; place = place_of index label }

-- the one with no label, no mark and no place: of a hunting slave, and of an empty packet
abbrev pub unheard_report : Notice → Report
unheard_report notice = record { label = none; notice = notice; turn = false; mark = unmarked; place = none }

-- a locked slave counts a packet that carries no notice for it
unfoldable pub passed : Slave → Notice → ℕ → Result Report
passed s notice tick =
    left
    (moved_to s s.settings (labelled (count_at s.count) (next_label s.board.n s.count.next)) (kept_at s))
    (given (counted_report s.count.next (count_at s.count).index notice (mark_at s tick)))

-- a hunting slave stays as it is
unfoldable pub unheard : Slave → Notice → Result Report
unheard s notice = left s (given (unheard_report notice))

-- 0: the packet carries no notice
abbrev pub notice_by : ℕ → Notice
notice_by zero = absent
notice_by (suc k) = ignored (suc k)

-- no notice is taken
unfoldable pub counted : Slave → ℕ → ℕ → Result Report
counted s k tick = cond (eqb s.count.phase 2) (passed s (notice_by k) tick) (unheard s (notice_by k))

-- a notice is taken: its label decides. It agrees if a locked slave counted the same; else it is the first lock, or a slip
abbrev pub agrees : Count → ℕ → Bool
agrees c label = eqb c.phase 2 && eqb label c.next

-- on agreement the mark on this packet goes first, with the old notice and settings; else label 0 is untimed
unfoldable pub mark_taken : Slave → ℕ → ℕ → Mark
mark_taken s label tick = cond (agrees s.count label) (mark_at s tick) (cond (eqb label 0) untimed unmarked)

-- the index before the notice's own: a slip and the first lock have none
abbrev pub index_before : Count → ℕ → ℕ
index_before c label = cond (agrees c label) (count_at c).index unknown

-- an unknown index keeps what is there, any other enters
abbrev pub index_after : ℕ → ℕ → ℕ
index_after before index = cond (eqb index unknown) before index

-- "turn": another index than a known one
abbrev pub turns : ℕ → ℕ → Bool
turns before index = not (eqb index unknown) && not (eqb before unknown) && not (eqb before index)

-- taken, or a slip where a locked slave counted otherwise
unfoldable pub notice_taken : Count → ℕ → Notice
notice_taken c label = cond (eqb c.phase 2 && not (eqb label c.next)) slip taken

-- the new notice and settings enter
abbrev pub entered : Slave → Taken → (label before : ℕ) → Notice → Mark → Result Report
entered s t label before notice mark =
    left
    (moved_to s t.settings (locked_at (next_label s.board.n label) (index_after before t.index)) (record { pending = 1; sts = t.sts; md = t.md }))
    (given (record { label = some label; notice = notice; turn = turns before t.index; mark = mark; place = place_of (index_after before t.index) label }))

unfoldable pub took : Slave → Taken → ℕ → Result Report
took s t tick =
    let label : ℕ = label_of s.board.n t.pointer in
    entered s t label (index_before s.count label) (notice_taken s.count label) (mark_taken s label tick)
