-- A gap-filler's reader takes addressing fields up to a limit of its own (document 02, Paper 9): what a packet above it does, and what is then the same.
use Rattle.std.specs.Prelude.{◌≡◌, ℕ, Bool, true, false, cond, ◌||◌, List, set, eqb}
use Rattle.wire.specs.Reply.{Reply, refused, given}
use Rattle.notice.specs.Reader.{before_check}
use Rattle.state.specs.Slave.{nothing}
use Rattle.state.specs.declared.Slave.{Slave}
use Rattle.judging.specs.Judge.{judge_packet}
use Rattle.judging.specs.Judgement.{Counts}
use Rattle.slave.specs.Answer.{Notice, ignored, Report, notice_in, mark_in, Result, left}
use Rattle.slave.specs.Step.{on_mark, mark_at}
use Rattle.slave.specs.Calls.{packet_of}

-- the numbers that ignore a notice above the limit
abbrev pub over_number : ℕ → Bool
over_number k = eqb k 4 || before_check k

-- a plain packet: it counts, and carries no notice
abbrev pub Plain : Slave → List ℕ → (tick limit : ℕ) → Type 0
Plain s q tick limit = judge_packet s.board s.settings q tick limit ≡ Counts 0

-- the same packet with a null packet's bytes 1 and 2: PID 0x1FFF; error indicator, unit start and priority 0
abbrev pub nulled : List ℕ → List ℕ
nulled p = set (set p 1 0x1F) 2 0xFF

-- what a call leaves and replies, with another notice's part
abbrev pub reply_with : Notice → Reply Report → Reply Report
reply_with n (refused k) = refused k
reply_with n (given r) = given (record r { notice = n })

abbrev pub noticed : Notice → Result Report → Result Report
noticed n r = left r.slave (reply_with n r.reply)

-- r is what a packet leaves and replies that comes to the slave s at this tick and teaches it nothing: its notice is ignored, and all else is what any plain
-- packet leaves and replies. Settings and phase stay; a notice that waits goes with its mark, which is what it would have been; a hunting slave is unchanged
pub record TeachesNothing (s : Slave) (tick : ℕ) (r : Result Report) : Type 0 where
  pub number : ℕ
  pub among : over_number number ≡ true
  pub ignores : notice_in r.reply ≡ ignored number
  pub as_plain : (q : List ℕ) (m : ℕ) → Plain s q tick m → r ≡ noticed (ignored number) (packet_of s q tick m)
  pub settings : r.slave.settings ≡ s.settings
  pub phase : r.slave.count.phase ≡ s.count.phase
  pub waiting : r.slave.waiting ≡ cond (on_mark s.count) nothing s.waiting
  pub mark : mark_in r.reply ≡ mark_at s tick
  pub hunting : eqb s.count.phase 2 ≡ false → r.slave ≡ s
