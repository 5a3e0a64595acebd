-- What the calls of a slave answer: a number that refuses the whole call, or the report on a packet: label, notice, mark and M/H place.
use Rattle.std.specs.Prelude as std
use Rattle.std.specs.Prelude.{◌≡◌, ℕ, Bool, None, Some, Ok, Err}
use Rattle.std.proofs.Math.Option.{Option, none, some}
use Rattle.wire.specs.declared.Refusal.{Refusal}
use Rattle.wire.specs.Reply.{Reply, refused, given, refusal_number, reply_of}
use Rattle.times.specs.Release.{Due, late, released}
use Rattle.times.specs.Answer.{steps, periods, due_in}
use Rattle.state.specs.declared.Slave.{Slave}
use Rattle.slave.specs.declared.NoticePart as NoticePart'
use Rattle.slave.specs.declared.NoticePart.TheVariants as notice
use Rattle.slave.specs.declared.MarkPart as MarkPart'
use Rattle.slave.specs.declared.MarkPart.TheVariants as mark
use Rattle.slave.specs.declared.Counted as Counted'
use Rattle.slave.specs.declared.Left.{Left}

-- the notice's part: none, taken, slip, or a number that ignores it
pub data Notice : Type 0 where
  absent : Notice
  taken : Notice
  slip : Notice
  ignored : ℕ → Notice

-- the mark's part: none, untimed, or due in the unit of a profile: late by so much, or released with its times
pub data Mark : Type 0 where
  unmarked : Mark
  untimed : Mark
  due : ℕ → Due → Mark

-- a mark's number: 14 where it is late
abbrev pub mark_number : Mark → ℕ
mark_number unmarked = 0
mark_number untimed = 0
mark_number (due profile (late x)) = 14
mark_number (due profile (released t)) = 0

-- and by how much (document 02, Paper 3)
abbrev pub mark_lateness : Mark → ℕ
mark_lateness unmarked = 0
mark_lateness untimed = 0
mark_lateness (due profile (late x)) = x
mark_lateness (due profile (released t)) = 0

-- the report on a packet that is not refused; `turn` says that a numbers notice gave another index than the known one
pub record Report : Type 0 where
  pub label : Option ℕ
  pub notice : Notice
  pub turn : Bool
  pub mark : Mark
  pub place : Option ℕ

-- the parts of a reply; a refused packet has none
abbrev pub label_in : Reply Report → Option ℕ
label_in (refused k) = none
label_in (given r) = r.label

abbrev pub notice_in : Reply Report → Notice
notice_in (refused k) = absent
notice_in (given r) = r.notice

abbrev pub mark_in : Reply Report → Mark
mark_in (refused k) = unmarked
mark_in (given r) = r.mark

-- what a call leaves and replies
pub record Result (A : Type 0) : Type 0 where
  pub slave : Slave
  pub reply : Reply A

abbrev pub left : {A : Type 0} → Slave → Reply A → Result A
left s r = record { slave = s; reply = r }

-- ---- the code's answers in these numbers and values

abbrev pub option_of : std.Option ℕ → Option ℕ
option_of None = none
option_of (Some x) = some x

abbrev pub notice_of : NoticePart'.NoticePart → Notice
notice_of notice.Absent = absent
notice_of notice.Taken = taken
notice_of notice.Slip = slip
notice_of (notice.Ignored r) = ignored (refusal_number r)

abbrev pub mark_of : MarkPart'.MarkPart → Mark
mark_of mark.Unmarked = unmarked
mark_of mark.Untimed = untimed
mark_of (mark.Dvb d) = due 0 (due_in steps d)
mark_of (mark.A110 d) = due 1 (due_in periods d)

abbrev pub report_of : Counted'.Counted → Report
report_of c = record { label = option_of c.label; notice = notice_of c.notice; turn = c.turn; mark = mark_of c.mark; place = option_of c.place }

abbrev pub answer_of : std.Result Counted'.Counted Refusal → Reply Report
answer_of (Ok c) = given (report_of c)
answer_of (Err r) = refused (refusal_number r)

abbrev pub shifted_of : Left (Unit {0}) → Result (Unit {0})
shifted_of r = left r.slave (reply_of r.reply)

abbrev pub stepped_of : Left Counted'.Counted → Result Report
stepped_of r = left r.slave (answer_of r.reply)

-- a call leaves this slave, and its answer says this reply: what an answer says is given for each form of answer
abbrev pub Leaves : {A : Type 0} → (A → Reply Report → Type 0) → Slave → A → Result Report → Type 0
Leaves says s a r = (s ≡ r.slave) × says a r.reply
