-- A reply to a packet as plain numbers, all 0 where there is nothing to say.
use Rattle.std.specs.Prelude.{ℕ, ◌+◌, ◌*◌, Bool, true, false, pos}
use Rattle.std.proofs.Math.Option.{Option, none, some}
use Rattle.wire.specs.Reply.{Reply, refused, given}
use Rattle.times.specs.Release.{Times, late, released}
use Rattle.state.specs.declared.Slave.{Slave}
use Rattle.slave.specs.Answer.{Notice, absent, taken, slip, ignored, Mark, unmarked, untimed, due, mark_number, Report, Result}
use Rattle.replies.specs.declared.MarkTimes.{MarkTimes}
use Rattle.replies.specs.declared.Mark as CMark
use Rattle.replies.specs.declared.PacketReply.{PacketReply}
use Rattle.replies.specs.declared.Step.{Step}

abbrev pub is_some : Option ℕ → Bool
is_some none = false
is_some (some x) = true

abbrev pub value_of : Option ℕ → ℕ
value_of none = 0
value_of (some x) = x

abbrev pub notice_kind : Notice → ℕ
notice_kind absent = 0
notice_kind taken = 1
notice_kind slip = 2
notice_kind (ignored k) = 3

abbrev pub notice_number : Notice → ℕ
notice_number absent = 0
notice_number taken = 0
notice_number slip = 0
notice_number (ignored k) = k

-- the kind of a mark that is due says its profile, and so the unit of its lateness or its times; 5 came with Paper 3
abbrev pub mark_kind : Mark → ℕ
mark_kind unmarked = 0
mark_kind untimed = 1
mark_kind (due profile (late x)) = 2 + 3 * profile
mark_kind (due profile (released t)) = profile + 3

abbrev pub no_times : MarkTimes
no_times = record { reference = 0; emission = 0; modulation = 0; wait = pos 0 }

abbrev pub flat_times : Times → MarkTimes
flat_times t = record { reference = t.reference; emission = t.emission; modulation = t.modulation; wait = t.wait }

-- in C lateness and times are a union: a late mark has its lateness where the first of the times stands, and 0 behind it
abbrev pub late_by : ℕ → MarkTimes
late_by x = record { reference = x; emission = 0; modulation = 0; wait = pos 0 }

abbrev pub mark_times : Mark → MarkTimes
mark_times unmarked = no_times
mark_times untimed = no_times
mark_times (due profile (late x)) = late_by x
mark_times (due profile (released t)) = flat_times t

abbrev pub flat_mark : Mark → CMark.Mark
flat_mark m = record { kind = mark_kind m; number = mark_number m; times = mark_times m }

abbrev pub flat_report : Report → PacketReply
flat_report r =
    record {
      number = 0;
      has_label = is_some r.label;
      label = value_of r.label;
      notice = notice_kind r.notice;
      ignored = notice_number r.notice;
      turn = r.turn;
      has_place = is_some r.place;
      place = value_of r.place;
      mark = flat_mark r.mark;
    }

abbrev pub flat_reply : Reply Report → PacketReply
flat_reply (refused k) =
    record { number = k; has_label = false; label = 0; notice = 0; ignored = 0; turn = false; has_place = false; place = 0; mark = flat_mark unmarked }
flat_reply (given r) = flat_report r

-- what a packet or a numbers notice leaves, with its reply
abbrev pub flat_left : Slave → PacketReply → Step
flat_left s r = record { slave = s; reply = r }

abbrev pub flat_step : Result Report → Step
flat_step r = flat_left r.slave (flat_reply r.reply)
