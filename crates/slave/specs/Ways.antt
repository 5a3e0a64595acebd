-- What a packet changes of a slave, so that a call stores just that. No public call's contract cites it but those of `way_of`, where what a way leaves and
-- replies is `packet_of`, and of `lost`, an empty packet's own.
use Rattle.std.specs.Prelude as std
use Rattle.std.specs.Prelude.{Ok, Err, cond, eqb}
use Rattle.wire.specs.declared.Refusal.{Refusal}
use Rattle.wire.specs.Reply.{refused, given, refusal_number}
use Rattle.state.specs.Slave.{cold, nothing}
use Rattle.state.specs.Sound.{sound}
use Rattle.state.specs.declared.Slave.{Slave}
use Rattle.slave.specs.Answer.{absent, report_of, Report, Result, left}
use Rattle.slave.specs.Step.{labelled, moved_to, unheard_report}
use Rattle.slave.specs.Gap.{lost}
use Rattle.slave.specs.Calls.{unless15}
use Rattle.slave.specs.declared.Short.{Short}
use Rattle.slave.specs.declared.Marked.{Marked}
use Rattle.slave.specs.declared.Kept.{Kept}
use Rattle.slave.specs.declared.Moved.{Moved}
use Rattle.slave.specs.declared.Way.{Way}
use Rattle.slave.specs.declared.Way.TheVariants as way

-- the count alone moves
abbrev pub short_of : Slave → Short → Result Report
short_of s q =
    left
    (moved_to s s.settings (labelled s.count q.next) s.waiting)
    (given (report_of q.report))

-- the count moves, and nothing waits any more
abbrev pub marked_of : Slave → Marked → Result Report
marked_of s m = left (moved_to s s.settings m.count nothing) (given (report_of m.report))

-- a notice is ignored: the settings stay
abbrev pub kept_of : Slave → Kept → Result Report
kept_of s m = left (moved_to s s.settings m.count m.waiting) (given (report_of m.report))

-- all that a packet may change
abbrev pub moved_of : Slave → Moved → Result Report
moved_of s m = left (moved_to s m.settings m.count m.waiting) (given (report_of m.report))

-- 15 leaves the cold slave, any other refusal the slave as it is
abbrev pub left_by : Slave → Refusal → Slave
left_by s r = cond (eqb (refusal_number r) 15) cold s

abbrev pub refused_by : Slave → Refusal → Result Report
refused_by s r = left (left_by s r) (refused (refusal_number r))

-- an empty packet's way is all of its call: 15, then the gap
abbrev pub lost_by : Slave → Result Report
lost_by s = unless15 (sound s) (lost s)

abbrev pub way_of : Slave → std.Result Way Refusal → Result Report
way_of s (Ok way.Lost) = lost_by s
way_of s (Ok way.Hunts) = left s (given (unheard_report absent))
way_of s (Ok (way.Short q)) = short_of s q
way_of s (Ok (way.Marked m)) = marked_of s m
way_of s (Ok (way.Kept m)) = kept_of s m
way_of s (Ok (way.Moved m)) = moved_of s m
way_of s (Err r) = refused_by s r
