-- How a packet and a numbers notice are judged: lost, refused with a number of K, counted, or counted with its notice taken
-- (document 01, "Numbers a call can refuse with"). It depends on the start's settings, the settings in force and the call alone.
use Rattle.std.specs.Prelude.{ℕ, zero, suc, Bool, cond, ◌&&◌, ◌||◌, List, eqb, ltb, length, get_or}
use Rattle.wire.specs.Reply.{Reply, refused, given, must}
use Rattle.wire.specs.Standards.{packet_length, sync_byte, mip_pid}
use Rattle.times.specs.Release.{in_second}
use Rattle.cadence.specs.MobileFrame.{frame_marks}
use Rattle.addressing.specs.Entries.{settings_of}
use Rattle.addressing.specs.declared.Settings.{Settings}
use Rattle.notice.specs.Mip.{error_indicator, packet_identifier, pointer, synchronization_time_stamp, maximum_delay, addressing_field}
use Rattle.notice.specs.Reader.{section_refusal}
use Rattle.state.specs.Profile.{second, delay_kept}
use Rattle.state.specs.Slave.{unknown}
use Rattle.state.specs.declared.Board.{Board}
use Rattle.judging.specs.declared.Numbers.{Numbers}
use Rattle.judging.specs.declared.Taken.{Taken}
use Rattle.judging.specs.Judgement.{Judgement, Lost, Refuse, Counts, Takes}

-- a number of K refuses, else what follows
abbrev pub unless_refused : ℕ → Judgement → Judgement
unless_refused zero j = j
unless_refused (suc k) j = Refuse (suc k)

-- a number of C ignores the notice, else what follows
abbrev pub unless_ignored : ℕ → Judgement → Judgement
unless_ignored zero j = j
unless_ignored (suc k) j = Counts (suc k)

-- an empty packet: no bytes at all
abbrev pub is_empty : List ℕ → Bool
is_empty p = eqb (length p) 0

-- 1, 2, 3, of any packet with its arrival tick
unfoldable pub arrival_refusal : ℕ → List ℕ → ℕ → ℕ
arrival_refusal profile p tick =
    must (eqb (length p) packet_length) 1
    (must (eqb (get_or p 0 0) sync_byte) 2
    (must (in_second (second profile) tick) 3
    0))

-- which packets carry a notice: a MIP in profile 0. Profile 1 reads none
unfoldable pub carries : ℕ → List ℕ → Bool
carries profile p = eqb profile 0 && eqb (packet_identifier p) mip_pid

-- 11, 12 and 13, of a notice that is otherwise right; OD is the one in force once it is taken
unfoldable pub taken_refusal : Board → Taken → ℕ
taken_refusal b t =
    must (in_second (second b.profile) t.sts) 11
    (must (in_second (second b.profile) t.md) 11
    (must (ltb t.pointer b.n) 12
    (must (eqb t.index unknown || ltb t.index frame_marks) 12
    (must (delay_kept b t.md t.settings.od) 13
    0))))

unfoldable pub limited : Board → Taken → Judgement
limited b t = unless_ignored (taken_refusal b t) (Takes t)

-- what a MIP gives once its addressing field has set these settings; it has no index
abbrev pub mip_taken : List ℕ → Settings → Taken
mip_taken p t =
    record { pointer = pointer p; index = unknown; settings = t; sts = (synchronization_time_stamp p).0; md = (maximum_delay p).0 }

-- the form of the addressing field, 10, and what it sets for the site
abbrev pub judge_field : Board → List ℕ → Reply Settings → Judgement
judge_field b p (refused k) = Counts k
judge_field b p (given t) = limited b (mip_taken p t)

-- a MIP: 6 to 8, 26 by the reader's limit, 9, then 10, then 11 to 13
unfoldable pub judge_mip : Board → Settings → List ℕ → ℕ → Judgement
judge_mip b t p limit = unless_ignored (section_refusal p limit) (judge_field b p (settings_of (addressing_field p) b.site t))

-- a packet that arrived right: 4 comes before the PID
unfoldable pub judge_arrived : Board → Settings → List ℕ → ℕ → Judgement
judge_arrived b t p limit = cond (eqb (error_indicator p) 0) (cond (carries b.profile p) (judge_mip b t p limit) (Counts 0)) (Counts 4)

-- a packet, whose notice is read with this limit: an empty one stands for one that was lost, whatever its tick (document 02, Paper 5). Any other: 1, 2, 3,
-- then 4, 6 to 8, 26 and 9 to 13
abbrev pub judge_packet : Board → Settings → List ℕ → (tick limit : ℕ) → Judgement
judge_packet b t p tick limit = cond (is_empty p) Lost (unless_refused (arrival_refusal b.profile p tick) (judge_arrived b t p limit))

-- what a numbers notice gives; frequency and power stay
abbrev pub numbers_taken : Settings → Numbers → Taken
numbers_taken t x =
    record { pointer = x.pointer; index = x.index; settings = record { od = x.od; frequency = t.frequency; power = t.power }; sts = x.sts.0; md = x.md.0 }

-- a numbers notice whose packet arrived right: 4, then 11 to 13
unfoldable pub judge_given : Board → Settings → List ℕ → Numbers → Judgement
judge_given b t p x = cond (eqb (error_indicator p) 0) (limited b (numbers_taken t x)) (Counts 4)

-- a numbers notice: 1, 2, 3, then 20 in profile 0, then 4 and 11 to 13
abbrev pub judge_numbers : Board → Settings → List ℕ → ℕ → Numbers → Judgement
judge_numbers b t p tick x =
    unless_refused (arrival_refusal b.profile p tick) (cond (eqb b.profile 0) (Refuse 20) (judge_given b t p x))
