-- A packet comes with the STS of the next mark, and leaves as it must go out (document 02, Paper 1).
use Rattle.std.specs.Prelude.{ℕ, zero, suc, ◌+◌, ◌%◌, Bool, cond, ◌&&◌, not, List, [], ◌∷◌, ◌++◌, length, get_or, eqb, Result, Ok, Err}
use Rattle.wire.specs.Reply.{Reply, refused, given, must, refusal_number}
use Rattle.wire.specs.Standards.{packet_length, sync_byte, mip_pid, dvb_second}
use Rattle.wire.specs.declared.Refusal.{Refusal}
use Rattle.times.specs.Release.{in_second}
use Rattle.times.specs.declared.Steps.{Steps}
use Rattle.cadence.specs.Label.{next_label}
use Rattle.notice.specs.Mip.{packet_identifier}
use Rattle.writer.specs.Writer.{stuffing, mip_of}
use Rattle.inserter.specs.declared.Progress.{Progress}
use Rattle.inserter.specs.declared.Inserter.{Inserter}
use Rattle.inserter.specs.declared.Passed.{Passed}
use Rattle.inserter.specs.declared.Passed.TheVariants as passed
use Rattle.inserter.specs.Settings.{notice_at, field_of, sound}

-- 1, 2, and 11 of the STS given, on every packet
unfoldable pub given_refusal : List ℕ → Steps → ℕ
given_refusal p sts =
    must (eqb (length p) packet_length) 1
    (must (eqb (get_or p 0 0) sync_byte) 2
    (must (in_second dvb_second sts.0) 11
    0))

-- and 15 first: each keeps the inserter and the packet
unfoldable pub insert_refusal : Inserter → List ℕ → Steps → ℕ
insert_refusal s p sts = must (sound s) 15 (given_refusal p sts)

-- ---- the packet

-- the PID of null packets (ISO/IEC 13818-1, 2.4.3.3), and the null packet that is put for a packet of another adapter's: 47 1F FF 10, then 184 of 0xFF
abbrev pub null_pid : ℕ
null_pid = 0x1FFF

unfoldable pub null_packet : List ℕ
null_packet = (0x47 ∷ 0x1F ∷ 0xFF ∷ 0x10 ∷ []) ++ stuffing 184

-- a packet with the MIP's PID is made a null packet, by its PID alone
unfoldable pub cleared : List ℕ → List ℕ
cleared p = cond (eqb (packet_identifier p) mip_pid) null_packet p

-- a null packet then, which can leave as the notice
abbrev pub is_null : List ℕ → Bool
is_null p = eqb (packet_identifier (cleared p)) null_pid

-- the first of its mega-frame does
abbrev pub puts : Progress → List ℕ → Bool
puts q p = eqb q.placed 0 && is_null p

-- what leaves in the place of a packet
unfoldable pub sent_of : Inserter → List ℕ → Steps → List ℕ
sent_of s p sts =
    cond (puts s.progress p)
    (mip_of (notice_at s.settings s.progress.label s.progress.continuity sts) (field_of s))
    (cleared p)

-- ---- the place in the mega-frame

-- the packet is the mega-frame's last
abbrev pub is_last : ℕ → Progress → Bool
is_last n q = eqb (suc q.label) n

-- the counter goes on with each notice, 15 to 0; behind the last packet no notice is put yet
unfoldable pub progress_after : ℕ → Progress → Bool → Progress
progress_after n q put = record {
  label = next_label n q.label;
  placed = cond (is_last n q) 0 (cond put 1 q.placed);
  continuity = cond put ((q.continuity + 1) % 16) q.continuity;
}

-- 21: the mega-frame ended without a null packet
unfoldable pub missed : ℕ → Progress → Bool → ℕ
missed n q put = cond (is_last n q && eqb q.placed 0 && not put) 21 0

-- ---- the call

-- what it leaves: the inserter and the packet, and a number that refuses the packet, or 0 or 21 of one that is sent
pub record Handled : Type 0 where
  pub inserter : Inserter
  pub bytes : List ℕ
  pub reply : Reply ℕ

abbrev pub handled : Inserter → List ℕ → Reply ℕ → Handled
handled s p r = record { inserter = s; bytes = p; reply = r }

-- a reply's number: what refuses the packet, or that of one that is sent
abbrev pub sent_number : Reply ℕ → ℕ
sent_number (refused k) = k
sent_number (given k) = k

-- a packet that nothing refuses
unfoldable pub sent : Inserter → List ℕ → Steps → Handled
sent s p sts =
    let put : Bool = puts s.progress p in
    handled
    (record s { progress = progress_after s.settings.n s.progress put })
    (sent_of s p sts)
    (given (missed s.settings.n s.progress put))

-- a number keeps the inserter and the packet, else it is sent
abbrev pub unless_kept : Inserter → List ℕ → ℕ → Handled → Handled
unless_kept s p zero h = h
unless_kept s p (suc k) h = handled s p (refused (suc k))

unfoldable pub insert_of : Inserter → List ℕ → Steps → Handled
insert_of s p sts = unless_kept s p (insert_refusal s p sts) (sent s p sts)

-- ---- the code's answers in these numbers

abbrev pub passed_number : Passed → ℕ
passed_number passed.Within = 0
passed_number passed.WithoutNotice = 21

abbrev pub passed_of : Result Passed Refusal → Reply ℕ
passed_of (Ok a) = given (passed_number a)
passed_of (Err r) = refused (refusal_number r)
