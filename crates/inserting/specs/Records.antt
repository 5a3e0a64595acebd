-- Records, one after another: each a packet with the STS of the next mark.
use Rattle.std.specs.Prelude.{ℕ, zero, suc, ◌+◌, ◌-◌, ◌/◌, min, true, false, cond, List, [], ◌++◌, eqb, length, take, drop}
use Rattle.wire.specs.Reply.{Reply, refused, given}
use Rattle.wire.specs.Standards.{packet_length}
use Rattle.wire.specs.BigEndian.{be32_at}
use Rattle.inserter.specs.declared.Inserter.{Inserter}
use Rattle.inserter.specs.Packet.{Handled, handled, insert_of}
use Rattle.text.specs.Line.{refusal_text, record_line, mega_frame_line}
use Rattle.inserting.specs.declared.Counts.{Counts}
use Rattle.inserting.specs.declared.Insertion.{Insertion}
use Rattle.inserting.specs.Settings.{rest_of, begun_by}

-- a record: the STS (4) and its packet
abbrev pub sts_length : ℕ
sts_length = 4

abbrev pub record_length : ℕ
record_length = sts_length + packet_length

-- what an inserter makes of a record; one that is cut short is refused with 1
unfoldable pub answer_of : Inserter → List ℕ → Handled
answer_of s r =
    cond (eqb (length r) record_length)
    (insert_of s (drop sts_length r) (record { 0 = be32_at r 0 }))
    (handled s (drop sts_length r) (refused 1))

-- records and mega-frames are counted in 64 bits, and the last number stays
abbrev pub most : ℕ
most = 18_446_744_073_709_551_615

abbrev pub next : ℕ → ℕ
next k = min (suc k) most

-- what is counted behind a record, by the reply and the inserter's label then: behind a mega-frame's last packet it is 0
unfoldable pub counted_by : Counts → (label : ℕ) → Reply ℕ → Counts
counted_by c label (refused k) = record c { number = next c.number; refused = true }
counted_by c label (given k) = record c { number = next c.number; mega_frame = cond (eqb label 0) (next c.mega_frame) c.mega_frame }

-- the packet that is sent, if any
unfoldable pub sent_by : List ℕ → Reply ℕ → List ℕ
sent_by p (refused k) = []
sent_by p (given k) = p

-- the line that is written, if any: of the first record that is refused, and of each mega-frame without a null packet (21)
unfoldable pub line_by : Counts → Reply ℕ → List ℕ
line_by c (refused k) = cond c.refused [] (record_line c.number k)
line_by c (given zero) = []
line_by c (given (suc k)) = mega_frame_line c.mega_frame

-- where a record leaves an insertion, its packet and its line
abbrev pub insertion_by : Insertion → Handled → Insertion
insertion_by s a = record { inserter = a.inserter; counts = counted_by s.counts a.inserter.progress.label a.reply }

abbrev pub insertion_after : Insertion → List ℕ → Insertion
insertion_after s r = insertion_by s (answer_of s.inserter r)

abbrev pub packet_by : Handled → List ℕ
packet_by a = sent_by a.bytes a.reply

abbrev pub packet_of : Insertion → List ℕ → List ℕ
packet_of s r = packet_by (answer_of s.inserter r)

abbrev pub line_of : Insertion → List ℕ → List ℕ
line_of s r = line_by s.counts (answer_of s.inserter r).reply

-- ---- the first k records of an input

-- the first record's bytes
abbrev pub first_of : List ℕ → List ℕ
first_of i = take record_length i

-- the insertion behind them
unfoldable pub behind : ℕ → Insertion → List ℕ → Insertion
behind zero s i = s
behind (suc k) s i = behind k (insertion_after s (first_of i)) (drop record_length i)

-- what each gives, its packet or its line, one behind the other
unfoldable pub all_of : (Insertion → List ℕ → List ℕ) → ℕ → Insertion → List ℕ → List ℕ
all_of gives zero s i = []
all_of gives (suc k) s i = gives s (first_of i) ++ all_of gives k (insertion_after s (first_of i)) (drop record_length i)

-- ---- a whole input

-- how many records so many bytes are, the last perhaps cut short
abbrev pub records_in : ℕ → ℕ
records_in bytes = (bytes + (record_length - 1)) / record_length

-- an insertion that begins
abbrev pub first : Inserter → Insertion
first s = record { inserter = s; counts = record { number = 0; mega_frame = 0; refused = false } }

-- the line that a start writes, where it is refused; then nothing follows
abbrev pub opened : Reply (Unit {0}) → List ℕ
opened (refused k) = refusal_text k
opened (given u) = []

abbrev pub if_started : Reply (Unit {0}) → List ℕ → List ℕ
if_started (refused k) rest = []
if_started (given u) rest = rest

-- what the program writes: the packets to standard output, the lines to standard error
pub record Written : Type 0 where
  pub packets : List ℕ
  pub lines : List ℕ

abbrev pub written : Reply (Unit {0}) → (packets lines : List ℕ) → Written
written r packets lines = record { packets = if_started r packets; lines = opened r ++ if_started r lines }

-- of the records of an input
abbrev pub whole_of : (Insertion → List ℕ → List ℕ) → Insertion → List ℕ → List ℕ
whole_of gives s i = all_of gives (records_in (length i)) s i

unfoldable pub written_of : List ℕ → Written
written_of i =
    let s : Insertion = first (begun_by i).inserter in
    written (begun_by i).reply (whole_of packet_of s (rest_of i)) (whole_of line_of s (rest_of i))
