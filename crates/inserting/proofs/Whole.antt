-- What is written does not depend on the pieces in which an input is read.
use mathlib.Core.Path.{◌≡◌, refl, sym, ap, ap₂, ◌∙◌, subst}
use mathlib.Core.Bool.{Bool, true, false, cond}
use mathlib.Core.List.{List, [], ◌∷◌, ◌++◌, append_assoc, append-nil}
use Prim.Native.Nat.{ℕ, ◌+◌, ◌*◌, ◌/◌, ◌-◌, ◌≤◌, ◌<◌}
use native.Mathlib.Nat.{min-eq_left, le-min}
use native.Mathlib.Omega.{arith}
use lib.Dec.{eqb}
use lib.ListN.{length, take, drop, get_or, length-append, length-drop, get_or-append}
use lib.Seq.{take-append-le, drop-append-le, drop_at}
use borrow.Author.Tests.{lt-leb}
use Rattle.wire.specs.Reply.{Reply, refused}
use Rattle.wire.specs.BigEndian.{be16, be32}
use Rattle.wire.specs.Standards.{packet_length}
use Rattle.inserter.specs.Settings.{Started, start_of}
use Rattle.text.specs.Line.{refusal_text}
use Rattle.text.proofs.Putting.{fronts_read}
use Rattle.inserting.specs.declared.Insertion.{Insertion}
use Rattle.inserting.specs.Settings.{numbers_length, field_length, settings_length, settings_in, field_in, begun_by}
use Rattle.inserting.specs.Records.{record_length, packet_of, line_of, behind, all_of, first, written, whole_of, written_of}
use Rattle.inserting.specs.Pieces.{line_room, handled_in, PieceTaken, ending_of}
use Rattle.inserting.specs.Calls.{Call, Place, leave, Made, AllMade, gathered, came_to, packets_by, lines_by, place_after, begun, Read, ended_at, written_by}
use Rattle.inserting.proofs.Records.{begun_long, behind_early, all_early, whole_then, whole_cut, packet_cut, line_cut}

-- where there is room, a call handles each record that is whole
handles_whole : (bytes out err : ℕ) → packet_length * (bytes / record_length) ≤ out → line_room * (bytes / record_length) ≤ err
    → handled_in bytes out err ≡ bytes / record_length
unfolding handled_in
handles_whole bytes out err a b = min-eq_left (le-min (omega arith) (omega arith))

-- the bytes that a call is given, and how many records of them are whole
abbrev bytes : Place → Call → List ℕ
bytes p c = p.held ++ c.piece

abbrev records : Place → Call → ℕ
records p c = length (bytes p c) / record_length

abbrev Taken : Place → Call → List ℕ → ℕ → Type 0
Taken p c i k = PieceTaken p.insertion i k c.input c.input' c.out c.out' c.err c.err' c.insertion c.taken

module _ {p : Place} {c : Call} (made : Made p c) where
  taken : Taken p c (bytes p c) (records p c)
  taken =
      let all : Taken p c (bytes p c) (handled_in (length (bytes p c)) (length c.out) (length c.err)) =
      subst (λ (i : List ℕ). Taken p c i (handled_in (length i) (length c.out) (length c.err))) made.given made.kept in
      let a = subst (λ (i : List ℕ). packet_length * (length i / record_length) ≤ length c.out) made.given made.packets in
      let b = subst (λ (i : List ℕ). line_room * (length i / record_length) ≤ length c.err) made.given made.lines in
      subst (λ (k : ℕ). Taken p c (bytes p c) k) (handles_whole (length (bytes p c)) (length c.out) (length c.err) a b) all

  -- where it leaves the insertion, and what it writes
  call_leaves : leave c ≡ record { insertion = behind (records p c) p.insertion (bytes p c); held = drop (record_length * records p c) (bytes p c) }
  call_leaves = λ j. record { insertion = taken.handled.insertion j; held = fronts_read taken.rest j }

  pub call_packets : packets_by c ≡ all_of packet_of (records p c) p.insertion (bytes p c)
  call_packets = fronts_read taken.handled.packets

  pub call_lines : lines_by c ≡ all_of line_of (records p c) p.insertion (bytes p c)
  call_lines = fronts_read taken.handled.lines

  -- less than a record is held
  call_holds : length (leave c).held < record_length
  call_holds = let e : length (leave c).held ≡ length (bytes p c) - record_length * records p c = (λ j. length (call_leaves j).held) ∙ length-drop (record_length * records p c) (bytes p c) in omega arith

-- what records give: each call writes it of its records, and the end of the rest
module _ (gives : Insertion → List ℕ → List ℕ) (by : Call → List ℕ) (ended : Place → List ℕ)
    (wrote : (p : Place) (c : Call) → Made p c → by c ≡ all_of gives (records p c) p.insertion (bytes p c))
    (ends : (p : Place) → length p.held < record_length → ended p ≡ whole_of gives p.insertion p.held) where
  -- the calls and the end write it of all bytes
  pub calls_write : (p : Place) (calls : List Call) → AllMade p calls → length p.held < record_length
      → gathered by calls ++ ended (place_after p calls) ≡ whole_of gives p.insertion (p.held ++ gathered came_to calls)
  unfolding gathered place_after
  calls_write p [] m h = ends p h ∙ ap (whole_of gives p.insertion) (sym (append-nil p.held))
  calls_write p (c ∷ cs) m h =
      let i : List ℕ = bytes p c in
      let k : ℕ = records p c in
      let later : List ℕ = gathered came_to cs in
      let whole : record_length * k ≤ length i = omega arith in
      append_assoc (by c) (gathered by cs) (ended (place_after (leave c) cs))
      ∙ ap₂ (λ (x y : List ℕ). x ++ y) (wrote p c m.0) (calls_write (leave c) cs m.1 (call_holds m.0))
      ∙ (λ j. sym (all_early gives k p.insertion i later whole) j ++ whole_of gives (call_leaves m.0 j).insertion ((call_leaves m.0 j).held ++ later))
      ∙ (λ j. all_of gives k p.insertion (i ++ later) ++ whole_of gives (sym (behind_early k p.insertion i later whole) j) (sym (drop-append-le (record_length * k) i later whole) j))
      ∙ whole_then gives k p.insertion (i ++ later) (omega (arith, length-append i later))
      ∙ ap (whole_of gives p.insertion) (append_assoc p.held c.piece later)

-- the packets, of which the end writes none, and the lines
same_nothing : (b : Bool) → ◌≡◌ {A = List ℕ} [] (cond b [] [])
same_nothing true = refl
same_nothing false = refl

pub ends_packets : (p : Place) → length p.held < record_length → [] ≡ whole_of packet_of p.insertion p.held
ends_packets p h =
    same_nothing (eqb (length p.held) 0) ∙ whole_cut packet_of p.insertion p.held [] (eqb (length p.held) 0) refl h (packet_cut p.insertion p.held h)

ends_lines : (p : Place) → length p.held < record_length → ended_at p ≡ whole_of line_of p.insertion p.held
unfolding ending_of
ends_lines p h = whole_cut line_of p.insertion p.held _ (eqb (length p.held) 0) refl h (line_cut p.insertion p.held h)

-- the settings are the first bytes, whatever follows
module _ (h later : List ℕ) (whole : length h ≡ settings_length h) where
  byte : (k : ℕ) → k < numbers_length → get_or (h ++ later) k 0 ≡ get_or h k 0
  byte k l = get_or-append h later 0 k (omega arith)

  length_front : settings_length (h ++ later) ≡ settings_length h
  length_front = ap (λ (a : ℕ). numbers_length + a) (byte 13 (omega arith))

  settings_front : settings_in (h ++ later) ≡ settings_in h
  settings_front j =
      record {
        n = be16 (byte 0 (omega arith) j) (byte 1 (omega arith) j);
        periodic = byte 2 (omega arith) j;
        reserved = be16 (byte 3 (omega arith) j) (byte 4 (omega arith) j);
        md = record { 0 = be32 (byte 5 (omega arith) j) (byte 6 (omega arith) j) (byte 7 (omega arith) j) (byte 8 (omega arith) j) };
        tps = be32 (byte 9 (omega arith) j) (byte 10 (omega arith) j) (byte 11 (omega arith) j) (byte 12 (omega arith) j);
      }

  field_front : field_in (h ++ later) ≡ field_in h
  field_front =
      (λ j. take (byte 13 (omega arith) j) (drop-append-le numbers_length h later (omega arith) j))
      ∙ take-append-le (field_length h) (drop numbers_length h) later (omega (arith, length-drop numbers_length h))

  begun_front : begun_by (h ++ later) ≡ begun_by h
  begun_front =
      sym (begun_long (h ++ later) (omega (arith, length-append h later, length_front)))
      ∙ ap₂ start_of settings_front field_front
      ∙ begun_long h (omega arith)

  rest_front : drop (settings_length (h ++ later)) (h ++ later) ≡ later
  rest_front = ap (λ (n : ℕ). drop n (h ++ later)) length_front ∙ drop_at h later (settings_length h) whole

-- whatever the pieces in which an input is read, the calls write what the whole input gives
pub written_in_pieces : (h : List ℕ) (calls : List Call) → Read h calls → written_by h calls ≡ written_of (h ++ gathered came_to calls)
unfolding written_by written_of
written_in_pieces h calls r =
    let later : List ℕ = gathered came_to calls in
    let packets = sym (append-nil (gathered packets_by calls)) ∙ calls_write packet_of packets_by (λ _. []) (λ p c m. call_packets m) ends_packets (begun h) calls r.made (omega arith) in
    let lines = calls_write line_of lines_by ended_at (λ p c m. call_lines m) ends_lines (begun h) calls r.made (omega arith) in
    ap₂ (written (begun_by h).reply) packets lines
    ∙ sym
    (λ j.
    written (begun_front h later r.whole j).reply
    (whole_of packet_of (first (begun_front h later r.whole j).inserter) (rest_front h later r.whole j))
    (whole_of line_of (first (begun_front h later r.whole j).inserter) (rest_front h later r.whole j)))

-- short settings write their refusal alone
pub written_short : (h : List ℕ) → length h < settings_length h → written_of h ≡ record { packets = []; lines = refusal_text 15 }
unfolding written_of begun_by
written_short h l = rw (lt-leb (settings_length h) (length h) l) (ap (λ (x : List ℕ). record { packets = []; lines = x }) (append-nil (refusal_text 15)))

-- and so do settings that a start refuses, whatever follows
pub written_refused : (h later : List ℕ) (k : ℕ) → length h ≡ settings_length h → (begun_by h).reply ≡ refused k
    → written_of (h ++ later) ≡ record { packets = []; lines = refusal_text k }
unfolding written_of
written_refused h later k whole e =
    let s : Insertion = first (begun_by (h ++ later)).inserter in
    let rest : List ℕ = drop (settings_length (h ++ later)) (h ++ later) in
    ap (λ (r : Reply (Unit {0})). written r (whole_of packet_of s rest) (whole_of line_of s rest)) (ap (λ (b : Started). b.reply) (begun_front h later whole) ∙ e)
    ∙ ap (λ (x : List ℕ). record { packets = []; lines = x }) (append-nil (refusal_text k))
