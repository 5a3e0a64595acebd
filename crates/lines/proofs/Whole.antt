-- The log does not depend on the pieces in which a capture is read.
use mathlib.Core.Path.{◌≡◌, refl, sym, ap, ap₂, ◌∙◌}
use mathlib.Core.Bool.{Bool, true, false}
use mathlib.Core.List.{List, ◌++◌, append_assoc, append-nil}
use Prim.Native.Nat.{ℕ, ◌+◌, ◌*◌, ◌/◌, ◌-◌, ◌≤◌, ◌<◌}
use native.Mathlib.Omega.{arith}
use lib.ListN.{length, take, drop, get_or, length-append, length-drop, get_or-append}
use lib.Seq.{take_all, drop_at}
use lib.Dec.{eqb}
use borrow.Author.Tests.{eqb-true, eqb-false, lt-leb}
use Rattle.wire.specs.Reply.{refused}
use Rattle.wire.specs.BigEndian.{be16, be32}
use Rattle.slave.specs.Answer.{Report, Result, left}
use Rattle.state.specs.declared.Slave.{Slave}
use Rattle.slave.specs.Calls.{start_of}
use Rattle.text.specs.Line.{refusal_text, line_of, end_line}
use Rattle.lines.specs.Log.{settings_length, board_in, begun_by, opened_by, opening_of, record_length, record_of, slave_behind, lines_of, records_in, rest_of, if_started, log_of}
use Rattle.lines.specs.Pieces.{most_records, ending_of}
use Rattle.lines.specs.Calls.{Call, Place, AllMade, came, written, place_after, Together, begun, Read, ended_at, log_by}
use Rattle.lines.proofs.Capture.{lines_then, record_cut, ending_empty, ending_cut, begun_long}
use Rattle.lines.proofs.Calls.{calls_whole, held_less}

-- what is left at the end is a record cut short, or nothing
ending_rest : (number : ℕ) (s : Slave) (held : List ℕ) (b : Bool) → eqb (length held) 0 ≡ b → length held < record_length
    → number + records_in (length held) ≤ most_records
    → ending_of number held ≡ rest_of number s held
unfolding rest_of lines_of
ending_rest number s held true e h l =
    let z : length held ≡ 0 = eqb-true (length held) 0 e in
    let r : records_in (length held) ≡ 0 = omega arith in
    sym (ending_empty number held z)
    ∙ ap end_line (let q : number ≡ number + 0 = omega arith in q)
    ∙ ap (λ (k : ℕ). lines_of k number s held ++ end_line (number + k)) (sym r)
ending_rest number s held false e h l =
    let z : length held ≡ 0 → ⊥ = eqb-false (length held) 0 e in
    let p : 1 ≤ length held = omega (arith, z) in
    let r : records_in (length held) ≡ 1 = omega arith in
    let cut : record_of s (take record_length held) ≡ left s (refused 1) =
    ap (record_of s) (take_all record_length held (omega arith)) ∙ record_cut s held (λ q. omega arith) in
    sym (ending_cut number held z (λ q. omega arith))
    ∙ ap (λ (x : List ℕ). x ++ end_line (number + 1)) (ap (λ (q : Result Report). line_of number q.reply) (sym cut) ∙ sym (append-nil (line_of number (record_of s (take record_length held)).reply)))
    ∙ ap (λ (k : ℕ). lines_of k number s held ++ end_line (number + k)) (sym r)

-- whole records first, then the rest
rest_then : (number : ℕ) (s : Slave) (i : List ℕ) (k : ℕ) → record_length * k ≤ length i
    → lines_of k number s i ++ rest_of (number + k) (slave_behind k s i) (drop (record_length * k) i) ≡ rest_of number s i
unfolding rest_of
rest_then number s i k h =
    let rest : List ℕ = drop (record_length * k) i in
    let r : ℕ = records_in (length rest) in
    let e : k + r ≡ records_in (length i) = omega (arith, length-drop (record_length * k) i) in
    let f : number + k + r ≡ number + (k + r) = omega arith in
    sym (append_assoc (lines_of k number s i) (lines_of r (number + k) (slave_behind k s i) rest) (end_line (number + k + r)))
    ∙ ap₂ (λ (x : List ℕ) (n : ℕ). x ++ end_line n) (sym (lines_then k r number s i)) f
    ∙ ap (λ (n : ℕ). lines_of n number s i ++ end_line (number + n)) e

-- the calls, and `ending` where they leave the log
pub calls_rest : (p : Place) (calls : List Call) → AllMade p calls → length (place_after p calls).held < record_length
    → p.number + records_in (length (p.held ++ came calls)) ≤ most_records
    → written calls ++ ended_at (place_after p calls) ≡ rest_of p.number p.slave (p.held ++ came calls)
calls_rest p calls m h l =
    let i : List ℕ = p.held ++ came calls in
    let k : ℕ = length i / record_length in
    let t : Together k p calls = calls_whole p calls m h in
    let rest : List ℕ = drop (record_length * k) i in
    let left : length rest ≡ length i - record_length * k = length-drop (record_length * k) i in
    ap₂ (λ (x : List ℕ) (q : Place). x ++ ended_at q) t.lines t.place
    ∙ ap (λ (x : List ℕ). lines_of k p.number p.slave i ++ x) (ending_rest (p.number + k) (slave_behind k p.slave i) rest (eqb (length rest) 0) refl (omega arith) (omega arith))
    ∙ rest_then p.number p.slave i k t.whole

-- the settings are the first nine bytes, whatever follows
module _ (h later : List ℕ) (nine : length h ≡ settings_length) where
  byte : (k : ℕ) → k < settings_length → get_or (h ++ later) k 0 ≡ get_or h k 0
  byte k l = get_or-append h later 0 k (omega arith)

  board_front : board_in (h ++ later) ≡ board_in h
  board_front j =
      record {
        profile = byte 0 (omega arith) j;
        n = be16 (byte 1 (omega arith) j) (byte 2 (omega arith) j);
        site = be16 (byte 3 (omega arith) j) (byte 4 (omega arith) j);
        tad = be32 (byte 5 (omega arith) j) (byte 6 (omega arith) j) (byte 7 (omega arith) j) (byte 8 (omega arith) j);
      }

  begun_front : begun_by (h ++ later) ≡ begun_by h
  begun_front =
      sym (begun_long (h ++ later) (omega (arith, length-append h later))) ∙ ap start_of board_front ∙ begun_long h (omega arith)

  opening_front : opening_of (h ++ later) ≡ opening_of h
  unfolding opening_of
  opening_front = λ j. opened_by (board_front j) (begun_front j).reply

-- whatever the pieces in which a capture is read, the calls print the log of the whole capture
pub log_in_pieces : (h : List ℕ) (calls : List Call) → Read h calls → log_by h calls ≡ log_of (h ++ came calls)
unfolding log_by log_of
log_in_pieces h calls r =
    let later : List ℕ = came calls in
    let less = held_less (begun h) calls r.made r.room (omega arith) (omega (arith, r.counted)) in
    ap (λ (x : List ℕ). opening_of h ++ if_started (begun_by h).reply x) (calls_rest (begun h) calls r.made less (omega (arith, r.counted)))
    ∙ sym
    (λ j.
    opening_front h later r.nine j
    ++ if_started (begun_front h later r.nine j).reply (rest_of 0 (begun_front h later r.nine j).slave (drop_at h later settings_length r.nine j)))

-- short settings print the refusal alone
pub log_short : (h : List ℕ) → length h < settings_length → log_of h ≡ refusal_text 15
unfolding log_of opening_of begun_by
log_short h l = rw (lt-leb settings_length (length h) l) (append-nil (refusal_text 15))
