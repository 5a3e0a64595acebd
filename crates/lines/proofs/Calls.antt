-- Calls of `take_piece` one after another do together what one call does over all their bytes.
use mathlib.Core.Path.{◌≡◌, refl, sym, ap, ap₂, ◌∙◌, subst}
use mathlib.Core.List.{List, [], ◌∷◌, ◌++◌, append_assoc, append-nil}
use Prim.Native.Nat.{ℕ, zero, suc, ◌+◌, ◌*◌, ◌/◌, ◌-◌, ◌≤◌, ◌<◌}
use native.Mathlib.Nat.{min-eq_left, le-min}
use native.Mathlib.Omega.{arith}
use lib.ListN.{length, take, drop, length-append, length-drop}
use lib.Seq.{take-append-le, drop-append-le, drop-drop}
use Rattle.state.specs.declared.Slave.{Slave}
use Rattle.text.specs.Line.{line_of}
use Rattle.text.specs.Rooms.{line_room}
use Rattle.text.proofs.Putting.{fronts_read}
use Rattle.lines.specs.Log.{record_length, record_of, slave_behind, lines_of}
use Rattle.lines.specs.Pieces.{most_records, handled_in, PieceTaken}
use Rattle.lines.specs.Calls.{Call, Place, leave, Made, AllMade, AllRoom, came, written, place_after, place_at, Together}
use Rattle.lines.proofs.Capture.{slave_then, lines_then, handled_bytes}

-- bytes that come later do not change the records that are whole
pub slave_early : (k : ℕ) (s : Slave) (i later : List ℕ) → record_length * k ≤ length i → slave_behind k s (i ++ later) ≡ slave_behind k s i
unfolding slave_behind
slave_early zero s i later h = refl
slave_early (suc k) s i later h =
    ap₂ (λ (r x : List ℕ). slave_behind k (record_of s r).slave x) (take-append-le record_length i later (omega arith)) (drop-append-le record_length i later (omega arith))
    ∙ slave_early k (record_of s (take record_length i)).slave (drop record_length i) later (omega (arith, length-drop record_length i))

pub lines_early : (k number : ℕ) (s : Slave) (i later : List ℕ) → record_length * k ≤ length i → lines_of k number s (i ++ later) ≡ lines_of k number s i
unfolding lines_of
lines_early zero number s i later h = refl
lines_early (suc k) number s i later h =
    ap₂ (λ (r x : List ℕ). line_of number (record_of s r).reply ++ lines_of k (suc number) (record_of s r).slave x) (take-append-le record_length i later (omega arith)) (drop-append-le record_length i later (omega arith))
    ∙ ap (λ (x : List ℕ). line_of number (record_of s (take record_length i)).reply ++ x) (lines_early k (suc number) (record_of s (take record_length i)).slave (drop record_length i) later (omega (arith, length-drop record_length i)))

-- the first j records, then k of what is left and of what comes later
module _ (p : Place) (i later : List ℕ) (j k : ℕ) (h : record_length * j ≤ length i) where
  left : drop (record_length * j) (i ++ later) ≡ drop (record_length * j) i ++ later
  left = drop-append-le (record_length * j) i later h

  lines_later : lines_of j p.number p.slave i ++ lines_of k (place_at j p i).number (place_at j p i).slave ((place_at j p i).held ++ later)
      ≡ lines_of (j + k) p.number p.slave (i ++ later)
  lines_later =
      sym
      (lines_then j k p.number p.slave (i ++ later)
      ∙ (λ x. lines_early j p.number p.slave i later h x ++ lines_of k (p.number + j) (slave_early j p.slave i later h x) (left x)))

  place_later : place_at k (place_at j p i) ((place_at j p i).held ++ later) ≡ place_at (j + k) p (i ++ later)
  place_later =
      let slave : slave_behind (j + k) p.slave (i ++ later) ≡ slave_behind k (slave_behind j p.slave i) (drop (record_length * j) i ++ later) =
      slave_then j k p.slave (i ++ later) ∙ (λ x. slave_behind k (slave_early j p.slave i later h x) (left x)) in
      let number : p.number + (j + k) ≡ p.number + j + k = omega arith in
      let bytes : record_length * (j + k) ≡ record_length * j + record_length * k = omega arith in
      let held : drop (record_length * (j + k)) (i ++ later) ≡ drop (record_length * k) (drop (record_length * j) i ++ later) =
      ap (λ (n : ℕ). drop n (i ++ later)) bytes ∙ sym (drop-drop (record_length * k) (record_length * j) (i ++ later)) ∙ ap (drop (record_length * k)) left in
      sym (λ x. record { slave = slave x; number = number x; held = held x })

-- one call: the bytes it is given, and how many records of them it handles
abbrev bytes : Place → Call → List ℕ
bytes p c = p.held ++ c.piece

abbrev handles : Place → Call → ℕ
handles p c = handled_in (length (bytes p c)) (length c.output) p.number

abbrev Taken : Place → Call → List ℕ → Type 0
Taken p c i = PieceTaken p.slave p.number i (handled_in (length i) (length c.output) p.number) c.input c.input' c.output c.output' c.answer

module _ {p : Place} {c : Call} (made : Made p c) where
  taken : Taken p c (bytes p c)
  taken = subst (Taken p c) made.given made.kept

  -- where it leaves the log, and what it writes
  pub call_leaves : leave c ≡ place_at (handles p c) p (bytes p c)
  call_leaves = λ x. record { slave = taken.slave x; number = taken.next x; held = fronts_read taken.rest x }

  pub call_writes : take c.answer.filled c.output' ≡ lines_of (handles p c) p.number p.slave (bytes p c)
  call_writes = fronts_read taken.lines

  -- one call and then others
  call_then : (k : ℕ) (cs : List Call) → Together k (leave c) cs → Together (handles p c + k) p (c ∷ cs)
  unfolding came written place_after
  call_then k cs t =
      let i : List ℕ = bytes p c in
      let later : List ℕ = came cs in
      let j : ℕ = handles p c in
      let h : record_length * j ≤ length i = handled_bytes (length i) (length c.output) p.number in
      let a : i ++ later ≡ p.held ++ (c.piece ++ later) = append_assoc p.held c.piece later in
      let left : length (leave c).held ≡ length i - record_length * j = (λ x. length (call_leaves x).held) ∙ length-drop (record_length * j) i in
      record {
        whole = omega (arith, t.whole, left, length-append (leave c).held later, length-append i later, ap length a);
        lines =
            ap₂ (λ (x y : List ℕ). x ++ y) call_writes (t.lines ∙ (λ x. lines_of k (call_leaves x).number (call_leaves x).slave ((call_leaves x).held ++ later)))
            ∙ lines_later p i later j k h
            ∙ ap (lines_of (j + k) p.number p.slave) a;
        place = t.place ∙ (λ x. place_at k (call_leaves x) ((call_leaves x).held ++ later)) ∙ place_later p i later j k h ∙ ap (place_at (j + k) p) a;
      }

-- whatever the room, no byte is lost and none is taken twice: the calls together handle so many records of all bytes, from the first on
pub calls_together : (p : Place) (calls : List Call) → AllMade p calls → (k : ℕ) × Together k p calls
unfolding came written place_after slave_behind lines_of
calls_together p [] m =
    let n : p.number ≡ p.number + 0 = omega arith in
    (0, record { whole = omega arith; lines = refl; place = λ x. record { slave = p.slave; number = n x; held = sym (append-nil p.held) x } })
calls_together p (c ∷ cs) m =
    let (k, t) = calls_together (leave c) cs m.1 in
    (handles p c + k, call_then m.0 k cs t)

-- each record that is whole in all bytes, where less than a record is held in the end
pub calls_whole : (p : Place) (calls : List Call) → AllMade p calls → length (place_after p calls).held < record_length
    → Together (length (p.held ++ came calls) / record_length) p calls
calls_whole p calls m h =
    let all : List ℕ = p.held ++ came calls in
    let (k, t) = calls_together p calls m in
    let left : length (place_after p calls).held ≡ length all - record_length * k = (λ x. length (t.place x).held) ∙ length-drop (record_length * k) all in
    let e : k ≡ length all / record_length = omega (arith, t.whole) in
    subst (λ (n : ℕ). Together n p calls) e t

-- where its output has room for their lines, a call handles each record that is whole
pub handles_whole : (bytes room number : ℕ) → line_room * (bytes / record_length) ≤ room → number + bytes / record_length ≤ most_records
    → handled_in bytes room number ≡ bytes / record_length
unfolding handled_in
handles_whole bytes room number h l = min-eq_left (le-min (omega arith) (omega arith))

-- and so less than a record is held in the end
pub held_less : (p : Place) (calls : List Call) → AllMade p calls → AllRoom calls → length p.held < record_length
    → p.number + length (p.held ++ came calls) / record_length ≤ most_records
    → length (place_after p calls).held < record_length
unfolding came place_after
held_less p [] m room h l = h
held_less p (c ∷ cs) m room h l =
    let i : List ℕ = bytes p c in
    let k : ℕ = length i / record_length in
    let later : List ℕ = came cs in
    let all : length i + length later ≡ length (p.held ++ (c.piece ++ later)) = sym (length-append i later) ∙ ap length (append_assoc p.held c.piece later) in
    let enough : line_room * k ≤ length c.output = subst (λ (b : List ℕ). line_room * (length b / record_length) ≤ length c.output) m.0.given room.0 in
    let j : handles p c ≡ k = handles_whole (length i) (length c.output) p.number enough (omega arith) in
    let e : leave c ≡ place_at k p i = call_leaves m.0 ∙ ap (λ (n : ℕ). place_at n p i) j in
    let left : length (leave c).held ≡ length i - record_length * k = (λ x. length (e x).held) ∙ length-drop (record_length * k) i in
    let number : (leave c).number ≡ p.number + k = λ x. (e x).number in
    held_less (leave c) cs m.1 room.1 (omega arith) (omega (arith, length-append (leave c).held later))
