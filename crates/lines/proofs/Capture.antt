-- Laws of records: where a record's bytes lie in an input, and some records and then more.
use mathlib.Core.Path.{◌≡◌, sym, ap, ap₂, ◌∙◌}
use mathlib.Core.List.{List, ◌++◌, append_assoc}
use Prim.Native.Nat.{ℕ, zero, suc, ◌+◌, ◌-◌, ◌*◌, ◌/◌, ◌≤◌, ◌<◌, min}
use native.Mathlib.Nat.{min-le_left, zero-add}
use native.Mathlib.Numerals.{add-one}
use native.Mathlib.Omega.{arith}
use lib.ListN.{length, drop}
use lib.Seq.{drop-drop}
use borrow.Author.Tests.{eq-eqb, ne_eqb, le-leb, lt-leb}
use Rattle.wire.specs.Reply.{refused}
use Rattle.wire.specs.BigEndian.{be32_at}
use Rattle.cadence.specs.Cadence.{at_some_rate, is_mega_frame, admits}
use Rattle.state.specs.Profile.{settings_kept}
use Rattle.state.specs.Slave.{cold}
use Rattle.state.specs.declared.Slave.{Slave}
use Rattle.slave.specs.Answer.{left}
use Rattle.wire.specs.Standards.{longest_addressing}
use Rattle.slave.specs.Calls.{start_of, packet_of}
use Rattle.text.specs.Rooms.{line_room}
use Rattle.text.specs.Line.{line_of, end_line}
use Rattle.lines.specs.Log.{settings_length, board_in, begun_by, tick_length, record_length, record_of, first_of, slave_behind, lines_of}
use Rattle.lines.specs.Pieces.{most_records, handled_in, ending_of}

-- the settings at the front
pub begun_short : (h : List ℕ) → length h < settings_length → left cold (refused 15) ≡ begun_by h
unfolding begun_by
begun_short h l = rw (lt-leb settings_length (length h) l)

-- short ones are a start with zeros
pub begun_zeros : (h : List ℕ) → length h < settings_length → start_of (record { profile = 0; n = 0; site = 0; tad = 0 }) ≡ begun_by h
unfolding start_of settings_kept admits is_mega_frame at_some_rate
begun_zeros h l = begun_short h l

pub begun_long : (h : List ℕ) → settings_length ≤ length h → start_of (board_in h) ≡ begun_by h
unfolding begun_by
begun_long h l = rw (le-leb settings_length (length h) l)

-- a record that is cut short, and a whole one
pub record_cut : (s : Slave) (r : List ℕ) → (length r ≡ record_length → ⊥) → record_of s r ≡ left s (refused 1)
unfolding record_of
record_cut s r h = rw (ne_eqb (length r) record_length h)

pub record_whole : (s : Slave) (r : List ℕ) → length r ≡ record_length → record_of s r ≡ packet_of s (drop tick_length r) (be32_at r 0) longest_addressing
unfolding record_of
record_whole s r h = rw (eq-eqb (length r) record_length h)

-- the bytes from record j of what follows the first record
next_at : (j : ℕ) (i : List ℕ) → drop (record_length * j) (drop record_length i) ≡ drop (record_length * suc j) i
next_at j i =
    let e : record_length + record_length * j ≡ record_length * suc j = omega arith in
    drop-drop (record_length * j) record_length i ∙ ap (λ (n : ℕ). drop n i) e

-- j records and then k more are j + k records
pub slave_then : (j k : ℕ) (s : Slave) (i : List ℕ) → slave_behind (j + k) s i ≡ slave_behind k (slave_behind j s i) (drop (record_length * j) i)
unfolding slave_behind
slave_then zero k s i = ap (λ (n : ℕ). slave_behind n s i) (zero-add k)
slave_then (suc j) k s i =
    let e : suc j + k ≡ suc (j + k) = omega arith in
    let t : Slave = (record_of s (first_of i)).slave in
    ap (λ (n : ℕ). slave_behind n s i) e
    ∙ slave_then j k t (drop record_length i)
    ∙ ap (slave_behind k (slave_behind j t (drop record_length i))) (next_at j i)

pub lines_then : (j k number : ℕ) (s : Slave) (i : List ℕ)
    → lines_of (j + k) number s i ≡ lines_of j number s i ++ lines_of k (number + j) (slave_behind j s i) (drop (record_length * j) i)
unfolding lines_of slave_behind
lines_then zero k number s i =
    let e : number ≡ number + 0 = omega arith in
    ap₂ (λ (m n : ℕ). lines_of m n s i) (zero-add k) e
lines_then (suc j) k number s i =
    let t : Slave = (record_of s (first_of i)).slave in
    let l : List ℕ = line_of number (record_of s (first_of i)).reply in
    let rest : List ℕ = drop record_length i in
    let e : suc j + k ≡ suc (j + k) = omega arith in
    let g : suc number + j ≡ number + suc j = omega arith in
    ap (λ (n : ℕ). lines_of n number s i) e
    ∙ ap (λ (x : List ℕ). l ++ x) (lines_then j k (suc number) t rest)
    ∙ sym (append_assoc l (lines_of j (suc number) t rest) (lines_of k (suc number + j) (slave_behind j t rest) (drop (record_length * j) rest)))
    ∙ ap₂ (λ (n : ℕ) (x : List ℕ). l ++ lines_of j (suc number) t rest ++ lines_of k n (slave_behind j t rest) x) g (next_at j i)

-- no more records are handled than are whole
pub handled_bytes : (bytes room number : ℕ) → record_length * handled_in bytes room number ≤ bytes
unfolding handled_in
handled_bytes bytes room number =
    omega (arith, min-le_left (bytes / record_length) (min (room / line_room) (most_records - number)))

-- the end
pub ending_empty : (number : ℕ) (rest : List ℕ) → length rest ≡ 0 → end_line number ≡ ending_of number rest
unfolding ending_of
ending_empty number rest h = rw (eq-eqb (length rest) 0 h)

pub ending_most : (number : ℕ) (rest : List ℕ) → (length rest ≡ 0 → ⊥) → number ≡ most_records → end_line number ≡ ending_of number rest
unfolding ending_of
ending_most number rest h e = rw (ne_eqb (length rest) 0 h, eq-eqb number most_records e)

pub ending_cut : (number : ℕ) (rest : List ℕ) → (length rest ≡ 0 → ⊥) → (number ≡ most_records → ⊥)
    → line_of number (refused 1) ++ end_line (number + 1) ≡ ending_of number rest
unfolding ending_of
ending_cut number rest h e = rw (ne_eqb (length rest) 0 h, ne_eqb number most_records e, add-one number)
