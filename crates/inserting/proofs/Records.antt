-- Laws of settings and records: where their bytes lie in an input, and some records and then more.
use mathlib.Core.Path.{◌≡◌, refl, sym, ap, ap₂, ◌∙◌}
use mathlib.Core.Bool.{Bool, true, false, cond}
use mathlib.Core.List.{List, [], ◌++◌, append_assoc, append-nil}
use Prim.Native.Nat.{ℕ, zero, suc, ◌+◌, ◌-◌, ◌*◌, ◌≤◌, ◌<◌}
use native.Mathlib.Nat.{zero-add}
use native.Mathlib.Omega.{arith}
use lib.Dec.{eqb}
use lib.ListN.{length, drop, length-drop}
use lib.Seq.{take_all, take-append-le, drop-append-le, drop-drop}
use borrow.Author.Tests.{eq-eqb, ne_eqb, le-leb, lt-leb, eqb-true, eqb-false}
use Rattle.wire.specs.Reply.{refused}
use Rattle.wire.specs.Standards.{packet_length}
use Rattle.wire.specs.BigEndian.{be32_at}
use Rattle.cadence.specs.Cadence.{at_some_rate, is_mega_frame, admits}
use Rattle.inserter.specs.declared.Inserter.{Inserter}
use Rattle.inserter.specs.Settings.{settings_refusal, start_of}
use Rattle.inserter.specs.Packet.{Handled, handled, insert_of}
use Rattle.inserting.specs.declared.Insertion.{Insertion}
use Rattle.inserting.specs.Settings.{settings_length, settings_in, field_in, begun_by}
use Rattle.inserting.specs.Records.{sts_length, record_length, answer_of, sent_by, insertion_after, packet_of, line_by, line_of, first_of, behind, all_of, records_in, whole_of}

-- short settings start what zeros start
pub begun_zeros : (h : List ℕ) → length h < settings_length h
    → start_of (record { n = 0; periodic = 0; reserved = 0; md = record { 0 = 0 }; tps = 0 }) [] ≡ begun_by h
unfolding begun_by start_of settings_refusal admits is_mega_frame at_some_rate
begun_zeros h l = rw (lt-leb (settings_length h) (length h) l)

pub begun_long : (h : List ℕ) → settings_length h ≤ length h → start_of (settings_in h) (field_in h) ≡ begun_by h
unfolding begun_by
begun_long h l = rw (le-leb (settings_length h) (length h) l)

-- a record that is cut short, and a whole one
pub answer_cut : (s : Inserter) (r : List ℕ) → length r < record_length → answer_of s r ≡ handled s (drop sts_length r) (refused 1)
unfolding answer_of
answer_cut s r h = rw (ne_eqb (length r) record_length (λ e. omega arith))

pub answer_whole : (s : Inserter) (r : List ℕ) → length r ≡ record_length
    → answer_of s r ≡ insert_of s (drop sts_length r) (record { 0 = be32_at r 0 })
unfolding answer_of
answer_whole s r h = rw (eq-eqb (length r) record_length h)

-- the inserter's answer to a whole record's packet
pub answered : (s : Inserter) (r : List ℕ) {p : List ℕ} {sts : ℕ} {a : Handled} → length r ≡ record_length
    → p ≡ drop (length r - packet_length) r → sts ≡ be32_at r 0 → a ≡ insert_of s p (record { 0 = sts }) → a ≡ answer_of s r
answered s r whole packet ticks answer =
    let place : length r - packet_length ≡ sts_length = omega (arith, whole) in
    let part : drop (length r - packet_length) r ≡ drop sts_length r = ap (λ (k : ℕ). drop k r) place in
    answer ∙ (λ j. insert_of s ((packet ∙ part) j) (record { 0 = ticks j })) ∙ sym (answer_whole s r whole)

-- bytes that come later do not change the records that are whole
pub behind_early : (k : ℕ) (s : Insertion) (i later : List ℕ) → record_length * k ≤ length i → behind k s (i ++ later) ≡ behind k s i
unfolding behind
behind_early zero s i later h = refl
behind_early (suc k) s i later h =
    ap₂ (λ (r x : List ℕ). behind k (insertion_after s r) x) (take-append-le record_length i later (omega arith)) (drop-append-le record_length i later (omega arith))
    ∙ behind_early k (insertion_after s (first_of i)) (drop record_length i) later (omega (arith, length-drop record_length i))

module _ (gives : Insertion → List ℕ → List ℕ) where
  pub all_early : (k : ℕ) (s : Insertion) (i later : List ℕ) → record_length * k ≤ length i → all_of gives k s (i ++ later) ≡ all_of gives k s i
  unfolding all_of
  all_early zero s i later h = refl
  all_early (suc k) s i later h =
      ap₂ (λ (r x : List ℕ). gives s r ++ all_of gives k (insertion_after s r) x) (take-append-le record_length i later (omega arith)) (drop-append-le record_length i later (omega arith))
      ∙ ap (λ (x : List ℕ). gives s (first_of i) ++ x) (all_early k (insertion_after s (first_of i)) (drop record_length i) later (omega (arith, length-drop record_length i)))

  -- j records and then k more are j + k records
  pub all_then : (j k : ℕ) (s : Insertion) (i : List ℕ)
      → all_of gives (j + k) s i ≡ all_of gives j s i ++ all_of gives k (behind j s i) (drop (record_length * j) i)
  unfolding all_of behind
  all_then zero k s i = ap (λ (n : ℕ). all_of gives n s i) (zero-add k)
  all_then (suc j) k s i =
      let t : Insertion = insertion_after s (first_of i) in
      let rest : List ℕ = drop record_length i in
      let e : suc j + k ≡ suc (j + k) = omega arith in
      let f : record_length + record_length * j ≡ record_length * suc j = omega arith in
      let more : List ℕ → List ℕ = all_of gives k (behind j t rest) in
      ap (λ (n : ℕ). all_of gives n s i) e
      ∙ ap (λ (x : List ℕ). gives s (first_of i) ++ x) (all_then j k t rest)
      ∙ sym (append_assoc (gives s (first_of i)) (all_of gives j t rest) (more (drop (record_length * j) rest)))
      ∙ ap (λ (x : List ℕ). gives s (first_of i) ++ all_of gives j t rest ++ more x) (drop-drop (record_length * j) record_length i ∙ ap (λ (n : ℕ). drop n i) f)

  -- whole records first, then the rest
  pub whole_then : (k : ℕ) (s : Insertion) (i : List ℕ) → record_length * k ≤ length i
      → all_of gives k s i ++ whole_of gives (behind k s i) (drop (record_length * k) i) ≡ whole_of gives s i
  whole_then k s i h =
      let rest : List ℕ = drop (record_length * k) i in
      let e : k + records_in (length rest) ≡ records_in (length i) = omega (arith, length-drop (record_length * k) i) in
      sym (all_then k (records_in (length rest)) s i) ∙ ap (λ (n : ℕ). all_of gives n s i) e

  -- what is left at the end is a record cut short, or nothing
  pub whole_cut : (s : Insertion) (rest more : List ℕ) (b : Bool) → eqb (length rest) 0 ≡ b → length rest < record_length → gives s rest ≡ more
      → cond b [] more ≡ whole_of gives s rest
  unfolding all_of
  whole_cut s rest more true e h g =
      let z : length rest ≡ 0 = eqb-true (length rest) 0 e in
      let r : 0 ≡ records_in (length rest) = omega arith in
      ap (λ (k : ℕ). all_of gives k s rest) r
  whole_cut s rest more false e h g =
      let z : length rest ≡ 0 → ⊥ = eqb-false (length rest) 0 e in
      let r : 1 ≡ records_in (length rest) = omega (arith, z) in
      sym g
      ∙ ap (gives s) (sym (take_all record_length rest (omega arith)))
      ∙ sym (append-nil (gives s (first_of rest)))
      ∙ ap (λ (k : ℕ). all_of gives k s rest) r

-- it sends nothing, and has the line of a record refused with 1
pub packet_cut : (s : Insertion) (r : List ℕ) → length r < record_length → packet_of s r ≡ []
unfolding sent_by
packet_cut s r h = ap (λ (a : Handled). sent_by a.bytes a.reply) (answer_cut s.inserter r h)

pub line_cut : (s : Insertion) (r : List ℕ) → length r < record_length → line_of s r ≡ line_by s.counts (refused 1)
line_cut s r h = ap (λ (a : Handled). line_by s.counts a.reply) (answer_cut s.inserter r h)
