-- What is sent of an input is what an inserter sends that is called with its records, as crate `feed` says it; and what the numbers in the lines count.
use mathlib.Core.Path.{◌≡◌, refl, sym, ap, ◌∙◌, subst}
use mathlib.Core.Bool.{Bool, true, false, cond}
use mathlib.Core.List.{List, ◌∷◌, ◌++◌, append-nil}
use Prim.Native.Nat.{ℕ, zero, suc, ◌+◌, ◌*◌, ◌/◌, ◌≤◌, ◌<◌}
use native.Mathlib.Nat.{mul-suc}
use native.Mathlib.Omega.{arith}
use lib.Dec.{eqb, leb}
use lib.ListN.{length, drop, length-drop}
use lib.Seq.{length-take-le}
use Rattle.std.proofs.lemmas.Bool.{eqb-true, ne_eqb}
use Rattle.std.specs.Prelude.{map}
use Rattle.std.specs.List.{concat}
use Rattle.wire.specs.Reply.{Reply, refused, given}
use Rattle.wire.proofs.Tests.{given_zero, kept_new}
use Rattle.cadence.specs.Label.{next_label}
use Rattle.inserter.specs.declared.Progress.{Progress}
use Rattle.inserter.specs.declared.Settings.{Settings}
use Rattle.inserter.specs.declared.Inserter.{Inserter}
use Rattle.inserter.specs.Settings.{settings_refusal, zeros, begun, started, start_of, sound}
use Rattle.inserter.specs.Packet.{given_refusal, is_last, progress_after, Handled, handled, sent, unless_kept}
use Rattle.inserter.proofs.Judged.{sound_parts}
use Rattle.inserter.proofs.Kept.{begun_sound, label_last, label_on, sent_sound}
use Rattle.feed.specs.Calls.{Item, call_of, outcomes, sent_among, packets}
use Rattle.feed.proofs.Lists.{sending, call_is}
use Rattle.inserting.specs.declared.Insertion.{Insertion}
use Rattle.inserting.specs.Settings.{settings_length, rest_of, settings_in, field_in, begun_by}
use Rattle.inserting.specs.Records.{record_length, answer_of, most, next, counted_by, sent_by, insertion_by, insertion_after, packet_of, first_of, behind, all_of, first, if_started, whole_of, written_of}
use Rattle.feed.specs.Program.{item_of, items_of, items_in, sent_before}
use Rattle.inserting.proofs.Records.{answer_whole, whole_then}
use Rattle.inserting.proofs.Whole.{ends_packets}

answer_is : (s : Inserter) (i : List ℕ) → record_length ≤ length i → answer_of s (first_of i) ≡ call_of s (item_of (first_of i))
answer_is s i h = answer_whole s (first_of i) (length-take-le record_length i h)

abbrev bytes_of : List Handled → List (List ℕ)
bytes_of hs = map (λ h. h.bytes) (sent_among hs)

-- ---- the packets

sent_then : (t : Inserter) (p : List ℕ) (r : Reply ℕ) (hs : List Handled) → sent_by p r ++ concat (bytes_of hs) ≡ concat (bytes_of (handled t p r ∷ hs))
unfolding sent_by
sent_then t p (refused k) hs = refl
sent_then t p (given k) hs = refl

pub all_sent : (k : ℕ) (s : Insertion) (i : List ℕ) → record_length * k ≤ length i → all_of packet_of k s i ≡ concat (packets s.inserter (items_of k i))
unfolding all_of items_of packets
all_sent zero s i h = refl
all_sent (suc k) s i h =
    let c : Handled = call_of s.inserter (item_of (first_of i)) in
    let rest : List ℕ = drop record_length i in
    (λ j. sent_by (answer_is s.inserter i (omega arith) j).bytes (answer_is s.inserter i (omega arith) j).reply ++ all_of packet_of k (insertion_by s (answer_is s.inserter i (omega arith) j)) rest)
    ∙ ap (λ (x : List ℕ). sent_by c.bytes c.reply ++ x) (all_sent k (insertion_by s c) rest (omega (arith, length-drop record_length i)))
    ∙ sent_then c.inserter c.bytes c.reply (outcomes c.inserter (items_of k rest))

-- an accepted start begins as the inserter's does
begun_is : (h : List ℕ) → (begun_by h).reply ≡ given tt → (begun_by h).inserter ≡ begun (settings_in h) (field_in h)
unfolding begun_by start_of
begun_is h e = go (leb (settings_length h) (length h)) e
  where
    go : (b : Bool) → (cond b (start_of (settings_in h) (field_in h)) (started zeros (refused 15))).reply ≡ given tt
        → (cond b (start_of (settings_in h) (field_in h)) (started zeros (refused 15))).inserter ≡ begun (settings_in h) (field_in h)
    go true e = kept_new _ _ _ (given_zero (settings_refusal (settings_in h) (field_in h)) (tt {0}) (tt {0}) e).0
    go false e = let z : ◌≡◌ {A = ℕ} 0 1 = cc in absurd (omega arith)

-- the program sends what the inserter sends that its settings start
pub program_sends : (i : List ℕ) → (begun_by i).reply ≡ given tt → (written_of i).packets ≡ concat (packets (begun (settings_in i) (field_in i)) (items_in i))
unfolding written_of
program_sends i e =
    let rest : List ℕ = rest_of i in
    let s : Insertion = first (begun_by i).inserter in
    let k : ℕ = length rest / record_length in
    let t : Insertion = behind k s rest in
    let cut : List ℕ = drop (record_length * k) rest in
    ap (λ (r : Reply (Unit {0})). if_started r (whole_of packet_of s rest)) e
    ∙ sym (whole_then packet_of k s rest (omega arith))
    ∙ ap (λ (x : List ℕ). all_of packet_of k s rest ++ x) (sym (ends_packets (record { insertion = t; held = cut }) (omega (arith, length-drop (record_length * k) rest))))
    ∙ append-nil (all_of packet_of k s rest)
    ∙ all_sent k s rest (omega arith)
    ∙ ap (λ (x : Inserter). concat (packets x (items_of k rest))) (begun_is i e)

-- ---- the numbers

-- a record's number is how many came before it
counts_one : (s : Insertion) (t : Inserter) (p : List ℕ) (r : Reply ℕ) → (insertion_by s (handled t p r)).counts.number ≡ next s.counts.number
unfolding counted_by
counts_one s t p (refused k) = refl
counts_one s t p (given k) = refl

pub number_behind : (k : ℕ) (s : Insertion) (i : List ℕ) → s.counts.number + k ≤ most → (behind k s i).counts.number ≡ s.counts.number + k
unfolding behind
number_behind zero s i h = omega arith
number_behind (suc k) s i h =
    let a : Handled = answer_of s.inserter (first_of i) in
    let e : (insertion_after s (first_of i)).counts.number ≡ next s.counts.number = counts_one s a.inserter a.bytes a.reply in
    number_behind k (insertion_after s (first_of i)) (drop record_length i) (omega (arith, e)) ∙ omega (arith, e)

-- a packet more: the label goes on, or the mega-frame's number
frame_on : (n : ℕ) (q : Progress) (m : ℕ) → q.label < n → m < most → (b : Bool) → is_last n q ≡ b
    → n * cond (eqb (next_label n q.label) 0) (next m) m + next_label n q.label ≡ n * m + q.label + 1
frame_on n q m h l true e =
    let z : q.label + 1 ≡ n = omega (arith, eqb-true _ _ e) in
    let k : next m ≡ suc m = omega arith in
    rw (label_last n q h e) (omega (arith, ap (λ (x : ℕ). n * x) k ∙ mul-suc n m))
frame_on n q m h l false e = rw (label_on n q h e, ne_eqb (suc q.label) 0 (λ z. omega arith)) (omega arith)

few_more : (b : Bool) (m : ℕ) → cond b (next m) m ≤ suc m
few_more true m = omega arith
few_more false m = omega arith

abbrev SentBefore : ℕ → Insertion → List ℕ → Handled → Type 0
SentBefore k s rest a = sent_before (behind k (insertion_by s a) rest) ≡ sent_before s + length (bytes_of (a ∷ outcomes a.inserter (items_of k rest)))

-- one record more, where what follows it is known
frames_on : (k : ℕ) (s : Insertion) (rest : List ℕ) (item : Item) → sound s.inserter ≡ true → s.counts.mega_frame < most → (g : ℕ)
    → ((t : Insertion) → sound t.inserter ≡ true → t.counts.mega_frame ≤ suc s.counts.mega_frame → sent_before (behind k t rest) ≡ sent_before t + length (packets t.inserter (items_of k rest)))
    → SentBefore k s rest (unless_kept s.inserter item.bytes g (sending s.inserter item))
unfolding packets counted_by sent progress_after
frames_on k s rest item ok l zero behind_them =
    let q : Progress = s.inserter.progress in
    let n : ℕ = s.inserter.settings.n in
    let a : Handled = sending s.inserter item in
    let t : Insertion = insertion_by s a in
    let below : q.label < n = (sound_parts s.inserter ok).label in
    let one : sent_before t ≡ sent_before s + 1 = frame_on n q s.counts.mega_frame below l (is_last n q) refl in
    let few : t.counts.mega_frame ≤ suc s.counts.mega_frame = few_more (eqb (next_label n q.label) 0) s.counts.mega_frame in
    behind_them t (sent_sound s.inserter item.bytes item.sts ok) few ∙ omega (arith, one)
frames_on k s rest item ok l (suc g) behind_them =
    behind_them (insertion_by s (handled s.inserter item.bytes (refused (suc g)))) ok (omega arith)

-- so the packets of the mega-frames that have ended, and of this one so far, are those that were sent
pub frames_behind : (k : ℕ) (s : Insertion) (i : List ℕ) → sound s.inserter ≡ true → record_length * k ≤ length i → s.counts.mega_frame + k ≤ most
    → sent_before (behind k s i) ≡ sent_before s + length (packets s.inserter (items_of k i))
unfolding behind items_of packets
frames_behind zero s i ok h l = omega arith
frames_behind (suc k) s i ok h l =
    let item : Item = item_of (first_of i) in
    let rest : List ℕ = drop record_length i in
    (λ j. sent_before (behind k (insertion_by s (answer_is s.inserter i (omega arith) j)) rest))
    ∙ subst (SentBefore k s rest) (sym (call_is s.inserter ok item))
    (frames_on k s rest item ok (omega arith) (given_refusal item.bytes item.sts)
    (λ t o m. frames_behind k t rest o (omega (arith, length-drop record_length i)) (omega (arith, m))))

-- from a start on
pub frames_counted : (t : Settings) (f : List ℕ) → settings_refusal t f ≡ 0 → (k : ℕ) (i : List ℕ) → record_length * k ≤ length i → k ≤ most
    → sent_before (behind k (first (begun t f)) i) ≡ length (packets (begun t f) (items_of k i))
frames_counted t f e k i h l = frames_behind k (first (begun t f)) i (begun_sound t f e) h (omega arith) ∙ omega arith
