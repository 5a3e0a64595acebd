-- Small runs, computed over the definitions: the premises of demand 3 can be met, marks are released, and what it does not claim can be wrong.
use mathlib.Core.Path.{◌≡◌, refl, ap, ◌∙◌}
use mathlib.Core.Bool.{Bool, true, false, cond}
use mathlib.Core.List.{List, [], ◌∷◌}
use mathlib.Core.Option.{Option, none, some}
use Prim.Native.Nat.{ℕ, ◌+◌, ◌*◌, ◌/◌, ◌%◌, min}
use native.Mathlib.Omega.{arith}
use lib.Dec.{eqb, lit≤}
use lib.IntN.{ℤ, pos, negsuc}
use lib.ListN.{replicate, take}
use Rattle.wire.specs.Reply.{Reply, refused, given}
use Rattle.wire.specs.Standards.{longest_addressing}
use Rattle.check_value.specs.Register.{bit_in, bits_in, register_from, register}
use Rattle.times.specs.Whole.{within}
use Rattle.times.specs.Release.{wrap, modulation, link_delay, delay_fits, delay_fits_a110, late, released, due_of}
use Rattle.cadence.specs.Cadence.{at_some_rate, is_mega_frame, admits}
use Rattle.addressing.specs.Functions.{length_fits, set_by, functions_in, functions_of}
use Rattle.addressing.specs.Entries.{addressed, entries_in, settings_of}
use Rattle.notice.specs.Reader.{section_refusal}
use Rattle.state.specs.Profile.{second, delay_kept, settings_kept}
use Rattle.state.specs.Sound.{is_zero, frequency_fits, index_fits, is_nothing, waiting_fits, is_unset, is_uncounted, hunting_fits, locked_fits, parts_fit, sound}
use Rattle.state.specs.declared.Board.{Board}
use Rattle.state.specs.declared.Slave.{Slave}
use Rattle.judging.specs.Judge.{arrival_refusal, carries, taken_refusal, limited, judge_mip, judge_arrived, judge_given}
use Rattle.slave.specs.Answer.{Notice, absent, taken, slip, ignored, Mark, unmarked, untimed, due, Report, label_in, notice_in}
use Rattle.slave.specs.Step.{release_at, mark_at, passed, unheard, counted, mark_taken, notice_taken, took}
use Rattle.slave.specs.Gap.{gapped}
use Rattle.slave.specs.Calls.{step_of, start_of, packet_of, numbers_of, gap_of}
use Rattle.run.specs.Adapter.{Adapter}
use Rattle.run.specs.Book.{by_value, in_place, Arrival, packet, numbers, Call, at, gap, judged, Book, closed, verdict_at, untold, count_place, tell_gap, enter, enter_call, book_after}
use Rattle.run.specs.Run.{hear, leave, slave_after, begun, places, Run}
use Rattle.run.specs.Claim.{told_exactly, Timed}
use Rattle.run.specs.Late.{Lengthened, mark_behind, Held}
use Rattle.run.specs.Card.{by_gaps, ToldRun}
use Rattle.run.specs.Coasting.{says_taken, marks_over, NoneSaysTaken}
use Rattle.run.proofs.Sentences.{sentences}
use Rattle.run.proofs.Card.{all_told_agree}
use Rattle.run.proofs.Late.{mended}
use Rattle.run.proofs.Coasting.{coasting}

-- profile 1; in each cadence a notice at label 620. The first mark is after the pulse, by 42 units
abbrev sts : ℕ → ℕ
sts c = (19_392_600 + 500 * c) % 19_392_658

abbrev A : Adapter
A c = some (record { label = 620; sts = sts c; md = 100 })

abbrev g : Board
g = record { profile = 1; n = 624; site = 7; tad = 20 }

-- a packet, and one with a wrong first byte
abbrev clean : List ℕ
clean = 0x47 ∷ replicate 187 0

abbrev damaged : List ℕ
damaged = 0x46 ∷ replicate 187 0

-- a plain packet, and a numbers notice with the adapter's STS and MD: what comes, and the call
abbrev quiet : ℕ → Arrival
quiet tick = packet in_place clean tick longest_addressing

abbrev plain : ℕ → ℕ → Call
plain t tick = at t (quiet tick)

abbrev tells_md : (md pointer t tick : ℕ) → ℤ → Arrival
tells_md md pointer t tick od = numbers clean tick (record { pointer = pointer; sts = record { 0 = sts (t / 624) }; md = record { 0 = md }; od = od; index = 255 })

abbrev tells : (pointer t tick : ℕ) → ℤ → Arrival
tells = tells_md 100

abbrev note : (pointer t tick : ℕ) → ℤ → Call
note pointer t tick od = at t (tells pointer t tick od)

abbrev said : Option ℕ → Notice → Mark → Reply Report
said l n m = given (record { label = l; notice = n; turn = false; mark = m; place = none })

abbrev in_bits : (reference emission modulation wait : ℕ) → Mark
in_bits r e m w = due 1 (released (record { reference = r; emission = e; modulation = m; wait = pos w }))

-- what the slave replies, and whether the book has all told exactly at each place
abbrev replies : Slave → List Call → List (Reply Report)
replies s [] = []
replies s (at t a ∷ cs) = (hear s a).reply ∷ replies (leave s (at t a)) cs
replies s (gap k ∷ cs) = replies (leave s (gap k)) cs

abbrev exact : Board → Book → List Call → List Bool
exact g b [] = []
exact g b (at t a ∷ cs) = told_exactly b t ∷ exact g (enter_call g b (at t a)) cs
exact g b (gap k ∷ cs) = exact g (enter_call g b (gap k)) cs

pub record Computed (A : Adapter) (g : Board) (calls : List Call) (answers : List (Reply Report)) (told : List Bool) : Type 0 where
  pub run : Run g A calls
  pub replied : replies (begun g) calls ≡ answers
  pub booked : exact g closed calls ≡ told

-- ---- the runs

-- losses told: a packet refused with K and one that never came are told by one gap
abbrev told_calls : List Call
told_calls = plain 5 0 ∷ note 3 620 1 (pos 0) ∷ plain 621 2 ∷ at 622 (packet by_value damaged 3 longest_addressing) ∷ gap 2 ∷ plain 624 19_392_650 ∷ []

abbrev told_replies : List (Reply Report)
told_replies =
    said none absent unmarked ∷ said (some 620) taken unmarked ∷ said (some 621) absent unmarked ∷ refused 2
    ∷ said (some 0) absent (in_bits 42 42 22 30) ∷ []

-- two lost untold: the labels are two behind, the mark's own packet is not seen as it, and the next notice slips. From then on all is told
abbrev slip_calls : List Call
slip_calls = note 3 620 1 (pos 0) ∷ plain 621 2 ∷ plain 624 3 ∷ gap 619 ∷ note 3 1244 4 (pos 0) ∷ gap 3 ∷ plain 1248 460 ∷ []

abbrev slip_replies : List (Reply Report)
slip_replies =
    said (some 620) taken unmarked ∷ said (some 621) absent unmarked ∷ said (some 622) absent unmarked ∷ said (some 620) slip unmarked
    ∷ said (some 0) absent (in_bits 542 542 522 62) ∷ []

-- a whole cadence lost untold: the mark at 1248 is released with the time of the mark at 624, which is not claimed, and the next notice is no slip
abbrev cadence_calls : List Call
cadence_calls = note 3 620 1 (pos 0) ∷ plain 621 2 ∷ plain 1246 3 ∷ gap 1 ∷ plain 1248 0 ∷ gap 619 ∷ note 3 1868 5 (pos 0) ∷ []

abbrev cadence_replies : List (Reply Report)
cadence_replies =
    said (some 620) taken unmarked ∷ said (some 621) absent unmarked ∷ said (some 622) absent unmarked ∷ said (some 0) absent (in_bits 42 42 22 22)
    ∷ said (some 620) taken unmarked ∷ []

-- more told than lost: u is −4, the label is four ahead and the next notice slips; then it is −624, a whole cadence too many, and that is no slip
abbrev over_calls : List Call
over_calls = note 3 620 1 (pos 0) ∷ gap 5 ∷ plain 622 2 ∷ gap 621 ∷ note 3 1244 3 (pos 0) ∷ gap 627 ∷ plain 1248 4 ∷ gap 619 ∷ note 3 1868 5 (pos 0) ∷ []

abbrev over_replies : List (Reply Report)
over_replies =
    said (some 620) taken unmarked ∷ said (some 2) absent unmarked ∷ said (some 620) slip unmarked ∷ said (some 0) absent untimed
    ∷ said (some 620) taken unmarked ∷ []

-- u leaves 0 and comes back: 621 is lost and told only after 622. The labels are right again, and the mark at 624 is not told exactly, though u is
-- 0 there
abbrev back_calls : List Call
back_calls = note 3 620 1 (pos 0) ∷ plain 622 2 ∷ gap 1 ∷ plain 623 3 ∷ plain 624 19_392_650 ∷ []

abbrev back_replies : List (Reply Report)
back_replies =
    said (some 620) taken unmarked ∷ said (some 621) absent unmarked ∷ said (some 623) absent unmarked ∷ said (some 0) absent (in_bits 42 42 22 30) ∷ []

-- notices on the marks themselves. The first notice is on label 0: its mark is untimed, and the notice waits for the next one. There mark and
-- notice are on one packet: the mark is released with the old notice and the old OD, and the new ones are for the mark after it
abbrev Z : Adapter
Z c = some (record { label = 0; sts = sts c; md = 100 })

abbrev mark_calls : List Call
mark_calls = note 623 624 1 (pos 0) ∷ gap 623 ∷ note 623 1248 460 (negsuc 29) ∷ gap 623 ∷ plain 1872 950 ∷ []

abbrev mark_replies : List (Reply Report)
mark_replies =
    said (some 0) taken untimed ∷ said (some 0) taken (in_bits 542 542 522 62) ∷ said (some 0) absent (in_bits 1042 1012 992 42) ∷ []

-- another site, with other delays, that has the mark at 624 after the second's pulse: the same reference time
abbrev h : Board
h = record { profile = 1; n = 624; site = 9; tad = 1 }

abbrev other_calls : List Call
other_calls = note 3 620 1 (negsuc 29) ∷ gap 3 ∷ plain 624 10 ∷ []

abbrev other_replies : List (Reply Report)
other_replies = said (some 620) taken unmarked ∷ said (some 0) absent (in_bits 42 12 11 1) ∷ []

-- profile 0: a MIP, stuffed to 188 bytes, with an OD of −5 for site 7, and later the same with a bit damaged. Its addressing field has 7 bytes: a reader of
-- limit 7 takes it as one of 163 does, and one of limit 6 takes nothing from it, damaged or not (document 02, Paper 9)
abbrev mip : ℕ → List ℕ
mip last =
    0x47 ∷ 0x60 ∷ 0x15 ∷ 0x10 ∷ 0x00 ∷ 0x1A ∷ 0x00 ∷ 0x00 ∷ 0x80 ∷ 0x00 ∷ 0x98 ∷ 0x92 ∷ 0x98 ∷ 0x00 ∷ 0x04 ∷ 0x4C ∷ 0x00 ∷ 0x00 ∷ 0x00 ∷ 0x00 ∷ 0x07
    ∷ 0x00 ∷ 0x07 ∷ 0x04 ∷ 0x00 ∷ 0x04 ∷ 0xFF ∷ 0xFB ∷ 0x5C ∷ 0x2D ∷ 0x53 ∷ last ∷ replicate 156 0xFF

abbrev B : Adapter
B c = some (record { label = 2015; sts = 9_999_000; md = 1_100 })

abbrev k : Board
k = record { profile = 0; n = 2016; site = 7; tad = 200 }

abbrev mip_calls : List Call
mip_calls =
    at 2014 (packet in_place (mip 0x68) 2 6) ∷ at 2015 (packet by_value (mip 0x68) 3 7) ∷ plain 2016 9_999_500 ∷ gap 2014
    ∷ at 4031 (packet by_value (mip 0x69) 4 255) ∷ plain 4032 5 ∷ gap 2014 ∷ at 6047 (packet in_place (mip 0x69) 6 6) ∷ plain 6048 7 ∷ []

abbrev mip_replies : List (Reply Report)
mip_replies =
    said none (ignored 26) unmarked ∷ said (some 2015) taken unmarked
    ∷ said (some 0) absent (due 0 (released (record { reference = 100; emission = 95; modulation = 9_999_895; wait = pos 395 })))
    ∷ said (some 2015) (ignored 9) unmarked ∷ said (some 0) absent untimed ∷ said (some 2015) (ignored 26) unmarked ∷ said (some 0) absent untimed ∷ []

-- behind a radio link card: two packets are lost, and the mark has the adapter's time. An empty packet's tick is not read
abbrev lost : ℕ → Call
lost t = at t (packet in_place [] 19_392_658 0)

abbrev card_calls : List Call
card_calls = note 3 620 1 (pos 0) ∷ lost 621 ∷ plain 622 2 ∷ at 623 (packet by_value [] 3 64) ∷ plain 624 19_392_650 ∷ []

abbrev card_replies : List (Reply Report)
card_replies =
    said (some 620) taken unmarked ∷ said none absent unmarked ∷ said (some 622) absent unmarked ∷ said none absent unmarked
    ∷ said (some 0) absent (in_bits 42 42 22 30) ∷ []

-- and with the mark lost: its notice is gone, and the next notice is no slip. In the cadence behind it the adapter has its notice at label 2
abbrev C : Adapter
C c = some (record { label = cond (eqb c 0) 620 2; sts = sts c; md = 100 })

abbrev lost_mark_calls : List Call
lost_mark_calls = note 3 620 1 (pos 0) ∷ lost 621 ∷ lost 622 ∷ lost 623 ∷ lost 624 ∷ plain 625 5 ∷ note 621 626 6 (pos 0) ∷ []

abbrev lost_mark_replies : List (Reply Report)
lost_mark_replies =
    said (some 620) taken unmarked ∷ said none absent unmarked ∷ said none absent unmarked ∷ said none absent unmarked ∷ said none absent unmarked
    ∷ said (some 1) absent unmarked ∷ said (some 2) taken unmarked ∷ []

pub computed :
    Computed A g told_calls told_replies (false ∷ false ∷ true ∷ true ∷ true ∷ [])
    × Computed A g slip_calls slip_replies (false ∷ true ∷ false ∷ false ∷ true ∷ [])
    × Computed A g cadence_calls cadence_replies (false ∷ true ∷ false ∷ false ∷ false ∷ [])
    × Computed A g over_calls over_replies (false ∷ false ∷ false ∷ false ∷ false ∷ [])
    × Computed A g back_calls back_replies (false ∷ false ∷ false ∷ false ∷ [])
    × Computed Z g mark_calls mark_replies (false ∷ true ∷ true ∷ [])
    × Computed A h other_calls other_replies (false ∷ true ∷ [])
    × Computed B k mip_calls mip_replies (false ∷ false ∷ true ∷ true ∷ true ∷ true ∷ true ∷ [])
    × Computed A g card_calls card_replies (false ∷ true ∷ true ∷ true ∷ true ∷ [])
    × Computed C g lost_mark_calls lost_mark_replies (false ∷ true ∷ true ∷ true ∷ true ∷ true ∷ true ∷ [])
unfolding places enter_call verdict_at judged enter count_place tell_gap untold hear leave start_of packet_of numbers_of gap_of sound settings_kept admits is_mega_frame at_some_rate second parts_fit hunting_fits is_unset is_uncounted is_zero locked_fits frequency_fits index_fits waiting_fits is_nothing delay_kept delay_fits delay_fits_a110 within arrival_refusal carries taken_refusal limited judge_mip judge_arrived judge_given step_of counted passed unheard took mark_at mark_taken notice_taken release_at due_of wrap modulation link_delay gapped section_refusal settings_of entries_in functions_of functions_in length_fits set_by addressed register register_from bits_in bit_in
computed = (
  record {
    run = record { accepted = refl; rising = (lit≤ tt, (lit≤ tt, (lit≤ tt, (lit≤ tt, tt)))); genuine = (tt, (record { points = refl; here = refl }, (tt, (tt, (tt, (tt, tt)))))) };
    replied = refl;
    booked = refl;
  },
  record {
    run = record { accepted = refl; rising = (lit≤ tt, (lit≤ tt, (lit≤ tt, (lit≤ tt, (lit≤ tt, tt))))); genuine = (record { points = refl; here = refl }, (tt, (tt, (tt, (record { points = refl; here = refl }, (tt, (tt, tt))))))) };
    replied = refl;
    booked = refl;
  },
  record {
    run = record { accepted = refl; rising = (lit≤ tt, (lit≤ tt, (lit≤ tt, (lit≤ tt, (lit≤ tt, tt))))); genuine = (record { points = refl; here = refl }, (tt, (tt, (tt, (tt, (tt, (record { points = refl; here = refl }, tt))))))) };
    replied = refl;
    booked = refl;
  },
  record {
    run = record { accepted = refl; rising = (lit≤ tt, (lit≤ tt, (lit≤ tt, (lit≤ tt, (lit≤ tt, tt))))); genuine = (record { points = refl; here = refl }, (tt, (tt, (tt, (record { points = refl; here = refl }, (tt, (tt, (tt, (record { points = refl; here = refl }, tt))))))))) };
    replied = refl;
    booked = refl;
  },
  record {
    run = record { accepted = refl; rising = (lit≤ tt, (lit≤ tt, (lit≤ tt, (lit≤ tt, tt)))); genuine = (record { points = refl; here = refl }, (tt, (tt, (tt, (tt, tt))))) };
    replied = refl;
    booked = refl;
  },
  record {
    run = record { accepted = refl; rising = (lit≤ tt, (lit≤ tt, (lit≤ tt, tt))); genuine = (record { points = refl; here = refl }, (tt, (record { points = refl; here = refl }, (tt, (tt, tt))))) };
    replied = refl;
    booked = refl;
  },
  record {
    run = record { accepted = refl; rising = (lit≤ tt, (lit≤ tt, tt)); genuine = (record { points = refl; here = refl }, (tt, (tt, tt))) };
    replied = refl;
    booked = refl;
  },
  record {
    run = record { accepted = refl; rising = (lit≤ tt, (lit≤ tt, (lit≤ tt, (lit≤ tt, (lit≤ tt, (lit≤ tt, (lit≤ tt, tt))))))); genuine = (tt, (record { points = refl; here = refl }, (tt, (tt, (tt, (tt, (tt, (tt, (tt, tt))))))))) };
    replied = refl;
    booked = refl;
  },
  record {
    run = record { accepted = refl; rising = (lit≤ tt, (lit≤ tt, (lit≤ tt, tt))); genuine = (record { points = refl; here = refl }, (tt, (tt, (tt, (tt, tt))))) };
    replied = refl;
    booked = refl;
  },
  record {
    run = record { accepted = refl; rising = (lit≤ tt, (lit≤ tt, (lit≤ tt, tt))); genuine = (record { points = refl; here = refl }, (tt, (tt, (tt, (tt, (tt, (record { points = refl; here = refl }, tt))))))) };
    replied = refl;
    booked = refl;
  },
)

-- ---- the sentences of demand 3 at places of these runs: their premises can be met, and they say what was computed

abbrev reply_to : Board → List Call → Arrival → Reply Report
reply_to g before a = (hear (slave_after (begun g) before) a).reply

pub read :
    (label_in (reply_to g [] (tells 3 620 1 (pos 0))) ≡ some 620)
    × (label_in (reply_to g (take 2 slip_calls) (quiet 3)) ≡ some 622)
    × (notice_in (reply_to g (take 4 slip_calls) (tells 3 1244 4 (pos 0))) ≡ slip)
    × Timed 624 19_392_658 A 624 42
unfolding enter_call verdict_at judged enter count_place tell_gap untold hear leave start_of packet_of numbers_of gap_of sound settings_kept admits second parts_fit hunting_fits is_unset is_uncounted is_zero locked_fits frequency_fits index_fits waiting_fits is_nothing delay_kept delay_fits delay_fits_a110 within arrival_refusal carries taken_refusal limited judge_arrived judge_given step_of counted passed unheard took mark_at release_at due_of wrap link_delay gapped slave_after book_after
read = (
  (sentences A).where_taken g slip_calls slip_run [] _ 620 _ refl _ refl,
  (sentences A).elsewhere g slip_calls slip_run (take 2 slip_calls) _ 624 _ refl _ refl _ _ _ _ refl,
  ((sentences A).slips g slip_calls slip_run (take 4 slip_calls) _ 1244 _ refl _ refl _ _ _ _ refl).1 (λ e. omega (arith, e)),
  ((sentences A).times g told_calls told_run (take 5 told_calls) _ 624 _ refl 1 _ refl refl).1,
)
  where
    told_run : Run g A told_calls
    told_run = computed.0.run

    slip_run : Run g A slip_calls
    slip_run = computed.1.run

-- ---- behind the card all that is lost is told in its place, so that the mark has its time whatever the book says. A slave told by gaps has the same
-- replies to all other calls

abbrev told_by_gaps : List Call
told_by_gaps = note 3 620 1 (pos 0) ∷ gap 1 ∷ gap 1 ∷ gap 1 ∷ gap 1 ∷ plain 625 5 ∷ note 621 626 6 (pos 0) ∷ []

pub told_in_place :
    ToldRun A g card_calls × ToldRun C g lost_mark_calls × ToldRun A g told_calls × (by_gaps lost_mark_calls ≡ told_by_gaps)
    × (replies (begun g) told_by_gaps ≡ said (some 620) taken unmarked ∷ said (some 1) absent unmarked ∷ said (some 2) taken unmarked ∷ [])
unfolding enter_call verdict_at judged enter count_place tell_gap untold hear leave start_of packet_of numbers_of gap_of sound settings_kept admits second parts_fit hunting_fits is_unset is_uncounted is_zero locked_fits frequency_fits index_fits waiting_fits is_nothing delay_kept delay_fits delay_fits_a110 within arrival_refusal carries taken_refusal limited judge_arrived judge_given step_of counted passed unheard took mark_at mark_taken notice_taken gapped
told_in_place = (
  record { run = computed.8.run; told = (tt, (refl, (tt, (refl, tt)))) },
  record { run = computed.9.run; told = (tt, (tt, (tt, (tt, (refl, (refl, tt)))))) },
  record { run = computed.0.run; told = (refl, (tt, (refl, tt))) },
  refl,
  refl,
)

pub behind_card : Timed 624 19_392_658 A 624 42
unfolding hear leave start_of packet_of numbers_of sound settings_kept admits second parts_fit hunting_fits is_unset is_uncounted is_zero locked_fits frequency_fits index_fits waiting_fits is_nothing delay_kept delay_fits delay_fits_a110 within arrival_refusal carries taken_refusal limited judge_arrived judge_given step_of counted passed unheard took mark_at release_at due_of wrap link_delay gapped slave_after
behind_card = ((all_told_agree A).times g card_calls told_in_place.0 (take 4 card_calls) _ 624 _ refl 1 _ refl).1

-- ---- coasting: behind the notice three packets are lost, the mark is released, an empty packet comes and a gap passes two marks more; then the next mark is
-- lost with an empty packet, a notice is refused with 12, and a packet with 2

abbrev noticed : Slave
noticed = leave (begun g) (note 3 620 1 (pos 0))

abbrev coasting_calls : List Call
coasting_calls =
    gap 3 ∷ plain 624 19_392_650 ∷ at 625 (packet in_place [] 5 longest_addressing) ∷ gap 1870 ∷ at 2496 (packet in_place [] 5 longest_addressing)
    ∷ note 624 2497 5 (pos 0) ∷ at 2498 (packet in_place damaged 5 longest_addressing) ∷ []

pub coasts :
    (says_taken (begun g) (note 3 620 1 (pos 0)) ≡ true) × NoneSaysTaken noticed coasting_calls × (marks_over noticed coasting_calls ≡ 4)
    × (replies noticed coasting_calls
    ≡ said (some 0) absent (in_bits 42 42 22 30) ∷ said none absent unmarked ∷ said none absent unmarked ∷ said (some 1) (ignored 12) unmarked ∷ refused 2 ∷ [])
unfolding judged hear leave start_of packet_of numbers_of gap_of sound settings_kept admits second parts_fit hunting_fits is_unset is_uncounted is_zero locked_fits frequency_fits index_fits waiting_fits is_nothing delay_kept delay_fits delay_fits_a110 within arrival_refusal carries taken_refusal limited judge_arrived judge_given step_of counted passed unheard took mark_at mark_taken notice_taken release_at due_of wrap modulation link_delay gapped
coasts = (refl, (refl, (refl, (refl, (refl, (refl, (refl, (refl, tt))))))), refl, refl)

-- so the slave's number is 4
pub coasted_4 : (slave_after noticed coasting_calls).count.coasted ≡ 4
coasted_4 = coasting.since (begun g) 620 _ coasting_calls coasts.0 coasts.1 ∙ ap (λ (m : ℕ). min m 255) coasts.2

-- ---- late marks, and the same with MD longer by as much

-- P3: a MIP before the mark, of STS 9,500,000 and an MD of 700,000 or 700,001: its lowest byte is 0x60 or 0x61. The mark comes at 200,001
abbrev p3_notice : (low c₀ c₁ c₂ c₃ : ℕ) → Arrival
p3_notice low c₀ c₁ c₂ c₃ =
    packet in_place
    (0x47 ∷ 0x60 ∷ 0x15 ∷ 0x10 ∷ 0x00 ∷ 0x13 ∷ 0x00 ∷ 0x00 ∷ 0x80 ∷ 0x00 ∷ 0x90 ∷ 0xF5 ∷ 0x60 ∷ 0x0A ∷ 0xAE ∷ low ∷ 0x00 ∷ 0x00 ∷ 0x00 ∷ 0x00 ∷ 0x00
    ∷ c₀ ∷ c₁ ∷ c₂ ∷ c₃ ∷ replicate 163 0xFF)
    9_000_000
    longest_addressing

abbrev short : Arrival
short = p3_notice 0x60 0xDA 0x57 0x73 0x39

abbrev mended_p3 : Arrival
mended_p3 = p3_notice 0x61 0xC1 0x7F 0x7E 0x41

abbrev p3_board : Board
p3_board = record { profile = 0; n = 2016; site = 7; tad = 0 }

-- profile 1, notices on the marks themselves as the adapter Z has them, with an MD of 100 or 110. The first is on the mark at 624, which is untimed; 621
-- packets are lost and told; the mark at 1248 comes 90 units after its STS, to a TAD of 20, with a notice of its own
abbrev behind : List Call
behind = plain 625 2 ∷ gap 621 ∷ plain 1247 4 ∷ []

pub record Mends (s : Slave) (profile x : ℕ) (a a' : Arrival) (behind : List Call) (b b' : Arrival) : Type 0 where
  pub lengthened : Lengthened s x a a' behind b b'
  pub was_late : mark_behind s a behind b ≡ due profile (late x)

pub mended_examples :
    Mends (begun p3_board) 0 1 short mended_p3 [] (quiet 200_001) (quiet 200_001)
    × Mends (begun g) 1 10 (tells_md 100 623 624 1 (pos 0)) (tells_md 110 623 624 1 (pos 0)) behind (tells_md 100 623 1248 532 (pos 0)) (tells_md 110 623 1248 532 (pos 0))
unfolding judged hear leave slave_after start_of packet_of numbers_of gap_of sound settings_kept admits is_mega_frame at_some_rate second parts_fit hunting_fits is_unset is_uncounted is_zero locked_fits frequency_fits index_fits waiting_fits is_nothing delay_kept delay_fits delay_fits_a110 within arrival_refusal carries taken_refusal limited judge_mip judge_arrived judge_given step_of counted passed unheard took mark_at mark_taken notice_taken release_at due_of wrap modulation link_delay gapped section_refusal settings_of entries_in functions_of functions_in length_fits set_by addressed register register_from bits_in bit_in
mended_examples = (
  record {
    lengthened = record { is_sound = refl; taken = refl; longer_taken = refl; none_behind = tt; same_tick = refl; own = 0; alike = refl };
    was_late = refl;
  },
  record {
    lengthened = record { is_sound = refl; taken = refl; longer_taken = refl; none_behind = (refl, (tt, (refl, tt))); same_tick = refl; own = 10; alike = refl };
    was_late = refl;
  },
)

-- so both are released with a wait of 0
pub mended_waits :
    Held 0 0 (mark_behind (begun p3_board) mended_p3 [] (quiet 200_001))
    × Held 1 0 (mark_behind (begun g) (tells_md 110 623 624 1 (pos 0)) behind (tells_md 110 623 1248 532 (pos 0)))
mended_waits =
    let m = mended_examples in
    ((mended 1 _ _ _ _ _ _ m.0.lengthened _ _ m.0.was_late).by_it refl, (mended 10 _ _ _ _ _ _ m.1.lengthened _ _ m.1.was_late).by_it refl)
