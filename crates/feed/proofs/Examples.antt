-- A small stream, computed over the definitions, and a slave that hears it: the premises can be met.
use mathlib.Core.Path.{◌≡◌, refl, sym, ap}
use mathlib.Core.Bool.{false≢true}
use mathlib.Core.List.{List, [], ◌∷◌}
use mathlib.Core.Option.{none, some}
use Prim.Native.Nat.{ℕ}
use lib.Dec.{lit≤}
use lib.ListN.{replicate, take, get_or}
use Rattle.wire.specs.Standards.{longest_addressing}
use Rattle.check_value.specs.Register.{bit_in, bits_in, register_from, register}
use Rattle.times.specs.Whole.{within}
use Rattle.times.specs.Release.{wrap, modulation, link_delay, delay_fits, due_of}
use Rattle.cadence.specs.Cadence.{at_some_rate, is_mega_frame, admits}
use Rattle.addressing.specs.Functions.{length_fits, set_by, functions_in, functions_of}
use Rattle.addressing.specs.Entries.{addressed, entries_in, settings_of, well_formed}
use Rattle.notice.specs.Reader.{section_refusal}
use Rattle.writer.specs.Writer.{write_refusal, head_of, fields_of, mip_of}
use Rattle.state.specs.Profile.{second, delay_kept, settings_kept}
use Rattle.state.specs.Sound as state
use Rattle.state.specs.Sound.{is_zero, frequency_fits, index_fits, is_nothing, waiting_fits, is_unset, is_uncounted, hunting_fits, locked_fits, parts_fit}
use Rattle.state.specs.declared.Board.{Board}
use Rattle.judging.specs.Judge.{arrival_refusal, carries, taken_refusal, limited, judge_mip, judge_arrived}
use Rattle.slave.specs.Step.{release_at, mark_at, passed, unheard, counted, mark_taken, notice_taken, took}
use Rattle.slave.specs.Gap.{gapped}
use Rattle.slave.specs.Calls.{step_of, start_of, packet_of, gap_of}
use Rattle.inserter.specs.declared.Settings.{Settings}
use Rattle.inserter.specs.Settings.{settings_refusal, begun, progress_fits, sound}
use Rattle.inserter.specs.Packet.{given_refusal, insert_refusal, null_packet, cleared, sent_of, progress_after, missed, sent, insert_of}
use Rattle.run.specs.Book.{by_value, in_place, packet, Call, at, gap, judged, verdict_at, untold, count_place, tell_gap, enter, enter_call, book_after}
use Rattle.run.specs.Run.{hear, leave, slave_after, places}
use Rattle.run.specs.Claim.{Timed}
use Rattle.run.proofs.Sentences.{sentences}
use Rattle.feed.specs.Calls.{Item, packets, numbers, packet_at}
use Rattle.feed.specs.Network.{announced, adapter_of, Startable, Hears}
use Rattle.feed.proofs.Network.{network}

-- a mega-frame of 2016 packets; site 7 is told an offset of −5
abbrev t : Settings
t = record { n = 2016; periodic = 1; reserved = 0; md = record { 0 = 1_100 }; tps = 0x4A15_0000 }

abbrev f : List ℕ
f = 0x00 ∷ 0x07 ∷ 0x04 ∷ 0x00 ∷ 0x04 ∷ 0xFF ∷ 0xFB ∷ []

abbrev item : (first high low sts : ℕ) → Item
item first high low sts = record { bytes = first ∷ high ∷ low ∷ 0x10 ∷ replicate 184 0xAB; sts = record { 0 = sts } }

abbrev plain : ℕ → Item
plain sts = item 0x47 0x01 0x00 sts

abbrev null : ℕ → Item
null sts = item 0x47 0x1F 0xFF sts

-- a plain packet; one refused with 2; a null packet; one with the notice's PID, its error indicator set; a null packet; one refused with 11; and plain ones,
-- through the next mark
abbrev items : List Item
items = plain 5 ∷ item 0x46 0x1F 0xFF 5 ∷ null 9_999_000 ∷ item 0x47 0xE0 0x15 7 ∷ null 8 ∷ null 10_000_000 ∷ replicate 2013 (plain 9)

-- the notice at label 1, whose check value was reckoned by long division, and the same with another last byte
abbrev mip : ℕ → List ℕ
mip last =
    0x47 ∷ 0x60 ∷ 0x15 ∷ 0x10 ∷ 0x00 ∷ 0x1A ∷ 0x07 ∷ 0xDE ∷ 0x80 ∷ 0x00 ∷ 0x98 ∷ 0x92 ∷ 0x98 ∷ 0x00 ∷ 0x04 ∷ 0x4C ∷ 0x4A ∷ 0x15 ∷ 0x00 ∷ 0x00 ∷ 0x07
    ∷ 0x00 ∷ 0x07 ∷ 0x04 ∷ 0x00 ∷ 0x04 ∷ 0xFF ∷ 0xFB ∷ 0xFC ∷ 0x54 ∷ 0x94 ∷ last ∷ replicate 156 0xFF

pub computed :
    (packets (begun t f) items ≡ (plain 5).bytes ∷ mip 0x6F ∷ null_packet ∷ (null 8).bytes ∷ replicate 2013 (plain 9).bytes)
    × (numbers (begun t f) items ≡ replicate 2017 0)
    × (adapter_of t items 0 ≡ some (record { label = 1; sts = 9_999_000; md = 1_100 }))
unfolding packets numbers insert_of insert_refusal given_refusal sound progress_fits settings_refusal write_refusal sent sent_of progress_after missed cleared null_packet mip_of fields_of head_of register register_from bits_in bit_in admits is_mega_frame at_some_rate announced functions_in functions_of entries_in length_fits well_formed settings_of
computed = (refl, refl, refl)

-- ---- a slave hears the notice at its place, then one that was damaged, misses 2013 packets, and gets the mark

abbrev g : Board
g = record { profile = 0; n = 2016; site = 7; tad = 200 }

abbrev calls : List Call
calls =
    at 1 (packet in_place (mip 0x6F) 2 longest_addressing) ∷ at 2 (packet by_value (mip 0x6E) 3 longest_addressing) ∷ gap 2013
    ∷ at 2016 (packet by_value (plain 9).bytes 9_999_500 longest_addressing) ∷ []

startable : Startable t f
unfolding settings_refusal write_refusal admits is_mega_frame at_some_rate functions_in functions_of entries_in length_fits well_formed settings_of
startable = record { accepted = refl; tps = lit≤ tt }

pub hears : Hears t f items g calls
unfolding places enter_call verdict_at judged settings_kept admits is_mega_frame at_some_rate second arrival_refusal carries taken_refusal limited judge_mip judge_arrived section_refusal settings_of entries_in functions_of functions_in length_fits set_by addressed register register_from bits_in bit_in delay_kept delay_fits within enter count_place tell_gap untold
hears =
    record {
      accepted = refl;
      cadence = refl;
      rising = (lit≤ tt, (lit≤ tt, (lit≤ tt, tt)));
      own = (λ e. ap (λ (x : List (List ℕ)). packet_at x 1) (sym computed.0), (λ e. absurd (false≢true e), (tt, (λ e. absurd (false≢true e), tt))));
    }

-- so its mark has the inserter's time: 9,999,000 + 1,100, less a second
pub timed : Timed 2016 10_000_000 (adapter_of t items) 2016 100
unfolding enter_call verdict_at judged hear leave start_of packet_of gap_of state.sound settings_kept admits is_mega_frame at_some_rate second parts_fit hunting_fits is_unset is_uncounted is_zero locked_fits frequency_fits index_fits waiting_fits is_nothing delay_kept delay_fits within arrival_refusal carries taken_refusal limited judge_mip judge_arrived step_of counted passed unheard took mark_at mark_taken notice_taken release_at due_of wrap modulation link_delay gapped section_refusal settings_of entries_in functions_of functions_in length_fits set_by addressed register register_from bits_in bit_in slave_after book_after enter count_place tell_gap untold
timed = ((sentences (adapter_of t items)).times g calls ((network t f items startable).runs g calls hears) (take 3 calls) _ 2016 _ refl 0 _ refl refl).1

-- ---- a mega-frame without a null packet: 21 with its last packet, and no notice
pub without_null : (get_or (numbers (begun t f) (replicate 2016 (plain 5))) 2015 0 ≡ 21) × (adapter_of t (replicate 2016 (plain 5)) 0 ≡ none)
unfolding numbers insert_of insert_refusal given_refusal sound progress_fits settings_refusal write_refusal sent sent_of progress_after missed cleared null_packet admits is_mega_frame at_some_rate announced functions_in functions_of entries_in length_fits well_formed settings_of
without_null = (refl, refl)
