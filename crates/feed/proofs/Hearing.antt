-- What a slave makes of a packet: a notice that it takes stands in a MIP, and says what that says; and its label then is the one that the pointer leads to.
use mathlib.Core.Path.{◌≡◌, refl, sym, ap, ◌∙◌}
use mathlib.Core.Bool.{Bool, true, false, false≢true}
use mathlib.Core.List.{List}
use mathlib.Core.Option.{some}
use Prim.Native.Nat.{ℕ, zero, suc}
use lib.Dec.{eqb}
use Rattle.wire.specs.Reply.{Reply, refused, given}
use Rattle.wire.proofs.Tests.{both, pick, split}
use Rattle.cadence.specs.Label.{label_of, next_label}
use Rattle.addressing.specs.Entries.{settings_of}
use Rattle.addressing.specs.declared.Settings.{Settings}
use Rattle.notice.specs.Mip.{error_indicator, pointer, synchronization_time_stamp, maximum_delay, addressing_field}
use Rattle.notice.specs.Reader.{section_refusal}
use Rattle.state.specs.Sound.{sound}
use Rattle.state.specs.declared.Board.{Board}
use Rattle.state.specs.declared.Slave.{Slave}
use Rattle.judging.specs.Judge.{unless_refused, unless_ignored, is_empty, arrival_refusal, carries, taken_refusal, limited, mip_taken, judge_field, judge_mip, judge_arrived, judge_packet}
use Rattle.judging.specs.Judgement.{Judgement, Lost, Refuse, Counts, Takes}
use Rattle.slave.specs.Answer.{label_in, notice_in, Report, Result}
use Rattle.slave.specs.Step.{notice_by, passed, unheard, counted, took}
use Rattle.slave.specs.Calls.{unless15, step_of, packet_of}
use Rattle.run.specs.Coasting.{is_taken}
use Rattle.feed.specs.MegaFrames.{is_mip}

-- what holds of a judgement with no notice taken, whatever its number, and of a notice taken, holds of what a number refuses or ignores
module _ (P : Judgement → Type 0) (refuse : (k : ℕ) → P (Refuse k)) (count : (k : ℕ) → P (Counts k)) where
  refused_or : (k : ℕ) (j : Judgement) → P j → P (unless_refused k j)
  refused_or zero j h = h
  refused_or (suc k) j h = refuse (suc k)

  ignored_or : (k : ℕ) (j : Judgement) → P j → P (unless_ignored k j)
  ignored_or zero j h = h
  ignored_or (suc k) j h = count (suc k)

-- a notice that is taken is a MIP's, to a slave of profile 0
abbrev pub FromMip : Board → List ℕ → Judgement → Type 0
FromMip g p Lost = Unit {0}
FromMip g p (Refuse k) = Unit {0}
FromMip g p (Counts k) = Unit {0}
FromMip g p (Takes x) =
    (is_mip p ≡ true) × (x.pointer ≡ pointer p) × (x.sts ≡ (synchronization_time_stamp p).0) × (x.md ≡ (maximum_delay p).0)

module _ (g : Board) (u : Settings) (p : List ℕ) where
  from_field : is_mip p ≡ true → (r : Reply Settings) → FromMip g p (judge_field g p r)
  unfolding limited
  from_field e (refused k) = tt
  from_field e (given v) = ignored_or (FromMip g p) (λ k. tt) (λ k. tt) (taken_refusal g (mip_taken p v)) (Takes (mip_taken p v)) (e, refl, refl, refl)

  pub from_mip : (tick limit : ℕ) → FromMip g p (judge_packet g u p tick limit)
  unfolding judge_arrived judge_mip carries
  from_mip tick limit =
      pick (FromMip g p) (is_empty p) _ _ tt
      (refused_or (FromMip g p) (λ k. tt) (λ k. tt) (arrival_refusal g.profile p tick) _
      (pick (FromMip g p) (eqb (error_indicator p) 0) _ _
      (split (FromMip g p) (carries g.profile p) _ _
      (λ e. ignored_or (FromMip g p) (λ k. tt) (λ k. tt) (section_refusal p limit) _ (from_field (both _ _ e).1 (settings_of (addressing_field p) g.site u)))
      (λ e. tt))
      tt))

-- ---- the label of a slave that takes a notice: the reply says so
abbrev LabelOf : Slave → ℕ → Result Report → Type 0
LabelOf s pointer r = (label_in r.reply ≡ some (label_of s.board.n pointer)) × (r.slave.count.next ≡ next_label s.board.n (label_of s.board.n pointer))

none_by : (k : ℕ) → is_taken (notice_by k) ≡ false
none_by zero = refl
none_by (suc k) = refl

untaken : (s : Slave) (k tick : ℕ) → is_taken (notice_in (counted s k tick).reply) ≡ false
unfolding counted passed unheard
untaken s k tick = pick (λ (r : Result Report). is_taken (notice_in r.reply) ≡ false) (eqb s.count.phase 2) _ _ (none_by k) (none_by k)

module _ (s : Slave) (p : List ℕ) (tick limit : ℕ) where
  by_step : (j : Judgement) → FromMip s.board p j → is_taken (notice_in (step_of s j tick).reply) ≡ true → (is_mip p ≡ true) × LabelOf s (pointer p) (step_of s j tick)
  unfolding step_of took
  by_step Lost f e = absurd (false≢true e)
  by_step (Refuse k) f e = absurd (false≢true e)
  by_step (Counts k) f e = absurd (false≢true (sym (untaken s k tick) ∙ e))
  by_step (Takes x) f e =
      (f.0, (ap (λ (q : ℕ). some (label_of s.board.n q)) f.1, ap (λ (q : ℕ). next_label s.board.n (label_of s.board.n q)) f.1))

  pub label_taken : is_taken (notice_in (packet_of s p tick limit).reply) ≡ true → (is_mip p ≡ true) × LabelOf s (pointer p) (packet_of s p tick limit)
  unfolding packet_of
  label_taken = go (sound s)
    where
      go : (b : Bool) → is_taken (notice_in (unless15 b (step_of s (judge_packet s.board s.settings p tick limit) tick)).reply) ≡ true
          → (is_mip p ≡ true) × LabelOf s (pointer p) (unless15 b (step_of s (judge_packet s.board s.settings p tick limit) tick))
      go true e = by_step (judge_packet s.board s.settings p tick limit) (from_mip s.board s.settings p tick limit) e
      go false e = absurd (false≢true e)
