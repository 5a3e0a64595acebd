-- What every call on a sound slave keeps: the start's settings and soundness, so that 15 never arises on a slave that a call left.
use mathlib.Core.Path.{◌≡◌, refl, ap, ◌∙◌}
use mathlib.Core.Bool.{true}
use mathlib.Core.List.{List}
use Prim.Native.Nat.{ℕ, ◌+◌, ◌%◌}
use native.Mathlib.Nat.{mod-lt}
use native.Mathlib.Omega.{arith}
use lib.Dec.{eqb, ltb, leb}
use lib.IntN.{ℤ}
use borrow.Author.Tests.{eqb-true, lt-ltb}
use Rattle.std.proofs.lemmas.Bool.Decides.{nat_tests}
use Rattle.wire.specs.Reply.{given}
use Rattle.wire.proofs.Tests.{join, pick, split, yes}
use Rattle.cadence.specs.Label.{label_of}
use Rattle.cadence.specs.MobileFrame.{frame_marks}
use Rattle.state.specs.Slave.{unknown, nothing}
use Rattle.state.specs.Sound.{index_fits, is_nothing, waiting_fits, sound}
use Rattle.state.specs.declared.Board.{Board}
use Rattle.state.specs.declared.Count.{Count}
use Rattle.state.specs.declared.Waiting.{Waiting}
use Rattle.state.specs.declared.Slave.{Slave}
use Rattle.state.proofs.Sound.{admitted, some_packets, settings_kept_lem, locked, fitting, is_sound}
use Rattle.judging.specs.Judge.{judge_packet, judge_numbers}
use Rattle.judging.specs.Judgement.{Judgement, Lost, Refuse, Counts, Takes}
use Rattle.judging.specs.declared.Numbers.{Numbers}
use Rattle.judging.specs.declared.Taken.{Taken}
use Rattle.judging.proofs.Taking.{IfTaken, Fit, packet_fit, numbers_fit}
use Rattle.slave.specs.Answer.{Report, Result, left}
use Rattle.slave.specs.Step.{raised, count_at, passed, unheard, notice_by, counted, agrees, took}
use Rattle.slave.specs.Gap.{to_mark, marks_in, gapped}
use Rattle.slave.specs.Calls.{step_of, packet_of, numbers_of, gap_of}

-- ---- the start's settings stay

pub gap_board : (s : Slave) (k : ℕ) → (gapped s k).board ≡ s.board
unfolding gapped
gap_board s k = grind (arith, nat_tests)

pub step_board : (s : Slave) (j : Judgement) (tick : ℕ) → (step_of s j tick).slave.board ≡ s.board
unfolding step_of counted passed unheard took
step_board s Lost tick = gap_board s 1
step_board s (Refuse k) tick = refl
step_board s (Counts k) tick = grind (arith, nat_tests)
step_board s (Takes t) tick = refl

-- ---- the index and the pending notice over a step

raised_fits : (profile index marks : ℕ) → index_fits profile index ≡ true → index_fits profile (raised index marks) ≡ true
unfolding index_fits
raised_fits profile index marks e = let m = mod-lt (index + marks) {m = frame_marks} (omega arith) in grind (arith, nat_tests)

nothing_fits : (b : Board) (od : ℤ) → waiting_fits b od nothing ≡ true
unfolding waiting_fits is_nothing
nothing_fits b od = refl

-- ---- the steps of a sound slave
module _ (s : Slave) (ok : sound s ≡ true) where
  -- a label is below n
  below : (x : ℕ) → ltb (x % s.board.n) s.board.n ≡ true
  below x = lt-ltb _ _ (mod-lt x (some_packets s.board (settings_kept_lem s ok)))

  abbrev IndexFits : ℕ → Type 0
  IndexFits i = index_fits s.board.profile i ≡ true

  abbrev WaitingFits : Waiting → Type 0
  WaitingFits w = waiting_fits s.board s.settings.od w ≡ true

  phase_at : (count_at s.count).phase ≡ s.count.phase
  phase_at = grind (arith, nat_tests)

  index_at : IndexFits (count_at s.count).index
  index_at = pick (λ (c : Count). IndexFits c.index) (eqb s.count.next 0) _ _ (raised_fits _ s.count.index 1 (fitting s ok).index) (fitting s ok).index

  passed_sound : s.count.phase ≡ 2 → (k tick : ℕ) → sound (passed s (notice_by k) tick).slave ≡ true
  unfolding passed
  passed_sound e k tick =
      let l = locked s ok e in
      is_sound _ (phase_at ∙ e) (settings_kept_lem s ok)
      (record {
        frequency = l.frequency;
        small = below (s.count.next + 1);
        index = index_at;
        held = pick WaitingFits (eqb s.count.next 0) _ _ (nothing_fits s.board s.settings.od) l.held;
      })

  took_sound : (t : Taken) (tick : ℕ) → Fit s.board t → sound (took s t tick).slave ≡ true
  unfolding took waiting_fits index_fits
  took_sound t tick f =
      is_sound _ refl (settings_kept_lem s ok)
      (record {
        frequency = f.frequency;
        small = below (label_of s.board.n t.pointer + 1);
        index = pick IndexFits (eqb t.index unknown) _ _ (pick IndexFits (agrees s.count (label_of s.board.n t.pointer)) _ _ index_at refl) f.index;
        held = join (join f.limits.sts f.limits.md) f.limits.delay;
      })

  pub gapped_sound : (k : ℕ) → sound (gapped s k) ≡ true
  unfolding gapped
  gapped_sound k =
      split (λ (x : Slave). sound x ≡ true) (eqb s.count.phase 2) _ _
      (λ e.
      let l = locked s ok (eqb-true _ _ e) in
      is_sound _ (eqb-true _ _ e) (settings_kept_lem s ok)
      (record {
        frequency = l.frequency;
        small = below (s.count.next + k);
        index = raised_fits _ s.count.index (marks_in s.board.n s.count.next k) l.index;
        held = pick WaitingFits (leb k (to_mark s.board.n s.count.next)) _ _ l.held (nothing_fits s.board s.settings.od);
      }))
      (λ e. ok)

  -- a judged packet, if what was taken kept the limits
  pub step_sound : (j : Judgement) (tick : ℕ) → IfTaken (Fit s.board) j → sound (step_of s j tick).slave ≡ true
  unfolding step_of counted unheard
  step_sound Lost tick f = gapped_sound 1
  step_sound (Refuse k) tick f = ok
  step_sound (Counts k) tick f =
      split (λ (r : Result Report). sound r.slave ≡ true) (eqb s.count.phase 2) _ _ (λ e. passed_sound (eqb-true _ _ e) k tick) (λ e. ok)
  step_sound (Takes t) tick f = took_sound t tick f

  -- ---- the calls of a sound slave are its steps, and leave a sound slave
  pub packet_is_step : (p : List ℕ) (tick limit : ℕ) → packet_of s p tick limit ≡ step_of s (judge_packet s.board s.settings p tick limit) tick
  unfolding packet_of
  packet_is_step p tick limit = yes (sound s) _ _ ok

  pub numbers_is_step : (p : List ℕ) (tick : ℕ) (x : Numbers) → numbers_of s p tick x ≡ step_of s (judge_numbers s.board s.settings p tick x) tick
  unfolding numbers_of
  numbers_is_step p tick x = yes (sound s) _ _ ok

  pub gap_is_step : (k : ℕ) → gap_of s k ≡ left (gapped s k) (given tt)
  unfolding gap_of
  gap_is_step k = yes (sound s) _ _ ok

  pub packet_sound : (p : List ℕ) (tick limit : ℕ) → sound (packet_of s p tick limit).slave ≡ true
  packet_sound p tick limit =
      ap (λ (r : Result Report). sound r.slave) (packet_is_step p tick limit)
      ∙ step_sound (judge_packet s.board s.settings p tick limit) tick (packet_fit s.board s.settings (fitting s ok).frequency p tick limit)

  pub numbers_sound : (p : List ℕ) (tick : ℕ) (x : Numbers) → sound (numbers_of s p tick x).slave ≡ true
  numbers_sound p tick x =
      ap (λ (r : Result Report). sound r.slave) (numbers_is_step p tick x)
      ∙ step_sound (judge_numbers s.board s.settings p tick x) tick
      (numbers_fit s.board s.settings (fitting s ok).frequency p tick (admitted s.board (settings_kept_lem s ok)) x)

  pub gap_sound : (k : ℕ) → sound (gap_of s k).slave ≡ true
  gap_sound k = ap (λ (r : Result (Unit {0})). sound r.slave) (gap_is_step k) ∙ gapped_sound k
