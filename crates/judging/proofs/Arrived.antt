-- What is not an empty packet is not judged as lost: a packet with bytes, and every numbers notice.
use mathlib.Core.List.{List, ◌∷◌}
use Prim.Native.Nat.{ℕ, zero, suc}
use native.Mathlib.Omega.{arith}
use lib.Dec.{eqb}
use lib.ListN.{length}
use Rattle.std.proofs.lemmas.Bool.{ne_eqb}
use Rattle.wire.specs.Reply.{Reply, refused, given}
use Rattle.wire.proofs.Tests.{pick}
use Rattle.addressing.specs.Entries.{settings_of}
use Rattle.addressing.specs.declared.Settings.{Settings}
use Rattle.notice.specs.Mip.{error_indicator, addressing_field}
use Rattle.notice.specs.Reader.{section_refusal}
use Rattle.state.specs.declared.Board.{Board}
use Rattle.judging.specs.Judge.{unless_refused, unless_ignored, arrival_refusal, carries, taken_refusal, limited, mip_taken, judge_field, judge_mip, judge_arrived, judge_packet, judge_given, numbers_taken, judge_numbers}
use Rattle.judging.specs.declared.Numbers.{Numbers}
use Rattle.judging.specs.Judgement.{Judgement, Lost, Refuse, Counts, Takes}

abbrev pub Arrived : Judgement → Type 0
Arrived Lost = ⊥
Arrived (Refuse k) = Unit {0}
Arrived (Counts k) = Unit {0}
Arrived (Takes x) = Unit {0}

unless_arrived : (k : ℕ) (j : Judgement) → Arrived j → Arrived (unless_refused k j)
unless_arrived zero j h = h
unless_arrived (suc k) j h = tt

ignored_arrived : (k : ℕ) (j : Judgement) → Arrived j → Arrived (unless_ignored k j)
ignored_arrived zero j h = h
ignored_arrived (suc k) j h = tt

module _ (b : Board) (t : Settings) (p : List ℕ) where
  field_arrived : (r : Reply Settings) → Arrived (judge_field b p r)
  unfolding limited
  field_arrived (refused k) = tt
  field_arrived (given u) = ignored_arrived (taken_refusal b (mip_taken p u)) _ tt

  judged_arrived : (limit : ℕ) → Arrived (judge_arrived b t p limit)
  unfolding judge_arrived judge_mip
  judged_arrived limit =
      pick Arrived (eqb (error_indicator p) 0) _ _
      (pick Arrived (carries b.profile p) _ _ (ignored_arrived (section_refusal p limit) _ (field_arrived (settings_of (addressing_field p) b.site t))) tt)
      tt

  pub numbers_arrived : (tick : ℕ) (x : Numbers) → Arrived (judge_numbers b t p tick x)
  unfolding judge_given limited
  numbers_arrived tick x =
      unless_arrived (arrival_refusal b.profile p tick) _
      (pick Arrived (eqb b.profile 0) _ _ tt
      (pick Arrived (eqb (error_indicator p) 0) _ _ (ignored_arrived (taken_refusal b (numbers_taken t x)) _ tt) tt))

pub packet_arrived : (b : Board) (t : Settings) (x : ℕ) (p : List ℕ) (tick limit : ℕ) → Arrived (judge_packet b t (x ∷ p) tick limit)
packet_arrived b t x p tick limit =
    rw (ne_eqb (suc (length p)) 0 (λ e. omega arith)) (unless_arrived (arrival_refusal b.profile (x ∷ p) tick) _ (judged_arrived b t (x ∷ p) limit))
