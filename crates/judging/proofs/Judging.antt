-- How a packet and a numbers notice are judged, number by number, and what a notice that is taken keeps.
use mathlib.Core.Path.{◌≡◌, refl, subst}
use mathlib.Core.Bool.{Bool, true, false, cond, ◌||◌}
use mathlib.Core.List.{List}
use Prim.Native.Nat.{ℕ, zero, suc, ◌<◌}
use native.Mathlib.Omega.{arith}
use lib.Dec.{eqb, ltb}
use lib.ListN.{length, get_or}
use Rattle.std.proofs.lemmas.Bool.Decides.{nat_tests}
use Rattle.wire.specs.Reply.{Reply, refused, given}
use Rattle.wire.specs.Standards.{packet_length, sync_byte}
use Rattle.times.specs.Release.{in_second}
use Rattle.addressing.specs.Entries.{settings_of}
use Rattle.addressing.specs.declared.Settings.{Settings}
use Rattle.notice.specs.Mip.{error_indicator, addressing_field}
use Rattle.notice.specs.Reader.{section_refusal}
use Rattle.state.specs.Profile.{second, delay_kept}
use Rattle.state.specs.declared.Board.{Board}
use Rattle.judging.specs.Judge.{unless_refused, unless_ignored, arrival_refusal, carries, taken_refusal, limited, mip_taken, judge_field, judge_mip, judge_arrived, numbers_taken, judge_given}
use Rattle.judging.specs.declared.Numbers.{Numbers}
use Rattle.judging.specs.declared.Taken.{Taken}
use Rattle.judging.specs.Judgement.{Judgement, Refuse, Counts, Takes}

-- ---- a number of K or of C decides
pub refuses : (k : ℕ) (j : Judgement) → (k ≡ 0 → ⊥) → unless_refused k j ≡ Refuse k
refuses zero j h = absurd (h refl)
refuses (suc k) j h = refl

-- ---- the arrival: 1, 2, 3
module _ (profile : ℕ) (p : List ℕ) (tick : ℕ) where
  module _ (l : length p ≡ packet_length) (s : get_or p 0 0 ≡ sync_byte) where
    pub arrival_3 : in_second (second profile) tick ≡ false → 3 ≡ arrival_refusal profile p tick
    unfolding arrival_refusal
    arrival_3 h = grind (arith, nat_tests)

  -- a packet that is not refused has 188 bytes, and a tick of the second
  pub arrived_length : arrival_refusal profile p tick ≡ 0 → length p ≡ packet_length
  unfolding arrival_refusal
  arrived_length e = grind (arith, nat_tests)

  pub arrived_tick : arrival_refusal profile p tick ≡ 0 → in_second (second profile) tick ≡ true
  unfolding arrival_refusal
  arrived_tick e = grind (arith, nat_tests)

-- ---- a notice that is otherwise right: 11 to 13
module _ (b : Board) (t : Taken) where
  abbrev sts_fits : Bool
  sts_fits = in_second (second b.profile) t.sts

  abbrev md_fits : Bool
  md_fits = in_second (second b.profile) t.md

  abbrev index_fits : Bool
  index_fits = eqb t.index 255 || ltb t.index 20

  abbrev delay_in_second : Bool
  delay_in_second = delay_kept b t.md t.settings.od

  -- none of them
  pub record Limits : Type 0 where
    pub sts : sts_fits ≡ true
    pub md : md_fits ≡ true
    pub pointer : t.pointer < b.n
    pub index : index_fits ≡ true
    pub delay : delay_in_second ≡ true

  pub limits_kept : taken_refusal b t ≡ 0 → Limits
  unfolding taken_refusal
  limits_kept e = grind (arith, nat_tests)

-- ---- what a notice that is taken has kept
-- a counted packet takes none
untaken : {k : ℕ} {x : Taken} {X : Type 0} → Counts k ≡ Takes x → X
untaken e = absurd cc

unignored : (k : ℕ) (j : Judgement) (x : Taken) → unless_ignored k j ≡ Takes x → (k ≡ 0) × (j ≡ Takes x)
unignored zero j x e = (refl, e)
unignored (suc k) j x e = untaken e

chosen : (b : Bool) (i : Judgement) (k : ℕ) (x : Taken) → cond b i (Counts k) ≡ Takes x → i ≡ Takes x
chosen true i k x e = e
chosen false i k x e = untaken e

module _ (b : Board) (x : Taken) where
  pub limited_keeps : (t : Taken) → limited b t ≡ Takes x → (t ≡ x) × Limits b t
  unfolding limited
  limited_keeps t e = let u = unignored (taken_refusal b t) (Takes t) x e in (cc, limits_kept b t u.0)

  limited_limits : (t : Taken) → limited b t ≡ Takes x → Limits b x
  limited_limits t e = let l = limited_keeps t e in subst (Limits b) l.0 l.1

  field_limits : (p : List ℕ) (r : Reply Settings) → judge_field b p r ≡ Takes x → Limits b x
  field_limits p (refused k) e = untaken e
  field_limits p (given t) e = limited_limits (mip_taken p t) e

  module _ (t : Settings) (p : List ℕ) where
    pub arrived_limits : (limit : ℕ) → judge_arrived b t p limit ≡ Takes x → Limits b x
    unfolding judge_arrived judge_mip
    arrived_limits limit e =
        let i = chosen (carries b.profile p) (judge_mip b t p limit) 0 x (chosen (eqb (error_indicator p) 0) _ 4 x e) in
        field_limits p (settings_of (addressing_field p) b.site t) (unignored (section_refusal p limit) _ x i).1

    pub given_limits : (y : Numbers) → judge_given b t p y ≡ Takes x → Limits b x
    unfolding judge_given
    given_limits y e = limited_limits (numbers_taken t y) (chosen (eqb (error_indicator p) 0) _ 4 x e)
