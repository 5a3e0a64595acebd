-- What a judgement depends on: frequency and power do not matter to it. And what a notice that is taken keeps.
use mathlib.Core.Path.{◌≡◌, refl, subst}
use mathlib.Core.Bool.{true, false}
use mathlib.Core.List.{List}
use Prim.Native.Nat.{ℕ, zero, suc}
use native.Mathlib.Omega.{arith}
use lib.Dec.{eqb}
use lib.IntN.{ℤ}
use Rattle.std.proofs.lemmas.Bool.Decides.{nat_tests}
use Rattle.std.proofs.lemmas.Int.{ints}
use Rattle.wire.specs.Reply.{Reply, refused, given}
use Rattle.wire.specs.BigEndian.{be24_at}
use Rattle.wire.specs.Signed.{signed24}
use Rattle.wire.proofs.Tests.{pick, split, pair}
use Rattle.cadence.specs.Cadence.{admits}
use Rattle.addressing.specs.Functions.{set_by}
use Rattle.addressing.specs.Entries.{settings_of}
use Rattle.addressing.specs.declared.Settings.{Settings}
use Rattle.addressing.proofs.Both.{Both, settings_both, OneOd, od_kept}
use Rattle.notice.specs.Mip.{error_indicator, addressing_field}
use Rattle.notice.specs.Reader.{section_refusal}
use Rattle.state.specs.Sound.{frequency_fits, index_fits}
use Rattle.state.specs.declared.Board.{Board}
use Rattle.judging.specs.Judge.{unless_refused, unless_ignored, is_empty, arrival_refusal, carries, taken_refusal, limited, mip_taken, judge_field, judge_mip, judge_arrived, judge_packet, numbers_taken, judge_given, judge_numbers}
use Rattle.judging.specs.declared.Numbers.{Numbers}
use Rattle.judging.specs.declared.Taken.{Taken}
use Rattle.judging.specs.Judgement.{Judgement, Lost, Refuse, Counts, Takes}
use Rattle.judging.proofs.Judging.{Limits, limits_kept}

-- ---- frequency and power do not matter

-- a notice with these settings in place of its own
abbrev pub set_to : Taken → Settings → Taken
set_to x t = record { pointer = x.pointer; index = x.index; settings = t; sts = x.sts; md = x.md }

-- two judgements that differ in frequency and power alone
pub data Alike : Judgement → Judgement → Type 0 where
  lost_alike : Alike Lost Lost
  refused_alike : {k : ℕ} → Alike (Refuse k) (Refuse k)
  counted_alike : {k : ℕ} → Alike (Counts k) (Counts k)
  taken_alike : (x : Taken) (t u : Settings) → OneOd t u → Alike (Takes (set_to x t)) (Takes (set_to x u))

unless_alike : (k : ℕ) {i j : Judgement} → Alike i j → Alike (unless_refused k i) (unless_refused k j)
unless_alike zero e = e
unless_alike (suc k) e = refused_alike

ignored_alike : (k : ℕ) {i j : Judgement} → Alike i j → Alike (unless_ignored k i) (unless_ignored k j)
ignored_alike zero e = e
ignored_alike (suc k) e = counted_alike

limited_alike : (b : Board) (x : Taken) (t u : Settings) → OneOd t u → Alike (limited b (set_to x t)) (limited b (set_to x u))
unfolding limited taken_refusal
limited_alike b x t u e =
    subst (λ (od : ℤ). Alike (limited b (set_to x t)) (unless_ignored (number od) (Takes (set_to x u)))) e
    (ignored_alike (number t.od) (taken_alike x t u e))
  where
    number : ℤ → ℕ
    number od = taken_refusal b (set_to x (record { od = od; frequency = u.frequency; power = u.power }))

field_alike : (b : Board) (p : List ℕ) (x y : Reply Settings) → Both OneOd x y → Alike (judge_field b p x) (judge_field b p y)
field_alike b p (refused k) (refused m) e = subst (λ (n : ℕ). Alike (Counts k) (Counts n)) e counted_alike
field_alike b p (refused k) (given u) e = absurd e
field_alike b p (given t) (refused m) e = absurd e
field_alike b p (given t) (given u) e = limited_alike b (mip_taken p t) t u e

module _ (b : Board) (t u : Settings) (e : OneOd t u) (p : List ℕ) (tick : ℕ) where
  pub packet_alike : (limit : ℕ) → Alike (judge_packet b t p tick limit) (judge_packet b u p tick limit)
  unfolding judge_arrived judge_mip
  packet_alike limit =
      pair Alike (is_empty p)
      lost_alike
      (unless_alike (arrival_refusal b.profile p tick)
      (pair Alike (eqb (error_indicator p) 0)
      (pair Alike (carries b.profile p)
      (ignored_alike (section_refusal p limit)
      (field_alike b p (settings_of (addressing_field p) b.site t) (settings_of (addressing_field p) b.site u)
      (settings_both OneOd od_kept (addressing_field p) b.site t u e)))
      counted_alike)
      counted_alike))

  pub numbers_alike : (x : Numbers) → Alike (judge_numbers b t p tick x) (judge_numbers b u p tick x)
  unfolding judge_given
  numbers_alike x =
      unless_alike (arrival_refusal b.profile p tick)
      (pair Alike (eqb b.profile 0)
      refused_alike
      (pair Alike (eqb (error_indicator p) 0)
      (limited_alike b (numbers_taken t x) _ _ refl)
      counted_alike))

-- ---- what a notice that is taken keeps

-- whatever a judgement takes has P
abbrev pub IfTaken : (Taken → Type 0) → Judgement → Type 0
IfTaken P Lost = Unit {0}
IfTaken P (Refuse k) = Unit {0}
IfTaken P (Counts k) = Unit {0}
IfTaken P (Takes x) = P x

pub record Fit (b : Board) (x : Taken) : Type 0 where
  pub limits : Limits b x
  pub frequency : frequency_fits x.settings.frequency ≡ true
  pub index : index_fits b.profile x.index ≡ true

module _ (P : Taken → Type 0) where
  if_unrefused : (k : ℕ) (j : Judgement) → IfTaken P j → IfTaken P (unless_refused k j)
  if_unrefused zero j h = h
  if_unrefused (suc k) j h = tt

  if_unignored : (k : ℕ) (j : Judgement) → (k ≡ 0 → IfTaken P j) → IfTaken P (unless_ignored k j)
  if_unignored zero j h = h refl
  if_unignored (suc k) j h = tt

-- an addressing field keeps the frequency within its bits
signed_fits : (v : ℕ) → frequency_fits (signed24 v) ≡ true
unfolding frequency_fits
signed_fits v = grind (arith, ints, nat_tests)

abbrev InBits : Settings → Settings → Type 0
InBits t u = frequency_fits u.frequency ≡ true

bits_kept : (tag : ℕ) (body : List ℕ) (t u : Settings) → InBits t u → InBits (set_by tag body t) (set_by tag body u)
unfolding set_by
bits_kept tag body t u h =
    pick (InBits t) (eqb tag 0) _ _ h (pick (InBits t) (eqb tag 1) _ _ (signed_fits (be24_at body 0)) (pick (InBits t) (eqb tag 2) _ _ h h))

-- a profile that has cadences and is not 0 is 1
other_profile : (profile n : ℕ) → admits profile n ≡ true → eqb profile 0 ≡ false → eqb profile 1 ≡ true
unfolding admits
other_profile profile n ok z = grind (arith, nat_tests)

module _ (b : Board) where
  limited_fit : (x : Taken) → frequency_fits x.settings.frequency ≡ true → (Limits b x → index_fits b.profile x.index ≡ true)
      → IfTaken (Fit b) (limited b x)
  unfolding limited
  limited_fit x f i =
      if_unignored (Fit b) (taken_refusal b x) (Takes x)
      (λ e. let l = limits_kept b x e in record { limits = l; frequency = f; index = i l })

  field_fit : (p : List ℕ) (r : Reply Settings) → Both InBits r r → IfTaken (Fit b) (judge_field b p r)
  unfolding index_fits
  field_fit p (refused k) h = tt
  field_fit p (given t) h = limited_fit (mip_taken p t) h (λ l. refl)

  module _ (t : Settings) (f : frequency_fits t.frequency ≡ true) (p : List ℕ) (tick : ℕ) where
    pub packet_fit : (limit : ℕ) → IfTaken (Fit b) (judge_packet b t p tick limit)
    unfolding judge_arrived judge_mip
    packet_fit limit =
        pick (IfTaken (Fit b)) (is_empty p) _ _
        tt
        (if_unrefused (Fit b) (arrival_refusal b.profile p tick) _
        (pick (IfTaken (Fit b)) (eqb (error_indicator p) 0) _ _
        (pick (IfTaken (Fit b)) (carries b.profile p) _ _
        (if_unignored (Fit b) (section_refusal p limit) _
        (λ e. field_fit p (settings_of (addressing_field p) b.site t) (settings_both InBits bits_kept (addressing_field p) b.site t t f)))
        tt)
        tt))

    pub numbers_fit : admits b.profile b.n ≡ true → (x : Numbers) → IfTaken (Fit b) (judge_numbers b t p tick x)
    unfolding judge_given index_fits
    numbers_fit ok x =
        if_unrefused (Fit b) (arrival_refusal b.profile p tick) _
        (split (IfTaken (Fit b)) (eqb b.profile 0) _ _
        (λ z. tt)
        (λ z.
        pick (IfTaken (Fit b)) (eqb (error_indicator p) 0) _ _
        (limited_fit (numbers_taken t x) f (λ l. rw (other_profile b.profile b.n ok z) l.index))
        tt))
