-- What settings that a start accepts, and inserters that are sound, have passed: a notice of theirs, with a counter of four bits and an STS within the second,
-- is never refused by the writer.
use mathlib.Core.Path.{◌≡◌}
use mathlib.Core.Bool.{true}
use mathlib.Core.List.{List}
use Prim.Native.Nat.{ℕ, ◌≤◌, ◌<◌}
use native.Mathlib.Omega.{arith}
use lib.ListN.{length}
use Rattle.std.proofs.lemmas.Bool.Decides.{nat_tests}
use Rattle.wire.specs.Standards.{packet_length, longest_addressing, dvb_second}
use Rattle.times.specs.Release.{in_second}
use Rattle.times.specs.declared.Steps.{Steps}
use Rattle.cadence.specs.Cadence.{admits}
use Rattle.cadence.proofs.Lengths.{admitted_range}
use Rattle.addressing.specs.Entries.{well_formed}
use Rattle.writer.specs.Writer.{write_refusal}
use Rattle.writer.proofs.Writing.{judged}
use Rattle.inserter.specs.declared.Settings.{Settings}
use Rattle.inserter.specs.declared.Inserter.{Inserter}
use Rattle.inserter.specs.Packet.{given_refusal, insert_refusal}
use Rattle.inserter.specs.Ready.{Ready}
use Rattle.inserter.specs.Settings.{notice_at, field_of, settings_refusal, progress_fits, sound}

-- cadences have packets
pub some_packets : (n : ℕ) → admits 0 n ≡ true → 0 < n
some_packets n e = omega (arith, admitted_range 0 n e)

-- settings that are accepted
pub record Accepted (t : Settings) (f : List ℕ) : Type 0 where
  pub cadence : admits 0 t.n ≡ true
  pub flag : t.periodic ≤ 1
  pub bits : t.reserved ≤ 32767
  pub short : length f ≤ longest_addressing
  pub form : well_formed f ≡ true
  pub md : in_second dvb_second t.md.0 ≡ true

module _ (t : Settings) (f : List ℕ) where
  pub accepted : settings_refusal t f ≡ 0 → Accepted t f
  unfolding settings_refusal write_refusal
  accepted e =
      record {
        cadence = grind (arith, nat_tests);
        flag = grind (arith, nat_tests);
        bits = grind (arith, nat_tests);
        short = grind (arith, nat_tests);
        form = grind (arith, nat_tests);
        md = grind (arith, nat_tests);
      }

  -- each notice of theirs is written
  pub writes : Accepted t f → (room label continuity : ℕ) (sts : Steps) → packet_length ≤ room → continuity ≤ 15 → in_second dvb_second sts.0 ≡ true
      → write_refusal room (notice_at t label continuity sts) f ≡ 0
  unfolding write_refusal
  writes k room label continuity sts h c e =
      let a = k.bits in let b = k.short in let d = k.form in let g = k.md in
      grind (arith, nat_tests)

-- an inserter that is sound
pub record Sound (s : Inserter) : Type 0 where
  pub length : s.length ≤ longest_addressing
  pub label : s.progress.label < s.settings.n
  pub placed : s.progress.placed ≤ 1
  pub continuity : s.progress.continuity ≤ 15
  pub settings : settings_refusal s.settings (field_of s) ≡ 0

pub sound_parts : (s : Inserter) → sound s ≡ true → Sound s
unfolding sound progress_fits
sound_parts s e =
    record {
      length = grind (arith, nat_tests);
      label = grind (arith, nat_tests);
      placed = grind (arith, nat_tests);
      continuity = grind (arith, nat_tests);
      settings = grind (arith, nat_tests);
    }

pub ready_lem : (s : Inserter) (p : List ℕ) (sts : Steps) → insert_refusal s p sts ≡ 0 → Ready s p sts
unfolding insert_refusal given_refusal
ready_lem s p sts e =
    let k : Sound s = sound_parts s (grind (arith, nat_tests)) in
    let long : length p ≡ packet_length = grind (arith, nat_tests) in
    let time : in_second dvb_second sts.0 ≡ true = grind (arith, nat_tests) in
    record {
      long = long;
      label = k.label;
      continuity = k.continuity;
      fits = (judged _ _ _ (writes s.settings (field_of s) (accepted s.settings (field_of s) k.settings) (length p) s.progress.label s.progress.continuity sts (omega (arith, long)) k.continuity time)).0;
    }
