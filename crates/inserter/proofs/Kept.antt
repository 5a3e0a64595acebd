-- An accepted start begins a sound inserter, and a packet leaves a sound one sound: from a start on, 15 never comes.
use mathlib.Core.Path.{◌≡◌, refl, ap, ◌∙◌}
use mathlib.Core.Bool.{Bool, true, false, cond}
use mathlib.Core.List.{List}
use Prim.Native.Nat.{ℕ, suc, ◌+◌, ◌-◌, ◌%◌, ◌<◌}
use native.Mathlib.Omega.{arith}
use lib.ListN.{length, replicate}
use lib.Seq.{take_at}
use Rattle.std.proofs.lemmas.Bool.{eqb-true, eqb-false}
use Rattle.std.proofs.lemmas.Bool.Decides.{nat_tests}
use Rattle.wire.specs.Standards.{longest_addressing}
use Rattle.times.specs.declared.Steps.{Steps}
use Rattle.cadence.specs.Label.{next_label}
use Rattle.cadence.proofs.Labels.{next_of_last, next_of_other}
use Rattle.inserter.specs.declared.Settings.{Settings}
use Rattle.inserter.specs.declared.Progress.{Progress}
use Rattle.inserter.specs.declared.Inserter.{Inserter}
use Rattle.inserter.specs.Settings.{field_of, settings_refusal, begun, progress_fits, sound}
use Rattle.inserter.specs.Packet.{puts, is_last, progress_after, sent}
use Rattle.inserter.proofs.Judged.{some_packets, accepted}

-- the label after the last, and after any other
module _ (n : ℕ) (q : Progress) (h : q.label < n) where
  pub label_last : is_last n q ≡ true → next_label n q.label ≡ 0
  label_last e =
      let z : q.label ≡ n - 1 = omega (arith, eqb-true _ _ e) in
      ap (next_label n) z ∙ next_of_last n (omega arith)

  pub label_on : is_last n q ≡ false → next_label n q.label ≡ suc q.label
  label_on e = next_of_other n q.label (omega (arith, eqb-false _ _ e)) ∙ omega arith

-- the start
module _ (t : Settings) (f : List ℕ) (e : settings_refusal t f ≡ 0) where
  pub begun_field : field_of (begun t f) ≡ f
  begun_field = take_at f (replicate (longest_addressing - length f) 0) (length f) refl

  pub begun_sound : sound (begun t f) ≡ true
  unfolding sound progress_fits
  begun_sound =
      let k = accepted t f e in
      let s = k.short in
      let p = some_packets t.n k.cadence in
      let r : settings_refusal t (field_of (begun t f)) ≡ 0 = ap (settings_refusal t) begun_field ∙ e in
      grind (arith, nat_tests)

-- a packet
module _ (n : ℕ) (q : Progress) (put : Bool) (fits : progress_fits n q ≡ true) where
  pub after_fits : progress_fits n (progress_after n q put) ≡ true
  unfolding progress_fits progress_after
  after_fits = go (is_last n q) refl put
    where
      go : (b : Bool) → is_last n q ≡ b → (put : Bool) → progress_fits n (record { label = next_label n q.label; placed = cond b 0 (cond put 1 q.placed); continuity = cond put ((q.continuity + 1) % 16) q.continuity }) ≡ true
      go true e true = let h : q.label < n = grind (arith, nat_tests) in rw (label_last n q h e) (grind (arith, nat_tests))
      go true e false = let h : q.label < n = grind (arith, nat_tests) in rw (label_last n q h e) (grind (arith, nat_tests))
      go false e true = let h : q.label < n = grind (arith, nat_tests) in rw (label_on n q h e) (grind (arith, nat_tests))
      go false e false = let h : q.label < n = grind (arith, nat_tests) in rw (label_on n q h e) (grind (arith, nat_tests))

module _ (s : Inserter) (p : List ℕ) (sts : Steps) (ok : sound s ≡ true) where
  pub sent_sound : sound (sent s p sts).inserter ≡ true
  unfolding sound sent
  sent_sound =
      let k : progress_fits s.settings.n s.progress ≡ true = grind (arith, nat_tests) in
      let h = after_fits s.settings.n s.progress (puts s.progress p) k in
      grind (arith, nat_tests)
