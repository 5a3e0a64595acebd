-- A slave, and the same with the MD of its waiting notice longer by y: a step that takes no notice leaves them so, and so does a gap.
use mathlib.Core.Path.{◌≡◌, refl, ap, ◌∙◌}
use mathlib.Core.Bool.{cond}
use Prim.Native.Nat.{ℕ, ◌+◌}
use native.Mathlib.Omega.{arith}
use lib.Dec.{eqb}
use Rattle.std.proofs.lemmas.Bool.Decides.{nat_tests}
use Rattle.wire.proofs.Tests.{yes}
use Rattle.times.specs.Release.{Due, due_of}
use Rattle.state.specs.Profile.{second}
use Rattle.state.specs.declared.Waiting.{Waiting}
use Rattle.state.specs.declared.Slave.{Slave}
use Rattle.judging.specs.Judgement.{Counts, Takes}
use Rattle.judging.specs.declared.Taken.{Taken}
use Rattle.slave.specs.Answer.{due, mark_in, Report, Result}
use Rattle.slave.specs.Step.{release_at, mark_at, mark_taken, passed, unheard, counted, took}
use Rattle.slave.specs.Gap.{gapped}
use Rattle.slave.specs.Calls.{step_of}
use Rattle.slave.proofs.Due.{unmarked_apart, untimed_apart, OwnDue}

abbrev pub longer_waiting : ℕ → Waiting → Waiting
longer_waiting y w = record w { md = cond (eqb w.pending 1) (w.md + y) w.md }

abbrev pub longer_in : ℕ → Slave → Slave
longer_in y s = record s { waiting = longer_waiting y s.waiting }

module _ (y : ℕ) (s : Slave) where
  abbrev Longer : Slave → Slave → Type 0
  Longer x x' = x' ≡ longer_in y x

  pub counted_longer : (k tick : ℕ) → Longer (step_of s (Counts k) tick).slave (step_of (longer_in y s) (Counts k) tick).slave
  unfolding step_of counted passed unheard
  counted_longer k tick = grind (arith, nat_tests)

  pub gapped_longer : (k : ℕ) → Longer (gapped s k) (gapped (longer_in y s) k)
  unfolding gapped
  gapped_longer k = grind (arith, nat_tests)

  -- where the one's mark is due, so is the other's, by the longer MD
  abbrev pub due_longer : ℕ → Due
  due_longer tick = due_of (second s.board.profile) s.waiting.sts (s.waiting.md + y) s.settings.od s.board.tad tick

  module _ (tick profile : ℕ) (d : Due) (o : OwnDue s tick profile d) where
    at_longer : mark_at (longer_in y s) tick ≡ due profile (due_longer tick)
    unfolding mark_at release_at
    at_longer = rw (o.locked, o.label, o.pending, o.unit)

    pub counted_mark : (k : ℕ) → mark_in (step_of (longer_in y s) (Counts k) tick).reply ≡ due profile (due_longer tick)
    unfolding step_of counted passed
    counted_mark k = ap (λ (r : Result Report). mark_in r.reply) (yes (eqb s.count.phase 2) _ _ (rw o.locked refl)) ∙ at_longer

    -- also where a notice is taken with the mark, whatever its MD
    pub taken_mark :
        (x : Taken) (md : ℕ) → mark_in (step_of s (Takes x) tick).reply ≡ due profile d
        → mark_in (step_of (longer_in y s) (Takes (record x { md = md })) tick).reply ≡ due profile (due_longer tick)
    unfolding step_of took mark_taken
    taken_mark x md e =
        let u = unmarked_apart profile d in
        let v = untimed_apart profile d in
        let l = at_longer in
        grind (arith, nat_tests)
