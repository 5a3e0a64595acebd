-- A late mark's lateness is what its notice's MD lacked (document 02, Paper 3).
use mathlib.Core.Path.{◌≡◌, refl, sym, ap, ap₂, ◌∙◌, subst}
use mathlib.Core.Bool.{true, false}
use mathlib.Core.List.{List, [], ◌∷◌}
use Prim.Native.Nat.{ℕ, ◌+◌, ◌-◌, ◌≤◌}
use native.Mathlib.Omega.{arith}
use Rattle.times.specs.Release.{Due, late}
use Rattle.times.proofs.Laws.{longer_late, longer_released, longer_waits}
use Rattle.state.specs.Sound.{sound}
use Rattle.state.specs.declared.Slave.{Slave}
use Rattle.judging.specs.Judgement.{Judgement, Lost, Refuse, Counts, Takes}
use Rattle.slave.specs.Answer.{due, mark_in, Report, Result}
use Rattle.slave.specs.Step.{took}
use Rattle.slave.specs.Calls.{step_of}
use Rattle.slave.proofs.Due.{unmarked_apart, OwnDue}
use Rattle.slave.proofs.Longer.{longer_in, counted_longer, gapped_longer, due_longer, counted_mark, taken_mark}
use Rattle.run.specs.Book.{Arrival, tick_of, Call, at, gap}
use Rattle.run.specs.Run.{hear, leave, slave_after}
use Rattle.run.specs.Late.{judged_by, takes, longer, TakesNone, NoneTaken, Lengthened, mark_behind, Held, Mended}
use Rattle.run.proofs.Steps.{moved}
use Rattle.run.proofs.Run.{heard, left_by, leave_sound, heard_due}

module _ (y : ℕ) where
  -- ---- a slave, and the same with a longer MD: a call that takes no notice leaves them so, and a list of them
  step_left : (s : Slave) (tick : ℕ) (j : Judgement) → takes j ≡ false → (step_of (longer_in y s) j tick).slave ≡ longer_in y (step_of s j tick).slave
  unfolding step_of
  step_left s tick Lost e = gapped_longer y s 1
  step_left s tick (Refuse k) e = refl
  step_left s tick (Counts k) e = counted_longer y s k tick
  step_left s tick (Takes x) e = absurd cc

  moved_left : (s : Slave) (c : Call) → TakesNone s c → moved (longer_in y s) c ≡ longer_in y (moved s c)
  moved_left s (at t a) e = step_left s (tick_of a) (judged_by s a) e
  moved_left s (gap k) e = gapped_longer y s k

  call_left : (s : Slave) → sound s ≡ true → sound (longer_in y s) ≡ true → (c : Call) → TakesNone s c → leave (longer_in y s) c ≡ longer_in y (leave s c)
  call_left s ok ok' c e = left_by (longer_in y s) ok' c ∙ moved_left s c e ∙ ap (longer_in y) (sym (left_by s ok c))

  -- s' is s with the longer MD, and both are sound
  record Left (s s' : Slave) : Type 0 where
    so : s' ≡ longer_in y s
    one_sound : sound s ≡ true
    other_sound : sound s' ≡ true

  calls_left : (s s' : Slave) → Left s s' → (cs : List Call) → NoneTaken s cs → Left (slave_after s cs) (slave_after s' cs)
  unfolding slave_after
  calls_left s s' l [] e = l
  calls_left s s' l (c ∷ cs) e =
      calls_left (leave s c) (leave s' c)
      (record {
        so = ap (λ (x : Slave). leave x c) l.so ∙ call_left s l.one_sound (subst (λ (x : Slave). sound x ≡ true) l.so l.other_sound) c e.0;
        one_sound = leave_sound s l.one_sound c;
        other_sound = leave_sound s' l.other_sound c;
      })
      cs e.1

  -- ---- a notice that is taken leaves them so
  took_longer : (s : Slave) (j : Judgement) (t t' : ℕ) → takes j ≡ true → (step_of s (longer y j) t').slave ≡ longer_in y (step_of s j t).slave
  unfolding step_of took
  took_longer s Lost t t' e = absurd cc
  took_longer s (Refuse k) t t' e = absurd cc
  took_longer s (Counts k) t t' e = absurd cc
  took_longer s (Takes x) t t' e = refl

  -- ---- and a mark that is due in the one is due in the other by the longer MD
  step_longer :
      (s : Slave) (tick profile : ℕ) (d : Due) → OwnDue s tick profile d → (z : ℕ) (j : Judgement) → mark_in (step_of s j tick).reply ≡ due profile d
      → mark_in (step_of (longer_in y s) (longer z j) tick).reply ≡ due profile (due_longer y s tick)
  unfolding step_of
  step_longer s tick profile d o z Lost e = absurd (unmarked_apart profile d e)
  step_longer s tick profile d o z (Refuse k) e = absurd (unmarked_apart profile d e)
  step_longer s tick profile d o z (Counts k) e = counted_mark y s tick profile d o k
  step_longer s tick profile d o z (Takes x) e = taken_mark y s tick profile d o x (x.md + z) e

  -- ---- two feeds
  module _ (s : Slave) (a a' : Arrival) (behind : List Call) (b b' : Arrival) (l : Lengthened s y a a' behind b b') where
    taken_left : (hear s a').slave ≡ longer_in y (hear s a).slave
    taken_left =
        ap (λ (r : Result Report). r.slave) (heard s l.is_sound a')
        ∙ ap (λ (j : Judgement). (step_of s j (tick_of a')).slave) l.longer_taken
        ∙ took_longer s (judged_by s a) (tick_of a) (tick_of a') l.taken
        ∙ ap (λ (r : Result Report). longer_in y r.slave) (sym (heard s l.is_sound a))

    at_once : Left (hear s a).slave (hear s a').slave
    unfolding leave
    at_once = record { so = taken_left; one_sound = leave_sound s l.is_sound (at 0 a); other_sound = leave_sound s l.is_sound (at 0 a') }

    abbrev one : Slave
    one = slave_after (hear s a).slave behind

    w : Left one (slave_after (hear s a').slave behind)
    w = calls_left (hear s a).slave (hear s a').slave at_once behind l.none_behind

    module _ (profile x : ℕ) (answer : mark_behind s a behind b ≡ due profile (late x)) where
      o : OwnDue one (tick_of b) profile (late x)
      o = heard_due one b profile (late x) answer

      other_mark : mark_behind s a' behind b' ≡ due profile (due_longer y one (tick_of b))
      other_mark =
          ap (λ (x : Slave). mark_in (hear x b').reply) w.so
          ∙ ap (λ (r : Result Report). mark_in r.reply) (heard (longer_in y one) (subst (λ (x : Slave). sound x ≡ true) w.so w.other_sound) b')
          ∙ ap₂ (λ (j : Judgement) (t : ℕ). mark_in (step_of (longer_in y one) j t).reply) l.alike l.same_tick
          ∙ step_longer one (tick_of b) profile (late x) o l.own (judged_by one b)
          (sym (ap (λ (r : Result Report). mark_in r.reply) (heard one w.one_sound b)) ∙ answer)

      held : x ≤ y → Held profile (y - x) (mark_behind s a' behind b')
      held h =
          record {
            times = _;
            mark = other_mark ∙ ap (due profile) (longer_released _ _ _ _ _ _ x o.due_is y h);
            waits = longer_waits _ _ _ _ _ _ x o.due_is y h;
          }

      pub mended : Mended profile x y (mark_behind s a' behind b')
      mended =
          record {
            by_it = λ e. subst (λ (w : ℕ). Held profile w (mark_behind s a' behind b')) (omega arith) (held (omega arith));
            by_less = λ h. other_mark ∙ ap (due profile) (longer_late _ _ _ _ _ _ x o.due_is y h);
            by_more = λ h. held (omega arith);
          }
