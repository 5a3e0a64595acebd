-- What a mark that is due shows of the slave: it counted label 0 with a notice pending, whose times or lateness these are, in the unit of its profile.
-- And what holds of every mark that a call releases or finds late, whatever the slave, the bytes and the tick.
use mathlib.Core.Path.{◌≡◌, refl, subst}
use mathlib.Core.Bool.{Bool, true, false}
use mathlib.Core.List.{List}
use Prim.Native.Nat.{ℕ, zero, suc, ◌-◌, ◌*◌, ◌≤◌}
use native.Mathlib.Omega.{arith}
use lib.Dec.{eqb}
use lib.IntN.{pos, ◌-ℤ◌}
use Rattle.std.proofs.lemmas.Bool.Decides.{nat_tests}
use Rattle.wire.specs.Reply.{Reply}
use Rattle.wire.proofs.Tests.{pick, split}
use Rattle.times.specs.Release.{in_second, Times, Due, late, released, wait_of, due_of, Kept}
use Rattle.times.proofs.Laws.{InRange, Residues, Waits, released_range, released_residues, released_waits, late_wait, late_least, late_most}
use Rattle.state.specs.Profile.{second}
use Rattle.state.specs.Sound.{sound}
use Rattle.state.specs.declared.Slave.{Slave}
use Rattle.state.proofs.Sound.{pending_kept}
use Rattle.judging.specs.Judge.{unless_refused, is_empty, arrival_refusal}
use Rattle.judging.specs.Judgement.{Judgement, Lost, Refuse, Counts, Takes}
use Rattle.judging.specs.declared.Numbers.{Numbers}
use Rattle.judging.proofs.Judging.{arrived_tick}
use Rattle.slave.specs.Answer.{unmarked, untimed, due, Report, mark_in, Result}
use Rattle.slave.specs.Step.{release_at, mark_at, mark_taken, passed, unheard, counted, took}
use Rattle.slave.specs.Calls.{step_of, packet_of, numbers_of}
use Rattle.slave.proofs.Calling.{judged_call, packet_is, packet_lost, numbers_is}

pub record OwnDue (s : Slave) (tick profile : ℕ) (d : Due) : Type 0 where
  pub locked : s.count.phase ≡ 2
  pub label : s.count.next ≡ 0
  pub pending : eqb s.waiting.pending 1 ≡ true
  pub unit : profile ≡ s.board.profile
  pub due_is : due_of (second s.board.profile) s.waiting.sts s.waiting.md s.settings.od s.board.tad tick ≡ d

module _ (profile : ℕ) (d : Due) where
  pub unmarked_apart : unmarked ≡ due profile d → ⊥
  unmarked_apart e = let z : ◌≡◌ {A = ℕ} 0 1 = cc in omega arith

  pub untimed_apart : untimed ≡ due profile d → ⊥
  untimed_apart e = let z : ◌≡◌ {A = ℕ} 0 1 = cc in omega arith

  module _ (s : Slave) (tick : ℕ) where
    -- of a packet whose label the slave counted
    pub own_due : mark_at s tick ≡ due profile d → OwnDue s tick profile d
    unfolding mark_at release_at
    own_due e =
        let u = unmarked_apart in
        let v = untimed_apart in
        record { locked = grind (arith, nat_tests); label = grind (arith, nat_tests); pending = grind (arith, nat_tests); unit = grind (arith, nat_tests); due_is = grind (arith, nat_tests) }

    -- of a packet whose notice is taken: the slave had counted the same
    pub taken_due : (label : ℕ) → mark_taken s label tick ≡ due profile d → OwnDue s tick profile d
    unfolding mark_taken
    taken_due label e =
        let u = unmarked_apart in
        let v = untimed_apart in
        own_due (grind (arith, nat_tests))

-- ---- a mark that is due in a call is due by the slave's own notice, within the limits
pub record DueIn (s : Slave) (tick profile : ℕ) (d : Due) : Type 0 where
  pub own : OwnDue s tick profile d
  pub kept : Kept (second s.board.profile) s.waiting.sts s.waiting.md s.settings.od s.board.tad tick

module _ (s : Slave) (tick profile : ℕ) (d : Due) where
  abbrev IfDue : Reply Report → Type 0
  IfDue r = mark_in r ≡ due profile d → DueIn s tick profile d

  no_mark : unmarked ≡ due profile d → DueIn s tick profile d
  no_mark e = absurd (unmarked_apart profile d e)

  module _ (ok : sound s ≡ true) (h : in_second (second s.board.profile) tick ≡ true) where
    own_kept : OwnDue s tick profile d → DueIn s tick profile d
    own_kept o = record { own = o; kept = pending_kept s ok o.locked (grind (arith, nat_tests)) tick h }

    step_due : (j : Judgement) → IfDue (step_of s j tick).reply
    unfolding step_of counted passed unheard took
    step_due Lost = no_mark
    step_due (Refuse k) = no_mark
    step_due (Counts k) =
        pick (λ (r : Result Report). IfDue r.reply) (eqb s.count.phase 2) _ _
        (λ e. own_kept (own_due profile d s tick e))
        no_mark
    step_due (Takes x) = λ e. own_kept (taken_due profile d s tick _ e)

  module _ (p : List ℕ) where
    arrived : sound s ≡ true → (k : ℕ) → arrival_refusal s.board.profile p tick ≡ k → (j : Judgement) → IfDue (step_of s (unless_refused k j) tick).reply
    unfolding step_of
    arrived ok zero q j = step_due ok (arrived_tick s.board.profile p tick q) j
    arrived ok (suc k) q j = no_mark

    call_due : (j : Judgement) → IfDue (judged_call s p tick j).reply
    call_due j =
        split (λ (r : Result Report). IfDue r.reply) (sound s) _ _
        (λ ok. arrived ok (arrival_refusal s.board.profile p tick) refl j)
        (λ no. no_mark)

    -- of a packet, and of a numbers notice
    pub packet_due : (limit : ℕ) → IfDue (packet_of s p tick limit).reply
    packet_due limit = by_length (is_empty p) refl
      where
        by_length : (b : Bool) → is_empty p ≡ b → IfDue (packet_of s p tick limit).reply
        by_length true e = subst (λ (r : Result Report). IfDue r.reply) (packet_lost s p tick limit e) (pick (λ (r : Result Report). IfDue r.reply) (sound s) _ _ no_mark no_mark)
        by_length false e = subst (λ (r : Result Report). IfDue r.reply) (packet_is s p tick limit e) (call_due _)

    pub numbers_due : (x : Numbers) → IfDue (numbers_of s p tick x).reply
    numbers_due x = subst (λ (r : Result Report). IfDue r.reply) (numbers_is s p tick x) (call_due _)

-- ---- a released mark's times are in its profile's unit and below U, they are its notice's sums modulo U, and its wait ends on the modulation time
pub record Within (s : Slave) (tick profile : ℕ) (t : Times) : Type 0 where
  pub unit : profile ≡ s.board.profile
  pub range : InRange (second s.board.profile) t
  pub residues : Residues (second s.board.profile) s.waiting.sts s.waiting.md s.settings.od s.board.tad t
  pub waits : Waits (second s.board.profile) s.waiting.md s.settings.od tick t

-- ---- a late mark's lateness is in its profile's unit, minus the wait, 1 or more, and at most 2 × (U − 1)
pub record Late (s : Slave) (tick profile x : ℕ) : Type 0 where
  pub unit : profile ≡ s.board.profile
  pub minus_wait : wait_of (second s.board.profile) s.waiting.sts s.waiting.md s.settings.od s.board.tad tick ≡ pos 0 -ℤ pos x
  pub least : 1 ≤ x
  pub most : x ≤ 2 * (second s.board.profile - 1)

module _ (s : Slave) (tick profile : ℕ) where
  due_within : (t : Times) → DueIn s tick profile (released t) → Within s tick profile t
  due_within t d =
      record {
        unit = d.own.unit;
        range = released_range _ _ _ _ _ _ t d.own.due_is d.kept;
        residues = released_residues _ _ _ _ _ _ t d.own.due_is d.kept;
        waits = released_waits _ _ _ _ _ _ t d.own.due_is d.kept;
      }

  due_behind : (x : ℕ) → DueIn s tick profile (late x) → Late s tick profile x
  due_behind x d =
      record {
        unit = d.own.unit;
        minus_wait = late_wait _ _ _ _ _ _ x d.own.due_is;
        least = late_least _ _ _ _ _ _ x d.own.due_is;
        most = late_most _ _ _ _ _ _ x d.own.due_is d.kept;
      }

  module _ (p : List ℕ) where
    -- every mark that a packet or a numbers notice releases
    pub packet_within : (limit : ℕ) (t : Times) → mark_in (packet_of s p tick limit).reply ≡ due profile (released t) → Within s tick profile t
    packet_within limit t e = due_within t (packet_due s tick profile (released t) p limit e)

    pub numbers_within : (x : Numbers) (t : Times) → mark_in (numbers_of s p tick x).reply ≡ due profile (released t) → Within s tick profile t
    numbers_within x t e = due_within t (numbers_due s tick profile (released t) p x e)

    -- and every mark that they find late
    pub packet_late : (limit l : ℕ) → mark_in (packet_of s p tick limit).reply ≡ due profile (late l) → Late s tick profile l
    packet_late limit l e = due_behind l (packet_due s tick profile (late l) p limit e)

    pub numbers_late : (x : Numbers) (l : ℕ) → mark_in (numbers_of s p tick x).reply ≡ due profile (late l) → Late s tick profile l
    numbers_late x l e = due_behind l (numbers_due s tick profile (late l) p x e)
