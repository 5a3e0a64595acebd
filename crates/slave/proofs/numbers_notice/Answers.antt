-- A numbers notice that 15 and 1 to 3 do not refuse is 20's in profile 0, else taken or ignored; a refusal is the call's.
use Rattle.std.proofs.Common.{◌≡◌, ◌∙◌, sym, ap, Bool, true, false, ℕ, List}
use Rattle.std.specs.Prelude.{cond, eqb}
use mathlib.Core.Path.{refl}
use borrow.Author.Tests.{eq-eqb, ne_eqb}
use Rattle.wire.proofs.Refusals.{refusal_positive}
use Rattle.state.specs.declared.Slave.{Slave}
use Rattle.judging.specs.Judge.{judge_given}
use Rattle.judging.specs.Judgement.{Judgement, Refuse}
use Rattle.judging.specs.declared.Numbers.{Numbers}
use Rattle.slave.specs.Calls.{step_of, ready_refusal, numbers_of}
use Rattle.slave.specs.Ways.{kept_of, moved_of}
use Rattle.slave.proofs.Calling.{numbers_is, call_refused, call_steps}
use Rattle.slave.proofs.numbers_notice.Goals as goal

-- what follows 15 and 1 to 3: 20 in profile 0, else the judged step
stepped : (s : Slave) (p : List ℕ) (tick : ℕ) (x : Numbers) → ready_refusal s p tick ≡ 0 → (b : Bool) → eqb s.board.profile 0 ≡ b
    → step_of s (cond b (Refuse 20) (judge_given s.board s.settings p x)) tick ≡ numbers_of s p tick x
stepped s p tick x e b q =
    ap (λ (t : Bool). step_of s (cond t (Refuse 20) (judge_given s.board s.settings p x)) tick) (sym q)
    ∙ call_steps _ _ _ _ e ∙ numbers_is _ _ _ _

pub returns-in-Err : goal.returns-in-Err
returns-in-Err g c =
    let a = c.args in
    let e = call_refused _ _ _ _ _ c.in-Err.ensures.refusal (refusal_positive _) ∙ numbers_is a.s.now a.p.now a.tick a.x in
    rw (← e) c.refuse.ensures

pub returns-then-s-eq-PROFILE : goal.returns-then-s-eq-PROFILE
unfolding step_of
returns-then-s-eq-PROFILE g c =
    let a = c.args in
    let e = stepped a.s.now a.p.now a.tick a.x (sym c.in-Ok.ensures.refusal) true (eq-eqb _ 0 c.if-s-eq-PROFILE.true) in
    rw (← e) (refl, c.refused.ensures)

pub returns-in-Ok-judge_given : goal.returns-in-Ok-judge_given
unfolding step_of
returns-in-Ok-judge_given g c =
    let a = c.args in
    let e = stepped a.s.now a.p.now a.tick a.x (sym c.in-Ok.ensures.refusal) false (ne_eqb _ 0 c.if-s-eq-PROFILE.false) in
    let f : moved_of a.s.now c.take-m.result ≡ numbers_of a.s.now a.p.now a.tick a.x = (rw (c.in-Ok.ensures.value.0, c.in-Ok.ensures.value.1) at c.take-m.ensures) ∙ ap (λ (j : Judgement). step_of a.s.now j a.tick) c.in-Ok-judge_given.ensures ∙ e in
    rw (← f) c.apply_moved.ensures

pub returns-in-Err-judge_given : goal.returns-in-Err-judge_given
unfolding step_of
returns-in-Err-judge_given g c =
    let a = c.args in
    let e = stepped a.s.now a.p.now a.tick a.x (sym c.in-Ok.ensures.refusal) false (ne_eqb _ 0 c.if-s-eq-PROFILE.false) in
    let f : kept_of a.s.now c.ignore-m.result ≡ numbers_of a.s.now a.p.now a.tick a.x = (rw (c.in-Ok.ensures.value.0, c.in-Ok.ensures.value.1) at c.ignore-m.ensures) ∙ ap (λ (j : Judgement). step_of a.s.now j a.tick) c.in-Err-judge_given.ensures ∙ e in
    rw (← f) c.apply_kept.ensures
