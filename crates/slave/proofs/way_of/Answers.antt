-- An empty packet is a gap of one. Of the others, one that 15 and 1 to 3 do not refuse is a judged step; a refusal is the call's.
use Rattle.std.proofs.Common.{◌∙◌, sym}
use Rattle.std.proofs.lemmas.Result.{err_from_is_err_and}
use Rattle.wire.proofs.Refusals.{refusal_positive}
use Rattle.judging.specs.Judge.{judge_arrived}
use Rattle.slave.proofs.Calling.{packet_is, call_refused, call_steps}
use Rattle.slave.proofs.way_of.Goals as goal

pub returns : goal.returns
returns c =
    let a = c.args in
    let e = call_steps a.s.now a.p.now a.tick (judge_arrived a.s.now.board a.s.now.settings a.p.now a.limit) (sym c.in_ok-r.ensures.refusal) ∙ packet_is a.s.now a.p.now a.tick a.limit (cc (c.is_empty.ensures, c.if-is_empty.false)) in
    cc (e, c.arrived.ensures, c.in_ok-r.ensures.value.0, c.in_ok-r.ensures.value.1)

pub returns-in_err-r : goal.returns-in_err-r
returns-in_err-r c =
    let p = err_from_is_err_and c.from_residual.result c.from_residual.ensures.1 in
    rw (p.1, p.2) (call_refused _ _ _ _ _ c.in_err-r.ensures.refusal (refusal_positive _) ∙ packet_is _ _ _ _ (cc (c.is_empty.ensures, c.if-is_empty.false)))
