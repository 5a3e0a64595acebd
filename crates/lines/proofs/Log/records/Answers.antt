-- Each record is what the iterator gives next, and its line is put behind the others, in room that the output still has.
use Rattle.std.proofs.Common.{◌*◌, arith, rules}
use Rattle.slave.specs.Answer.{left}
use Rattle.text.proofs.Putting.{placed_puts}
use Rattle.lines.proofs.Going.{going_first, going_last, going_on}
use Rattle.lines.proofs.Log.records.Goals as goal

pub loop-record-init : goal.loop-record-init
loop-record-init c =
    let e = c.handled-used.ensures in
    (search rules, search rules, search rules, search rules, going_first _ _ _ _ _ (c.handled-used.result * 192) (search rules) (omega (arith, e.count)) (omega (arith, e.whole, e.count)) (omega (arith, e.room, e.count)))

pub loop-record-preserved : goal.loop-record-preserved
loop-record-preserved c =
    let l = c.loop-record in (
      search rules,
      search rules,
      search rules,
      search rules,
      going_on _ _ _ _ _ l.invariant.4 c.in-Some.record.now (search rules) (search rules) c.number32_at-tick.ensures (λ i. left (c.packet-answer.ensures.0 i) (c.packet-answer.ensures.1 i)) (placed_puts c.line.ensures.placed (search rules) (search rules)),
    )

pub returns-clause-handled : goal.returns-clause-handled
returns-clause-handled c = going_last _ _ _ _ _ c.loop-record.invariant.4 (search rules) (omega (arith, c.handled-used.ensures.count)) (search rules)
