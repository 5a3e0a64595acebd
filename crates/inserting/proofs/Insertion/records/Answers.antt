-- Each record is what the iterator gives next; what it gives is put behind the rest, in room that the outputs still have.
use Rattle.std.proofs.Common.{◌*◌, arith, rules}
use Rattle.inserting.proofs.Going.{going_first, going_last, going_on}
use Rattle.inserting.proofs.Insertion.records.Goals as goal

pub loop-record-init : goal.loop-record-init
loop-record-init c =
    let e = c.handled_in-used.ensures in
    (search rules, search rules, search rules, search rules, search rules, going_first _ _ _ _ (c.handled_in-used.result * 192) (search rules) (omega (arith, e.count)) (omega (arith, e.whole, e.count)) (omega (arith, e.packets, e.count)) (omega (arith, e.lines, e.count)))

pub loop-record-preserved : goal.loop-record-preserved
loop-record-preserved c =
    let e = c.take_record.ensures in (
      search rules,
      search rules,
      search rules,
      search rules,
      search rules,
      going_on c.loop-record.invariant.5 c.in-Some.record.now (search rules) (search rules) e.insertion e.packet e.line,
    )

pub returns : goal.returns
returns c =
    going_last c.loop-record.invariant.5 (search rules) (omega (arith, c.handled_in-used.ensures.count)) (search rules) (search rules)
