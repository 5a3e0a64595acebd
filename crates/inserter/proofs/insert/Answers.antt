-- A packet that nothing refuses is ready for the steps.
use Rattle.inserter.specs.Ready.{Ready}
use Rattle.inserter.proofs.Calling.{ready}
use Rattle.inserter.proofs.insert.Goals as goal

pub put_sent-put-requires : goal.put_sent-put-requires
put_sent-put-requires c = ready c.args.s.now c.args.p.now c.args.sts c.in_ok-check_insert.ensures

pub progress_after-s-requires : goal.progress_after-s-requires
progress_after-s-requires c =
    let k : Ready c.args.s.now c.args.p.now c.args.sts = ready c.args.s.now c.args.p.now c.args.sts c.in_ok-check_insert.ensures in
    (k.label, k.continuity)

pub missed-requires : goal.missed-requires
missed-requires c = (ready c.args.s.now c.args.p.now c.args.sts c.in_ok-check_insert.ensures).label
