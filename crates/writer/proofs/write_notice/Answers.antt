-- What is written was accepted, and so it fits.
use Rattle.std.proofs.Common.{◌∙◌}
use Rattle.writer.proofs.Writing.{put_fitting, written}
use Rattle.writer.proofs.write_notice.Goals as goal

pub returns : goal.returns
returns c =
    let a = c.args in
    let w = c.in_ok-check_write.ensures in
    written a.n a.field.now a.out.now _ w.numbers (c.put_notice.ensures ∙ put_fitting a.n a.field.now a.out.now w.fits)
