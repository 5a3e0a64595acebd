-- The notice is put over the packet, since it fits where an inserter is ready.
use Rattle.std.proofs.Common.{◌≡◌, ◌∙◌, true, sym}
use borrow.Author.Tests.{eq-eqb}
use Rattle.wire.proofs.Tests.{yes, join}
use Rattle.inserter.specs.Packet.{puts, sent_of}
use Rattle.inserter.proofs.Calling.{notice_put}
use Rattle.inserter.proofs.put_sent.Goals as goal

pub returns-then-is_null : goal.returns-then-is_null
unfolding sent_of
returns-then-is_null c =
    let a = c.args in
    let b : puts a.s.now.progress a.p.now ≡ true = join (eq-eqb _ 0 c.if-s-eq0.true) (sym c.is_null.ensures ∙ c.if-is_null.true) in
    (notice_put a.p.now c.put_notice.new.out _ _ (rw (c.notice_at-n.ensures, c.field_of.ensures) at c.put_notice.ensures) c.requires.fits c.requires.long ∙ sym (yes _ _ _ b), sym b)
