-- The pieces put one over the other are the packet.
use Rattle.std.proofs.Common.{◌≡◌, ◌∙◌, ap, sym, arith, length, take, drop, ℕ, ◌++◌}
use lib.Seq.{length-take-le}
use lib.ListN.{length-drop, replicate}
use Rattle.writer.specs.Writable.{Writable}
use Rattle.writer.specs.Writer.{stuffing}
use Rattle.writer.proofs.Writing.{packet_put, put_fitting}
use Rattle.writer.proofs.put_notice.Goals as goal

pub returns : goal.returns
returns c =
    let a = c.args in
    let w : Writable (length a.out.now) a.n a.field.now = c.fits.ensures.writable c.if-not-fits.false in
    let held = c.copy_from_slice.new.self ++ drop 21 a.out.now in
    let rest : length (take 167 (drop 21 held)) ≡ 167 =
    length-take-le 167 (drop 21 held) (omega (arith, length-drop 21 held, w.room)) in
    let filled : c.fill.new.self ≡ stuffing 167 = c.fill.ensures.after (λ y e. e) ∙ ap (λ (k : ℕ). replicate {A = ℕ} k 255) rest in
    packet_put a.n a.field.now a.out.now c.seal.new.out w.short w.room
    (rw (c.copy_from_slice.ensures.after, c.head_of.ensures, filled, c.put_over.ensures) at c.seal.ensures)
    ∙ sym (put_fitting a.n a.field.now a.out.now w)
