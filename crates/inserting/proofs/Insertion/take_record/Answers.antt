-- What the inserter answers to the packet is what the record has, and all three follow it.
use Rattle.std.proofs.Common.{◌∙◌, ap}
use Rattle.inserter.specs.Packet.{Handled}
use Rattle.text.proofs.Putting.{retext}
use Rattle.inserting.specs.Records.{insertion_by, packet_by, line_by}
use Rattle.inserting.proofs.Records.{answered}
use Rattle.inserting.proofs.Insertion.take_record.Goals as goal

pub returns-clause-insertion : goal.returns-clause-insertion
returns-clause-insertion c =
    let e = answered c.args.self.now.inserter c.args.bytes.now c.requires.whole c.in-Some.ensures.cases.1 c.number32_at.ensures c.insert-answer.ensures in
    (λ j. record { inserter = c.insert-answer.new.s; counts = c.count.ensures j }) ∙ ap (insertion_by c.args.self.now) e

pub returns-clause-packet : goal.returns-clause-packet
returns-clause-packet c =
    let e = answered c.args.self.now.inserter c.args.bytes.now c.requires.whole c.in-Some.ensures.cases.1 c.number32_at.ensures c.insert-answer.ensures in
    retext (ap packet_by e) c.put_sent.ensures.puts

pub returns-clause-line : goal.returns-clause-line
returns-clause-line c =
    let e = answered c.args.self.now.inserter c.args.bytes.now c.requires.whole c.in-Some.ensures.cases.1 c.number32_at.ensures c.insert-answer.ensures in
    retext (ap (λ (a : Handled). line_by c.args.self.now.counts a.reply) e) c.put_line.ensures.puts
