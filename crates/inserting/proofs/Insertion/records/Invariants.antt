-- The records that are left are those that the iterator still has; the pages are the lent outputs'.
use Rattle.std.proofs.Common.{◌≡◌, length}
use Rattle.std.specs.Slice.Iter.{chunks_exact_rest, chunks_exact_size}
use Rattle.inserting.specs.Records.{record_length}
use Rattle.inserting.specs.Pieces.{handled_in}
use Rattle.inserting.proofs.Going.{Going}
use Rattle.inserting.proofs.Insertion.records.Given as goal

abbrev pub invariant-loop-record : goal.invariant-loop-record
invariant-loop-record l =
    (goal.iterator-loop-record).can_next l.record-iterator × (goal.iterator-loop-record).is_finite l.record-iterator
    × (chunks_exact_size l.record-iterator ≡ record_length)
    × (l.packets.out.ghost_name ≡ l.initial.packets.out.ghost_name)
    × (l.lines.out.ghost_name ≡ l.initial.lines.out.ghost_name)
    × Going l.initial.self l.input (handled_in (length l.input) (length l.fn.out) (length l.fn.err)) l.fn.out l.fn.err
    l.self (chunks_exact_rest l.record-iterator) l.packets.out.now l.packets.at l.lines.out.now l.lines.at
