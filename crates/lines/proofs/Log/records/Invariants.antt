-- The records that are left are those that the iterator still has; the page is the lent output's.
use Rattle.std.proofs.Common.{◌≡◌, length}
use Rattle.std.specs.Slice.Iter.{chunks_exact_rest, chunks_exact_size}
use Rattle.lines.specs.Log.{record_length}
use Rattle.lines.specs.Pieces.{handled_in}
use Rattle.lines.proofs.Going.{Going}
use Rattle.lines.proofs.Log.records.Given as goal

abbrev pub invariant-loop-record : goal.invariant-loop-record
invariant-loop-record l =
    (goal.iterator-loop-record).can_next l.record-iterator × (goal.iterator-loop-record).is_finite l.record-iterator
    × (chunks_exact_size l.record-iterator ≡ record_length)
    × (l.page.out.ghost_name ≡ l.initial.page.out.ghost_name)
    × Going l.initial.self.slave l.initial.self.number l.input (handled_in (length l.input) (length l.fn.out) l.initial.self.number) l.fn.out
    l.self.slave l.self.number (chunks_exact_rest l.record-iterator) l.page.out.now l.page.at
