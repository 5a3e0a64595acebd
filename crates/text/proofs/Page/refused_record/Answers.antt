-- There is room; behind the record's number and a space stands the refusal.
use Rattle.std.proofs.Common.{rules}
use Rattle.text.specs.Line.{record_line}
use Rattle.text.proofs.Putting.{puts_placed, retext, then}
use Rattle.text.proofs.Page.refused_record.Goals as goal

pub returns-clause-placed : goal.returns-clause-placed
unfolding record_line
returns-clause-placed c = puts_placed (search rules) (retext (cc) (then (then c.worded.ensures.puts c.byte.ensures.puts) c.refused.ensures.puts))
