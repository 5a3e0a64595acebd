-- There is room; behind the number and a space stands the report.
use Rattle.std.proofs.Common.{rules}
use Rattle.text.specs.Line.{line_of}
use Rattle.text.proofs.Putting.{puts_placed, then}
use Rattle.text.proofs.Page.line.Goals as goal

pub returns-clause-placed : goal.returns-clause-placed
unfolding line_of
returns-clause-placed c =
    puts_placed (search rules)
    (rw c.in-Ok.is (then (then c.decimal.ensures.puts c.byte.ensures.puts) c.report.ensures.puts))
