-- There is room; behind the record's number and a space stand the columns.
use Rattle.std.proofs.Common.{rules}
use Rattle.text.specs.Line.{line_of}
use Rattle.text.proofs.Putting.{puts_placed, then}
use Rattle.text.proofs.Page.ignored_line.Goals as goal

pub returns-clause-placed : goal.returns-clause-placed
unfolding line_of
returns-clause-placed c =
    puts_placed (search rules)
    (then (then c.decimal.ensures.puts c.byte.ensures.puts) c.ignored.ensures.puts)
