-- There is room; behind the record's number and a space stands the refusal.
use Rattle.std.proofs.Common.{arith, rules}
use Rattle.text.specs.Line.{line_of}
use Rattle.text.proofs.Putting.{puts_placed, then, wider}
use Rattle.text.proofs.Page.refused_line.Goals as goal

pub returns-clause-placed : goal.returns-clause-placed
unfolding line_of
returns-clause-placed c =
    puts_placed (search rules)
    (wider (omega arith) (then (then c.decimal.ensures.puts c.byte.ensures.puts) c.refused.ensures.puts))
