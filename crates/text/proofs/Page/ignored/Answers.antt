-- The columns and the bytes between them stand one behind the other.
use Rattle.text.proofs.Putting.{then}
use Rattle.text.proofs.Page.ignored.Goals as goal

pub returns-clause-puts : goal.returns-clause-puts
returns-clause-puts c =
    rw (← c.into.ensures)
    (then (then (then (then (then c.label.ensures.puts c.byte.ensures.puts) c.decimal.ensures.puts) c.byte-2.ensures.puts) c.mark.ensures.puts)
    c.byte-3.ensures.puts)
