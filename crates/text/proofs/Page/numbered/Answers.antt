-- The line's end stands behind the word and its number.
use Rattle.text.proofs.Putting.{then}
use Rattle.text.proofs.Page.numbered.Goals as goal

pub returns-clause-puts : goal.returns-clause-puts
returns-clause-puts c = then c.worded.ensures.puts c.byte.ensures.puts
