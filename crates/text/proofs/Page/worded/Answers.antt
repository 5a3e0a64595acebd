-- The number stands behind the word.
use Rattle.text.proofs.Putting.{then}
use Rattle.text.proofs.Page.worded.Goals as goal

pub returns-clause-puts : goal.returns-clause-puts
returns-clause-puts c = then c.word.ensures.puts c.decimal.ensures.puts
