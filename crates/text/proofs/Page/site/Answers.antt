-- There is room; the site's word and number stand before the cadence's.
use Rattle.std.proofs.Common.{rules}
use Rattle.text.specs.Line.{site_line}
use Rattle.text.proofs.Putting.{puts_placed, retext, then}
use Rattle.text.proofs.Page.site.Goals as goal

pub returns-clause-placed : goal.returns-clause-placed
unfolding site_line
returns-clause-placed c =
    puts_placed (search rules) (retext (cc) (then c.worded.ensures.puts c.numbered.ensures.puts))
