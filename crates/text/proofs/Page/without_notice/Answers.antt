-- There is room; the rest of the line stands behind the mega-frame's number.
use Rattle.std.proofs.Common.{rules}
use Rattle.text.specs.Line.{mega_frame_line}
use Rattle.text.proofs.Putting.{puts_placed, retext, then}
use Rattle.text.proofs.Page.without_notice.Goals as goal

pub returns-clause-placed : goal.returns-clause-placed
unfolding mega_frame_line
returns-clause-placed c = puts_placed (search rules) (retext (cc) (then c.worded.ensures.puts c.word.ensures.puts))
