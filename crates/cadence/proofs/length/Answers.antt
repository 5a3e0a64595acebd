-- The entry in the row and the column that the two calls give.
use Rattle.cadence.proofs.Lengths.{entry}
use Rattle.cadence.proofs.length.Goals as goal

pub returns : goal.returns
returns c = rw (c.row.ensures, c.column.ensures) (entry c.args.c c.args.r)
