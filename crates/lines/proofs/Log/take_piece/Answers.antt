-- The piece is within the input, and what is used of it within the piece.
use Rattle.std.proofs.Common.{rules}
use Rattle.lines.proofs.Taking.{carried, piece_taken}
use Rattle.lines.proofs.Log.take_piece.Goals as goal

pub returns : goal.returns
returns c = piece_taken _ c.min-end.ensures c.records-used.ensures.handled (rw c.copy_within.ensures.after (carried _ c.records-used.result.0 c.min-end.result (search rules) (search rules)))
