-- The piece is within the input, and what is used of it within the piece.
use Rattle.inserting.proofs.Going.{piece_taken}
use Rattle.inserting.proofs.Insertion.take_piece.Goals as goal

pub returns : goal.returns
returns c = piece_taken c.args.n c.min-end.ensures c.records-taken.ensures c.copy_within.ensures.after
