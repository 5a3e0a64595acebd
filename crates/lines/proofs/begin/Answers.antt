-- The opening is that of the same settings.
use Rattle.text.proofs.Putting.{refront}
use Rattle.lines.specs.Log.{opened_by, opening_of}
use Rattle.lines.proofs.begin.Goals as goal

pub returns : goal.returns
unfolding opening_of
returns c =
    (c.begun_by-started.ensures, refront (λ j. opened_by (c.board_in.ensures j) (c.begun_by-started.ensures j).reply) c.put_opening-filled.ensures)
