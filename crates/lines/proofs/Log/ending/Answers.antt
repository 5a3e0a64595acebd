-- The buffer has room for both lines, so each is put whole.
use Rattle.std.proofs.Common.{arith, rules}
use Rattle.std.proofs.lemmas.Bool.Decides.{nat_tests}
use Rattle.text.proofs.Putting.{at_front, front_placed, placed_puts, puts_length, refront, then}
use Rattle.lines.proofs.Capture.{ending_cut, ending_empty, ending_most}
use Rattle.lines.proofs.Log.ending.Goals as goal
use Rattle.lines.proofs.Log.ending.Goals.{then-is_empty-via-then-is_empty, then-is_empty-via-else-is_empty+then-self}

pub returns-then-is_empty : goal.returns-then-is_empty
returns-then-is_empty c =
    elim c.then-is_empty.branch [
      | then-is_empty-via-then-is_empty w ↦ refront (ending_empty _ _ (grind (arith, nat_tests))) (front_placed c.end.ensures.placed (search rules))
      | then-is_empty-via-else-is_empty+then-self w ↦ refront (ending_most _ _ (grind (arith, nat_tests)) (grind (arith, nat_tests))) (front_placed c.end.ensures.placed (search rules))
    ]

pub returns : goal.returns
returns c =
    let p = placed_puts c.line.ensures.placed (search rules) (search rules) in
    let kept = puts_length p (search rules) in
    refront (ending_cut _ _ (grind (arith, nat_tests)) (grind (arith, nat_tests)))
    (at_front (then p (placed_puts c.end-2.ensures.placed (omega (arith, p.ends, p.short, kept)) (omega (arith, p.ends, p.short, kept)))))
