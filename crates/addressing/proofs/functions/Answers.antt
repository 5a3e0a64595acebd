-- Each turn does the first function, so that the invariant carries what is left to the whole.
use Rattle.std.proofs.Common.{◌≡◌, ◌∙◌, sym, rules, cond}
use Rattle.wire.specs.Reply.{reply_of}
use Rattle.addressing.specs.Functions.{functions_of}
use Rattle.addressing.specs.Entries.{and_then}
use Rattle.addressing.proofs.Turns.{functions_on}
use Rattle.addressing.proofs.functions.Goals as goal
use Rattle.addressing.proofs.functions.Goals.{After-set_by}

turn : (c : After-set_by)
    → and_then (reply_of c.set_by.result) (λ u. functions_of c.args.on c.in_ok-function.rest.now (cond c.args.on u c.loop-s.t))
    ≡ functions_of c.args.on c.args.s.now c.args.before
turn c =
    sym (functions_on c.args.on c.loop-s.t c.loop-s.s.now c.in_ok-function.function.now c.in_ok-function.rest.now (reply_of c.set_by.result) c.in-len2-up.len_at_least
    (rw (c.from.ensures, c.in_ok-function.ensures.ok_part) at c.split_at_checked.ensures.cases) c.set_by.ensures.value)
    ∙ c.loop-s.invariant

pub returns-in_err-told : goal.returns-in_err-told
returns-in_err-told c = search (rules, turn (goal.at.returns-in_err-told c).After-set_by)

pub loop-s-preserved-then-on : goal.loop-s-preserved-then-on
loop-s-preserved-then-on c = search (rules, turn (goal.at.loop-s-preserved-then-on c).After-set_by)

pub loop-s-preserved : goal.loop-s-preserved
loop-s-preserved c = search (rules, turn (goal.at.loop-s-preserved c).After-set_by)
