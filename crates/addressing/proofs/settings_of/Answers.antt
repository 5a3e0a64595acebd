-- Each turn does the first entry, so that the invariant carries what is left to the whole.
use Rattle.std.proofs.Common.{◌≡◌, ◌∙◌, sym, rules}
use Rattle.wire.specs.Reply.{reply_of}
use Rattle.addressing.specs.Entries.{and_then, settings_of}
use Rattle.addressing.proofs.Turns.{entries_on}
use Rattle.addressing.proofs.settings_of.Goals as goal
use Rattle.addressing.proofs.settings_of.Goals.{After-functions}

turn : (c : After-functions)
    → and_then (reply_of c.functions.result) (λ u. settings_of c.in_ok-entry.rest.now c.args.site u)
    ≡ settings_of c.args.s.now c.args.site c.args.before
turn c =
    sym (entries_on c.args.site c.loop-s.t c.loop-s.s.now c.in_ok-entry.entry.now c.in_ok-entry.rest.now (reply_of c.functions.result) c.in-len3-up.len_at_least
    (rw (c.from.ensures, c.in_ok-entry.ensures.ok_part) at c.split_at_checked.ensures.cases) (search (rules, c.functions.ensures)))
    ∙ c.loop-s.invariant

pub returns-in_err-t : goal.returns-in_err-t
returns-in_err-t c = search (rules, turn (goal.at.returns-in_err-t c).After-functions)

pub loop-s-preserved : goal.loop-s-preserved
loop-s-preserved c = search (rules, turn (goal.at.loop-s-preserved c).After-functions)
