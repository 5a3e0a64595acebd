-- A gap: packets that are known to be missing (document 01, "Steps of a slave"), and the empty packet, a gap of one (document 02, Paper 5).
use Rattle.std.specs.Prelude.{ℕ, suc, ◌+◌, ◌-◌, ◌/◌, ◌%◌, cond, eqb, leb}
use Rattle.wire.specs.Reply.{given}
use Rattle.state.specs.Slave.{nothing}
use Rattle.state.specs.declared.Waiting.{Waiting}
use Rattle.state.specs.declared.Slave.{Slave}
use Rattle.slave.specs.Answer.{absent, Report, Result, left}
use Rattle.slave.specs.Step.{labelled, past, moved_to, unheard_report}

-- how many packets pass before the next mark
abbrev pub to_mark : ℕ → ℕ → ℕ
to_mark n next = (n - next) % n

-- how many marks are among the next k packets
abbrev pub marks_in : ℕ → ℕ → ℕ → ℕ
marks_in n next k = cond (leb k (to_mark n next)) 0 (suc ((k - 1 - to_mark n next) / n))

-- a pending notice stays until its mark is among them
abbrev pub kept_over : Slave → ℕ → Waiting
kept_over s k = cond (leb k (to_mark s.board.n s.count.next)) s.waiting nothing

-- a locked count moves by k; hunting is unchanged
unfoldable pub gapped : Slave → ℕ → Slave
gapped s k =
    cond (eqb s.count.phase 2)
    (moved_to s s.settings (labelled (past s.count (marks_in s.board.n s.count.next k)) ((s.count.next + k) % s.board.n)) (kept_over s k))
    s

-- an empty packet: a gap of one, with no label, notice, mark or place
abbrev pub lost : Slave → Result Report
lost s = left (gapped s 1) (given (unheard_report absent))
