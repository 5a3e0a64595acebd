-- A gap-filler on a network's stream (document 02, Paper 9): it is one with a full board that gets, in place of each packet whose byte 20 is above the
-- gap-filler's limit, the same with a null packet's PID.
use Rattle.std.specs.Prelude.{◌≡◌, ℕ, ◌≤◌, cond, List, map, leb}
use Rattle.wire.specs.Reply.{Reply}
use Rattle.wire.specs.Standards.{longest_addressing}
use Rattle.notice.specs.Mip.{individual_addressing_length}
use Rattle.notice.specs.Reader.{limit_of}
use Rattle.state.specs.declared.Slave.{Slave}
use Rattle.slave.specs.Answer.{absent, Report}
use Rattle.slave.specs.Calls.{gap_of}
use Rattle.slave.specs.Limit.{nulled, reply_with}
use Rattle.run.specs.Book.{Form, Arrival, packet, numbers, Call, at, gap}
use Rattle.run.specs.Run.{hear, slave_after}

-- what the full board gets in place of what comes to a gap-filler
abbrev pub for_full_board : Arrival → Arrival
for_full_board (packet form p tick limit) =
    packet form (cond (leb (individual_addressing_length p) (limit_of limit)) p (nulled p)) tick longest_addressing
for_full_board (numbers p tick x) = numbers p tick x

abbrev pub call_for_full_board : Call → Call
call_for_full_board (at t a) = at t (for_full_board a)
call_for_full_board (gap k) = gap k

abbrev pub calls_for_full_board : List Call → List Call
calls_for_full_board = map call_for_full_board

-- a reply with its notice's part left out
abbrev pub but_notice : Reply Report → Reply Report
but_notice = reply_with absent

-- any calls with any limits, on any slave: after each call the two slaves are one, and the replies are one but for the notice's part, or altogether where the
-- packet is within the limit
pub record OneByNulls : Type 0 where
  pub slaves : (s : Slave) (calls : List Call) → slave_after s (calls_for_full_board calls) ≡ slave_after s calls
  pub replies : (s : Slave) (before : List Call) (a : Arrival)
      → but_notice (hear (slave_after s (calls_for_full_board before)) (for_full_board a)).reply ≡ but_notice (hear (slave_after s before) a).reply
  pub within : (s : Slave) (before : List Call) (form : Form) (p : List ℕ) (tick limit : ℕ) → individual_addressing_length p ≤ limit_of limit
      → hear (slave_after s (calls_for_full_board before)) (packet form p tick longest_addressing) ≡ hear (slave_after s before) (packet form p tick limit)
  pub gaps : (s : Slave) (before : List Call) (k : ℕ) → gap_of (slave_after s (calls_for_full_board before)) k ≡ gap_of (slave_after s before) k
