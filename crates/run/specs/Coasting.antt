-- How long a board has coasted (document 02, Paper 12): the marks that its slave passed since it last took a notice, by the slave's own labels.
use Rattle.std.specs.Prelude.{ℕ, zero, suc, ◌+◌, min, ◌≤◌, ◌≡◌, Bool, true, false, cond, List, [], ◌∷◌, eqb}
use Rattle.std.proofs.Math.Option.{Option, none, some}
use Rattle.cadence.specs.Label.{next_label}
use Rattle.state.specs.Slave.{most_coasted}
use Rattle.state.specs.Sound.{sound}
use Rattle.state.specs.declared.Slave.{Slave}
use Rattle.slave.specs.Answer.{Notice, absent, taken, slip, ignored, label_in, notice_in}
use Rattle.run.specs.Book.{Arrival, Call, at, gap}
use Rattle.run.specs.Run.{hear, leave, slave_after}
use Rattle.run.specs.Card.{by_gap}

-- a notice is taken, a slip's too
abbrev pub is_taken : Notice → Bool
is_taken absent = false
is_taken taken = true
is_taken slip = true
is_taken (ignored k) = false

-- by what a call replies
abbrev pub says_taken : Slave → Call → Bool
says_taken s (at t a) = is_taken (notice_in (hear s a).reply)
says_taken s (gap k) = false

-- the labels of k packets, of which the first has this one
abbrev pub labels_from : (n label k : ℕ) → List ℕ
labels_from n label zero = []
labels_from n label (suc k) = label ∷ labels_from n (next_label n label) k

abbrev pub listed : Option ℕ → List ℕ
listed none = []
listed (some label) = label ∷ []

-- the labels that a slave gives to the packets of a call: that of a packet is in the reply, and those of missing ones go on from its count. A hunting slave
-- gives none
abbrev pub labels_told : Slave → Call → List ℕ
labels_told s (at t a) = listed (label_in (hear s a).reply)
labels_told s (gap k) = cond (eqb s.count.phase 2) (labels_from s.board.n s.count.next k) []

-- an empty packet is a missing one
abbrev pub labels : Slave → Call → List ℕ
labels s c = labels_told s (by_gap c)

-- the marks among them have label 0
abbrev pub marks_among : List ℕ → ℕ
marks_among [] = 0
marks_among (label ∷ ls) = cond (eqb label 0) (suc (marks_among ls)) (marks_among ls)

-- the marks that a slave passes in a list of calls, and that none of these takes a notice
abbrev pub marks_over : Slave → List Call → ℕ
marks_over s [] = 0
marks_over s (c ∷ cs) = marks_among (labels s c) + marks_over (leave s c) cs

abbrev pub NoneSaysTaken : Slave → List Call → Type 0
NoneSaysTaken s [] = Unit {0}
NoneSaysTaken s (c ∷ cs) = (says_taken s c ≡ false) × NoneSaysTaken (leave s c) cs

-- after a call that takes a notice, and more calls of which none takes one, the number is the least of 255 and the marks passed in these; so it is 0 where
-- no call came since, whatever mark is on the notice's own packet. Any call that takes none adds the marks that it passes, up to 255, to a number that is a byte,
-- as every slave of the code has it. And a sound slave that hunts has 255
pub record Coasting : Type 0 where
  pub since : (s : Slave) (t : ℕ) (a : Arrival) (after : List Call) → says_taken s (at t a) ≡ true → NoneSaysTaken (leave s (at t a)) after
      → (slave_after (leave s (at t a)) after).count.coasted ≡ min (marks_over (leave s (at t a)) after) most_coasted
  pub passing : (s : Slave) (c : Call) → sound s ≡ true → s.count.coasted ≤ most_coasted → says_taken s c ≡ false
      → (leave s c).count.coasted ≡ min (s.count.coasted + marks_among (labels s c)) most_coasted
  pub hunting : (s : Slave) → sound s ≡ true → s.count.phase ≡ 1 → s.count.coasted ≡ most_coasted
