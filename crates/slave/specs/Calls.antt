-- The calls of a slave: 15 comes first, and leaves the cold slave. A packet or a numbers notice takes a sound one by the step that it is judged to.
use Rattle.std.specs.Prelude.{ℕ, Bool, cond, List}
use Rattle.wire.specs.Reply.{refused, given, must}
use Rattle.state.specs.Profile.{settings_kept}
use Rattle.state.specs.Slave.{cold, hunting}
use Rattle.state.specs.Sound.{sound}
use Rattle.state.specs.declared.Board.{Board}
use Rattle.state.specs.declared.Slave.{Slave}
use Rattle.judging.specs.Judge.{arrival_refusal, judge_packet, judge_numbers}
use Rattle.judging.specs.Judgement.{Judgement, Lost, Refuse, Counts, Takes}
use Rattle.judging.specs.declared.Numbers.{Numbers}
use Rattle.slave.specs.Answer.{Report, Result, left}
use Rattle.slave.specs.Step.{counted, took}
use Rattle.slave.specs.Gap.{gapped, lost}

-- what follows where a condition holds, else 15
abbrev pub unless15 : {A : Type 0} → Bool → Result A → Result A
unless15 ok r = cond ok r (left cold (refused 15))

-- what a judged packet does
unfoldable pub step_of : Slave → Judgement → ℕ → Result Report
step_of s Lost tick = lost s
step_of s (Refuse k) tick = left s (refused k)
step_of s (Counts k) tick = counted s k tick
step_of s (Takes t) tick = took s t tick

-- 15, then 1, 2, 3: what refuses a numbers notice, and a packet that is not empty, before any notice is judged
unfoldable pub ready_refusal : Slave → List ℕ → ℕ → ℕ
ready_refusal s p tick = must (sound s) 15 (arrival_refusal s.board.profile p tick)

unfoldable pub start_of : Board → Result (Unit {0})
start_of b = unless15 (settings_kept b) (left (hunting b) (given tt))

-- a packet, whose notice is read with the limit given with the call: no slave keeps one
unfoldable pub packet_of : Slave → List ℕ → (tick limit : ℕ) → Result Report
packet_of s p tick limit = unless15 (sound s) (step_of s (judge_packet s.board s.settings p tick limit) tick)

unfoldable pub numbers_of : Slave → List ℕ → ℕ → Numbers → Result Report
numbers_of s p tick x = unless15 (sound s) (step_of s (judge_numbers s.board s.settings p tick x) tick)

unfoldable pub gap_of : Slave → ℕ → Result (Unit {0})
gap_of s k = unless15 (sound s) (left (gapped s k) (given tt))
