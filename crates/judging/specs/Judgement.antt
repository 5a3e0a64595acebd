-- What judging says of a packet or a numbers notice, in the papers' numbers.
use Rattle.std.specs.Prelude.{ℕ, Option, None, Some, Result, Ok, Err}
use Rattle.wire.specs.declared.Refusal.{Refusal}
use Rattle.wire.specs.Reply.{refusal_number}
use Rattle.judging.specs.declared.Taken.{Taken}

pub data Judgement : Type 0 where
  Lost : Judgement  -- an empty packet, in the place of one that was lost
  Refuse : ℕ → Judgement  -- a number of K refuses the call
  Counts : ℕ → Judgement  -- it counts, and a number of C ignores its notice; 0: it carries none
  Takes : Taken → Judgement  -- it counts, and its notice is taken

-- the code's answers in these numbers and values: of a packet, and of one that comes with a notice
abbrev pub judgement_of : Result (Option Taken) Refusal → Judgement
judgement_of (Ok None) = Counts 0
judgement_of (Ok (Some t)) = Takes t
judgement_of (Err r) = Counts (refusal_number r)

abbrev pub taken_of : Result Taken Refusal → Judgement
taken_of (Ok t) = Takes t
taken_of (Err r) = Counts (refusal_number r)
