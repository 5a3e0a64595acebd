-- A slave's parts as they are before any call, and as a start gives them (document 01, "Steps of a slave").
use Rattle.std.specs.Prelude.{ℕ}
use Rattle.addressing.specs.Functions.{no_settings}
use Rattle.state.specs.declared.Board.{Board}
use Rattle.state.specs.declared.Count.{Count}
use Rattle.state.specs.declared.Waiting.{Waiting}
use Rattle.state.specs.declared.Slave.{Slave}

-- the next mark's index where it is not known
abbrev pub unknown : ℕ
unknown = 255

-- the marks passed since the last notice taken are counted up to this number, which then holds; a hunting slave has it (document 02, Paper 12)
abbrev pub most_coasted : ℕ
most_coasted = 255

-- nothing pending has STS and MD 0
abbrev pub nothing : Waiting
nothing = record { pending = 0; sts = 0; md = 0 }

-- a count that has not begun
abbrev pub uncounted : (phase coasted : ℕ) → Count
uncounted phase coasted = record { phase = phase; next = 0; index = unknown; coasted = coasted }

-- the very cold slave, which 15 leaves
abbrev pub cold : Slave
cold =
    record { board = record { profile = 0; n = 0; site = 0; tad = 0 }; settings = no_settings; count = uncounted 0 0; waiting = nothing }

-- what an accepted start gives
abbrev pub hunting : Board → Slave
hunting b = record { board = b; settings = no_settings; count = uncounted 1 most_coasted; waiting = nothing }
