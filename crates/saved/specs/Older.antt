-- The release before this one, as document 01 has it, beside this one (document 02, Paper 12): what it saved, and what it makes of any block. It counts no
-- marks and knows one body, the old one, at every distance that it takes. A slave of it has no such part; here 255 stands for that, but for the cold slave,
-- and with 255 a slave is sound exactly where it was sound there.
use Rattle.std.specs.Prelude.{ℕ, List}
use Rattle.state.specs.declared.Board.{Board}
use Rattle.state.specs.declared.Slave.{Slave}
use Rattle.slave.specs.Answer.{Result}
use Rattle.saved.specs.Layout.{old, had_in, slave_in}
use Rattle.saved.specs.Block.{block_of, from_body, resumed}

-- a slave as that release has it, and the block that it saves of one
abbrev pub older : Slave → Slave
older s = had_in old s

abbrev pub older_block : Slave → List ℕ
older_block s = block_of old s

-- a resume by that release
abbrev pub older_held : List ℕ → Slave
older_held b = slave_in old (from_body b)

unfoldable pub older_resume_of : List ℕ → Board → Result (Unit {0})
older_resume_of block b = resumed (older_held block) block b
