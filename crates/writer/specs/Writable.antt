-- What the first stages of the writer leave to its later ones: every field fits.
use Rattle.std.specs.Prelude.{ℕ, ◌≤◌, List, length}
use Rattle.wire.specs.Standards.{packet_length, longest_addressing}
use Rattle.notice.specs.declared.Notice.{Notice}

-- a notice and an addressing field that fit into this much room
pub record Writable (space : ℕ) (n : Notice) (field : List ℕ) : Type 0 where
  pub room : packet_length ≤ space
  pub counter : n.continuity ≤ 15
  pub bits : n.reserved ≤ 32767
  pub short : length field ≤ longest_addressing
