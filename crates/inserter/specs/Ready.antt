-- What the first stages of a packet call leave to its later ones. No public contract cites it.
use Rattle.std.specs.Prelude.{◌≡◌, ◌≤◌, ◌<◌, ℕ, List, length}
use Rattle.wire.specs.Standards.{packet_length}
use Rattle.times.specs.declared.Steps.{Steps}
use Rattle.writer.specs.Writable.{Writable}
use Rattle.inserter.specs.declared.Inserter.{Inserter}
use Rattle.inserter.specs.Settings.{notice_at, field_of}

-- a packet that nothing refuses is whole, there is such a label and such a counter, and the notice fits into it
pub record Ready (s : Inserter) (p : List ℕ) (sts : Steps) : Type 0 where
  pub long : length p ≡ packet_length
  pub label : s.progress.label < s.settings.n
  pub continuity : s.progress.continuity ≤ 15
  pub fits : Writable (length p) (notice_at s.settings s.progress.label s.progress.continuity sts) (field_of s)
