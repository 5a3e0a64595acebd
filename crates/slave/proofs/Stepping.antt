-- What the steps take from a sound slave.
use mathlib.Core.Path.{◌≡◌}
use mathlib.Core.Bool.{true}
use Prim.Native.Nat.{◌<◌}
use Rattle.state.specs.Sound.{sound}
use Rattle.state.specs.declared.Slave.{Slave}
use Rattle.state.proofs.Sound.{profile_small, settings_kept_lem, fitting}

module _ (s : Slave) (ok : sound s ≡ true) where
  -- 0 or 1
  pub profile_below : s.board.profile < 2
  profile_below = profile_small s.board (settings_kept_lem s ok)

  -- the next label is within the cadence
  pub next_below : s.count.next < s.board.n
  next_below = (fitting s ok).below
