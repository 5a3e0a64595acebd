-- Bytes that are sealed: how many they are, and where the check value fits behind them.
use mathlib.Core.Path.{◌≡◌}
use mathlib.Core.List.{List, ◌++◌}
use Prim.Native.Nat.{ℕ, ◌+◌, ◌≤◌}
use lib.ListN.{length, take, drop, length-append}
use borrow.Author.Tests.{le-leb}
use Rattle.wire.specs.BigEndian.{bytes32}
use Rattle.check_value.specs.Register.{register, sealed, sealed_at}

pub sealed_length : (s : List ℕ) → length (sealed s) ≡ length s + 4
sealed_length s = length-append s (bytes32 (register s))

-- where the four bytes fit
pub seal_fits : (end : ℕ) (d : List ℕ) → end + 4 ≤ length d → sealed_at end d ≡ sealed (take end d) ++ drop (end + 4) d
unfolding sealed_at
seal_fits end d h = rw (le-leb (end + 4) (length d) h)
