-- What holds of the second of either profile.
use Rattle.std.proofs.Common.{ℕ, ◌≤◌, arith}
use Rattle.std.proofs.lemmas.Bool.Decides.{nat_tests}
use Rattle.wire.specs.Standards.{a110_second}
use Rattle.state.specs.Profile.{second}

pub second_small : (profile : ℕ) → second profile ≤ a110_second
unfolding second
second_small profile = grind (arith, nat_tests)
