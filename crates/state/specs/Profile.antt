-- What depends on a board's profile: U, number 13, and the settings that a start admits (document 01, "Two clocks" and "Steps of a slave").
use Rattle.std.specs.Prelude.{ℕ, Bool, cond, ◌&&◌, eqb, ltb, ℤ}
use Rattle.wire.specs.Standards.{dvb_second, a110_second}
use Rattle.times.specs.Release.{in_second, delay_fits, delay_fits_a110}
use Rattle.cadence.specs.Cadence.{admits}
use Rattle.state.specs.declared.Board.{Board}

-- U of a profile
unfoldable pub second : ℕ → ℕ
second profile = cond (eqb profile 1) a110_second dvb_second

-- 13 of a board
unfoldable pub delay_kept : Board → ℕ → ℤ → Bool
delay_kept b md od = cond (eqb b.profile 1) (delay_fits_a110 a110_second md od b.tad) (delay_fits dvb_second md od)

-- the limits of a start's settings
unfoldable pub settings_kept : Board → Bool
settings_kept b = admits b.profile b.n && ltb 0 b.site && in_second (second b.profile) b.tad
