-- Which slaves are sound: those whose parts a saved body may hold (document 01, "Steps of a slave" and "Saved block"). Every other counts as cold.
use Rattle.std.specs.Prelude.{ℕ, Bool, cond, ◌&&◌, ◌||◌, eqb, ltb, ℤ, pos, negsuc}
use Rattle.std.specs.Int.Signed.{le_z, lt_z}
use Rattle.times.specs.Release.{in_second}
use Rattle.cadence.specs.MobileFrame.{frame_marks}
use Rattle.addressing.specs.declared.Settings.{Settings}
use Rattle.state.specs.Profile.{second, delay_kept, settings_kept}
use Rattle.state.specs.Slave.{unknown, most_coasted}
use Rattle.state.specs.declared.Board.{Board}
use Rattle.state.specs.declared.Count.{Count}
use Rattle.state.specs.declared.Waiting.{Waiting}
use Rattle.state.specs.declared.Slave.{Slave}

-- a number is 0
unfoldable pub is_zero : ℤ → Bool
is_zero z = le_z (pos 0) z && lt_z z (pos 1)

-- signed 24 bits
unfoldable pub frequency_fits : ℤ → Bool
frequency_fits z = le_z (negsuc 8_388_607) z && lt_z z (pos 8_388_608)

-- the next mark's index: unknown, else 0 to 19 in profile 1
unfoldable pub index_fits : ℕ → ℕ → Bool
index_fits profile index = eqb index unknown || (eqb profile 1 && ltb index frame_marks)

-- nothing pending has STS and MD 0
unfoldable pub is_nothing : Waiting → Bool
is_nothing w = eqb w.pending 0 && eqb w.sts 0 && eqb w.md 0

-- nothing, or a pending notice that is in range and satisfies 13
unfoldable pub waiting_fits : Board → ℤ → Waiting → Bool
waiting_fits b od w =
    cond (eqb w.pending 1)
    (in_second (second b.profile) w.sts && in_second (second b.profile) w.md && delay_kept b w.md od)
    (is_nothing w)

-- OD, frequency and power 0
unfoldable pub is_unset : Settings → Bool
is_unset t = is_zero t.od && is_zero t.frequency && eqb t.power 0

-- label 0, the unknown index, and no notice taken ever
unfoldable pub is_uncounted : Count → Bool
is_uncounted c = eqb c.next 0 && eqb c.index unknown && eqb c.coasted most_coasted

-- hunting has its zeros, the unknown index and 255 marks coasted; locked may have any number of them
unfoldable pub hunting_fits : Settings → Count → Waiting → Bool
hunting_fits t c w = is_unset t && is_uncounted c && is_nothing w

unfoldable pub locked_fits : Board → Settings → Count → Waiting → Bool
locked_fits b t c w =
    frequency_fits t.frequency && ltb c.next b.n && index_fits b.profile c.index && waiting_fits b t.od w

-- the parts besides the start's settings: phase 1 hunts, phase 2 is locked
unfoldable pub parts_fit : Slave → Bool
parts_fit s =
    cond (eqb s.count.phase 1)
    (hunting_fits s.settings s.count s.waiting)
    (eqb s.count.phase 2 && locked_fits s.board s.settings s.count s.waiting)

unfoldable pub sound : Slave → Bool
sound s = settings_kept s.board && parts_fit s
