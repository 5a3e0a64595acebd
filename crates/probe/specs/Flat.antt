-- The answers of the calls as plain numbers: the paper's number, 0 for none, and the values, all 0 where a number refuses.
use Rattle.std.specs.Prelude.{ℕ, pos, Option, Some, None, slice_get}
use Rattle.wire.specs.Reply.{Reply, refused, given}
use Rattle.cadence.specs.declared.Constellation.{Constellation}
use Rattle.cadence.specs.declared.CodeRate.{CodeRate}
use Rattle.cadence.specs.Cadence.{length_of, constellations, code_rates}
use Rattle.addressing.specs.declared.Settings.{Settings}
use Rattle.probe.specs.declared.ProbeSettings.{ProbeSettings}
use Rattle.probe.specs.declared.ProbeLabel.{ProbeLabel}

abbrev pub flat_settings : Reply Settings → ProbeSettings
flat_settings (refused k) = record { number = k; od = pos 0; frequency = pos 0; power = 0 }
flat_settings (given t) = record { number = 0; od = t.od; frequency = t.frequency; power = t.power }

-- the length where there are both, else 0, which is no length
abbrev pub length_at : Option Constellation → Option CodeRate → ℕ
length_at (Some c) (Some r) = length_of c r
length_at (Some c) None = 0
length_at None r = 0

-- the two by their places in the lists, from 0
abbrev pub flat_length : ℕ → ℕ → ℕ
flat_length c r = length_at (slice_get constellations c) (slice_get code_rates r)

abbrev pub flat_label : Reply ℕ → ProbeLabel
flat_label (refused k) = record { number = k; value = 0 }
flat_label (given x) = record { number = 0; value = x }
