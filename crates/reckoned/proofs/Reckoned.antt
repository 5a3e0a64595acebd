-- The reckoned examples hold: one statement about the definitions, computed over the whole table.
use mathlib.Core.Path.{refl}
use Rattle.check_value.specs.Register.{bit_in, bits_in, register_from, register}
use Rattle.times.specs.Release.{wrap, modulation, link_delay, due_of}
use Rattle.slave.specs.Gap.{gapped}
use Rattle.reckoned.specs.Table.{table, Holds}

pub reckoned : Holds table
unfolding table bit_in bits_in register_from register wrap modulation link_delay due_of gapped
reckoned = refl
