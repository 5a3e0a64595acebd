-- The settings that begin an input: n (2), periodic flag (1), reserved bits (2), MD (4), TPS (4), the addressing field's length (1), the field.
use Rattle.std.specs.Prelude.{ℕ, ◌+◌, cond, List, leb, length, take, drop, get_or}
use Rattle.wire.specs.Reply.{refused}
use Rattle.wire.specs.BigEndian.{be16_at, be32_at}
use Rattle.inserter.specs.declared.Settings.{Settings}
use Rattle.inserter.specs.Settings.{zeros, Started, started, start_of}

-- the bytes before the field, of which the last is its length
abbrev pub numbers_length : ℕ
numbers_length = 14

abbrev pub field_length : List ℕ → ℕ
field_length h = get_or h 13 0

abbrev pub settings_length : List ℕ → ℕ
settings_length h = numbers_length + field_length h

-- what follows them
abbrev pub rest_of : List ℕ → List ℕ
rest_of i = drop (settings_length i) i

-- the most bytes that settings are
abbrev pub settings_room : ℕ
settings_room = numbers_length + 255

abbrev pub settings_in : List ℕ → Settings
settings_in h =
    record { n = be16_at h 0; periodic = get_or h 2 0; reserved = be16_at h 3; md = record { 0 = be32_at h 5 }; tps = be32_at h 9 }

abbrev pub field_in : List ℕ → List ℕ
field_in h = take (field_length h) (drop numbers_length h)

-- the start that the settings at the front of an input ask for; 15 where they are short
unfoldable pub begun_by : List ℕ → Started
begun_by h = cond (leb (settings_length h) (length h)) (start_of (settings_in h) (field_in h)) (started zeros (refused 15))
