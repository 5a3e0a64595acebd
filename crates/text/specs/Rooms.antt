-- The most bytes that each part of a line takes, computed from what is printed (`Line`): a buffer with so much room holds it.
use Rattle.std.specs.Prelude.{ℕ, ◌+◌, List, length}
use Rattle.text.specs.Decimal.{most_digits}
use Rattle.text.specs.Words.{site_word, cadence_word, refused_word, end_word, late_word, record_word, mega_frame_word, without_word}

-- a number behind its word
abbrev pub worded_room : List ℕ → ℕ
worded_room word = length word + most_digits

-- a column: no word is longer than the longest number
abbrev pub column_room : ℕ
column_room = most_digits

-- the mark's column: the longest is how late a mark is
abbrev pub mark_room : ℕ
mark_room = worded_room late_word

-- the three columns, a byte behind each
abbrev pub report_room : ℕ
report_room = column_room + 1 + column_room + 1 + mark_room + 1

-- a number behind its word at the end of a line
abbrev pub numbered_room : List ℕ → ℕ
numbered_room word = worded_room word + 1

abbrev pub refusal_room : ℕ
refusal_room = numbered_room refused_word

-- a record's line: a report is longer than a refusal
abbrev pub line_room : ℕ
line_room = most_digits + 1 + report_room

abbrev pub site_room : ℕ
site_room = worded_room site_word + numbered_room cadence_word

abbrev pub end_room : ℕ
end_room = numbered_room end_word

abbrev pub record_room : ℕ
record_room = worded_room record_word + 1 + refusal_room

abbrev pub mega_frame_room : ℕ
mega_frame_room = worded_room mega_frame_word + length without_word
