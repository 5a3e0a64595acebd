-- The lines of the programs (document 01, the paragraph on the log program; document 02, Paper 1).
use Rattle.std.specs.Prelude.{ℕ, List, [], ◌∷◌, ◌++◌}
use Rattle.std.proofs.Math.Option.{Option, none, some}
use Rattle.wire.specs.Reply.{Reply, refused, given}
use Rattle.times.specs.Release.{late, released}
use Rattle.slave.specs.Answer.{Notice, absent, taken, slip, ignored, Mark, unmarked, untimed, due, Report}
use Rattle.text.specs.Decimal.{decimal}
use Rattle.text.specs.Words.{space, newline, dash, site_word, cadence_word, refused_word, end_word, taken_word, slip_word, untimed_word, late_word, record_word, mega_frame_word, without_word}

-- a number behind its word
abbrev pub worded : List ℕ → ℕ → List ℕ
worded word k = word ++ decimal k

-- a record's columns: its label, its notice, and its mark with the emission time, or with how late it is (document 02, Paper 3)
abbrev pub label_text : Option ℕ → List ℕ
label_text none = dash
label_text (some x) = decimal x

abbrev pub notice_text : Notice → List ℕ
notice_text absent = dash
notice_text taken = taken_word
notice_text slip = slip_word
notice_text (ignored k) = decimal k

abbrev pub mark_text : Mark → List ℕ
mark_text unmarked = dash
mark_text untimed = untimed_word
mark_text (due profile (late x)) = worded late_word x
mark_text (due profile (released t)) = decimal t.emission

abbrev pub report_text : Report → List ℕ
report_text r = label_text r.label ++ (space ∷ []) ++ notice_text r.notice ++ (space ∷ []) ++ mark_text r.mark ++ newline ∷ []

-- a number behind its word at the end of a line
abbrev pub numbered : List ℕ → ℕ → List ℕ
numbered word k = worded word k ++ newline ∷ []

-- a refusal, which is also all that bad or short settings print
abbrev pub refusal_text : ℕ → List ℕ
refusal_text k = numbered refused_word k

abbrev pub reply_text : Reply Report → List ℕ
reply_text (refused k) = refusal_text k
reply_text (given r) = report_text r

-- a record's line: its number, then its reply
unfoldable pub line_of : ℕ → Reply Report → List ℕ
line_of number r = decimal number ++ (space ∷ []) ++ reply_text r

unfoldable pub site_line : ℕ → ℕ → List ℕ
site_line site n = worded site_word site ++ numbered cadence_word n

unfoldable pub end_line : ℕ → List ℕ
end_line count = numbered end_word count

-- ---- the lines of the program insert (document 02, Paper 1)

-- a record that is left out, and what refuses it
unfoldable pub record_line : ℕ → ℕ → List ℕ
record_line number k = worded record_word number ++ (space ∷ []) ++ refusal_text k

-- a mega-frame without a null packet
unfoldable pub mega_frame_line : ℕ → List ℕ
mega_frame_line number = worded mega_frame_word number ++ without_word
