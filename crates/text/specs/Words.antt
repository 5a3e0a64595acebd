-- The fixed words of the programs, in ASCII (document 01, "It prints fixed words"; document 02, Paper 1).
use Rattle.std.specs.Prelude.{ℕ, List, [], ◌∷◌, ◌++◌}

abbrev pub space : ℕ
space = 0x20

abbrev pub newline : ℕ
newline = 0x0A

-- "-", for none
abbrev pub dash : List ℕ
dash = 0x2D ∷ []

-- "site "
abbrev pub site_word : List ℕ
site_word = 0x73 ∷ 0x69 ∷ 0x74 ∷ 0x65 ∷ space ∷ []

-- " cadence "
abbrev pub cadence_word : List ℕ
cadence_word = space ∷ 0x63 ∷ 0x61 ∷ 0x64 ∷ 0x65 ∷ 0x6E ∷ 0x63 ∷ 0x65 ∷ space ∷ []

-- "refused "
abbrev pub refused_word : List ℕ
refused_word = 0x72 ∷ 0x65 ∷ 0x66 ∷ 0x75 ∷ 0x73 ∷ 0x65 ∷ 0x64 ∷ space ∷ []

-- "end "
abbrev pub end_word : List ℕ
end_word = 0x65 ∷ 0x6E ∷ 0x64 ∷ space ∷ []

-- "taken"
abbrev pub taken_word : List ℕ
taken_word = 0x74 ∷ 0x61 ∷ 0x6B ∷ 0x65 ∷ 0x6E ∷ []

-- "slip"
abbrev pub slip_word : List ℕ
slip_word = 0x73 ∷ 0x6C ∷ 0x69 ∷ 0x70 ∷ []

-- "untimed"
abbrev pub untimed_word : List ℕ
untimed_word = 0x75 ∷ 0x6E ∷ 0x74 ∷ 0x69 ∷ 0x6D ∷ 0x65 ∷ 0x64 ∷ []

-- "late ", before the lateness (document 02, Paper 3)
abbrev pub late_word : List ℕ
late_word = 0x6C ∷ 0x61 ∷ 0x74 ∷ 0x65 ∷ space ∷ []

-- "record ", before the number of a record that the program insert leaves out (document 02, Paper 1)
abbrev pub record_word : List ℕ
record_word = 0x72 ∷ 0x65 ∷ 0x63 ∷ 0x6F ∷ 0x72 ∷ 0x64 ∷ space ∷ []

-- "mega-frame ", and " without a null packet" with the line's end, about the number of one (document 02, Paper 1)
abbrev pub mega_frame_word : List ℕ
mega_frame_word = 0x6D ∷ 0x65 ∷ 0x67 ∷ 0x61 ∷ 0x2D ∷ 0x66 ∷ 0x72 ∷ 0x61 ∷ 0x6D ∷ 0x65 ∷ space ∷ []

abbrev pub without_word : List ℕ
without_word =
    (space ∷ 0x77 ∷ 0x69 ∷ 0x74 ∷ 0x68 ∷ 0x6F ∷ 0x75 ∷ 0x74 ∷ space ∷ 0x61 ∷ [])
    ++ (space ∷ 0x6E ∷ 0x75 ∷ 0x6C ∷ 0x6C ∷ space ∷ 0x70 ∷ 0x61 ∷ 0x63 ∷ 0x6B ∷ 0x65 ∷ 0x74 ∷ newline ∷ [])
