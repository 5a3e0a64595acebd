-- n, the packets of a cadence (document 01, "Cadence"): the data frame of A/110 9.1.2.1 and the mega-frames of TS 101 191 clause 5.
use Rattle.std.specs.Prelude.{ℕ, ◌*◌, ◌/◌, Bool, false, cond, ◌&&◌, ◌||◌, List, [], ◌∷◌, eqb}
use Rattle.cadence.specs.declared.Constellation.{Constellation}
use Rattle.cadence.specs.declared.Constellation.TheVariants.{Qpsk, Qam16, Qam64}
use Rattle.cadence.specs.declared.CodeRate.{CodeRate}
use Rattle.cadence.specs.declared.CodeRate.TheVariants.{Half, TwoThirds, ThreeQuarters, FiveSixths, SevenEighths}

-- profile 1: 312 × 2 packets, a data frame, from one Cadence Sync Point to the next
abbrev pub data_frame : ℕ
data_frame = 624

-- profile 0: v, the bits of a constellation
abbrev pub bits_of : Constellation → ℕ
bits_of Qpsk = 2
bits_of Qam16 = 4
bits_of Qam64 = 6

-- r, the code rate, by its numerator and its denominator
abbrev pub numerator_of : CodeRate → ℕ
numerator_of Half = 1
numerator_of TwoThirds = 2
numerator_of ThreeQuarters = 3
numerator_of FiveSixths = 5
numerator_of SevenEighths = 7

abbrev pub denominator_of : CodeRate → ℕ
denominator_of Half = 2
denominator_of TwoThirds = 3
denominator_of ThreeQuarters = 4
denominator_of FiveSixths = 6
denominator_of SevenEighths = 8

-- the packets of a mega-frame, n = 2016 × v × r
abbrev pub length_of : Constellation → CodeRate → ℕ
length_of c r = 2016 * bits_of c * numerator_of r / denominator_of r

-- the three constellations and the five code rates
abbrev pub constellations : List Constellation
constellations = Qpsk ∷ Qam16 ∷ Qam64 ∷ []

abbrev pub code_rates : List CodeRate
code_rates = Half ∷ TwoThirds ∷ ThreeQuarters ∷ FiveSixths ∷ SevenEighths ∷ []

-- the row of a constellation and the column of a code rate, where the code's constant LENGTHS has the length (document 02, Paper 4)
abbrev pub row_of : Constellation → ℕ
row_of Qpsk = 0
row_of Qam16 = 1
row_of Qam64 = 2

abbrev pub column_of : CodeRate → ℕ
column_of Half = 0
column_of TwoThirds = 1
column_of ThreeQuarters = 2
column_of FiveSixths = 3
column_of SevenEighths = 4

-- some member of the list passes the test
abbrev pub any_of : {A : Type 0} → List A → (A → Bool) → Bool
any_of [] f = false
any_of (x ∷ xs) f = f x || any_of xs f

-- n is the length of a mega-frame with this constellation
unfoldable pub at_some_rate : ℕ → Constellation → Bool
at_some_rate n c = any_of code_rates (λ r. eqb n (length_of c r))

-- n is the length of a mega-frame, one of the fifteen
unfoldable pub is_mega_frame : ℕ → Bool
is_mega_frame n = any_of constellations (at_some_rate n)

-- the profile has cadences of n packets; another profile has none
unfoldable pub admits : ℕ → ℕ → Bool
admits profile n = cond (eqb profile 1) (eqb n data_frame) (eqb profile 0 && is_mega_frame n)
