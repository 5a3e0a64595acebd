-- Laws of the cadence's length: the fifteen mega-frames have whole lengths, the code's table has these, each in its row and its column, profile 0 admits
-- what stands there and no other n, and every n admitted is 624 to 10,584.
use mathlib.Core.Path.{◌≡◌, refl, sym, ap, ap₂, ◌∙◌}
use mathlib.Core.Bool.{Bool, true, false, ◌||◌, ◌&&◌, cond, false≢true}
use mathlib.Core.List.{List, [], ◌∷◌, map}
use Prim.Native.Nat.{ℕ, zero, suc, ◌*◌, ◌≤◌}
use native.Mathlib.Omega.{arith}
use lib.Dec.{eqb}
use lib.ListN.{get_or}
use Rattle.std.specs.List.{list_any, flat_map}
use Rattle.std.proofs.lemmas.List.Folds.{list_any-append}
use borrow.Author.Tests.{eqb-true, ne_eqb}
use Rattle.cadence.specs.declared.Constellation.{Constellation}
use Rattle.cadence.specs.declared.Constellation.TheVariants.{Qpsk, Qam16, Qam64}
use Rattle.cadence.specs.declared.CodeRate.{CodeRate}
use Rattle.cadence.specs.declared.CodeRate.TheVariants.{Half, TwoThirds, ThreeQuarters, FiveSixths, SevenEighths}
use Rattle.cadence.specs.declared.TheConstants.{LENGTHS}
use Rattle.cadence.specs.Cadence.{data_frame, bits_of, numerator_of, denominator_of, length_of, constellations, code_rates, row_of, column_of, any_of, at_some_rate, is_mega_frame, admits}

-- ---- what is computed at each of the fifteen holds at any

abbrev Rates : (CodeRate → Type 0) → Type 0
Rates P = P Half × P TwoThirds × P ThreeQuarters × P FiveSixths × P SevenEighths

rate : (P : CodeRate → Type 0) → Rates P → (r : CodeRate) → P r
rate P h Half = h.0
rate P h TwoThirds = h.1
rate P h ThreeQuarters = h.2
rate P h FiveSixths = h.3
rate P h SevenEighths = h.4

pair : (P : Constellation → CodeRate → Type 0) → Rates (P Qpsk) × Rates (P Qam16) × Rates (P Qam64) → (c : Constellation) (r : CodeRate) → P c r
pair P h Qpsk = rate (P Qpsk) h.0
pair P h Qam16 = rate (P Qam16) h.1
pair P h Qam64 = rate (P Qam64) h.2

-- 2016 × v × r is whole
pub exact : (c : Constellation) (r : CodeRate) → length_of c r * denominator_of r ≡ 2016 * bits_of c * numerator_of r
exact = pair _ (omega arith)

pub length_range : (c : Constellation) (r : CodeRate) → (2016 ≤ length_of c r) × (length_of c r ≤ 10_584)
length_range = pair _ (omega arith)

-- ---- the code's table

-- all its entries at once are the rule's
pub table : LENGTHS ≡ map (λ c. map (length_of c) code_rates) constellations
table = refl

at_row : (f : Constellation → List ℕ) (c : Constellation) → get_or (map f constellations) (row_of c) [] ≡ f c
at_row f Qpsk = refl
at_row f Qam16 = refl
at_row f Qam64 = refl

at_column : (f : CodeRate → ℕ) (r : CodeRate) → get_or (map f code_rates) (column_of r) 0 ≡ f r
at_column f Half = refl
at_column f TwoThirds = refl
at_column f ThreeQuarters = refl
at_column f FiveSixths = refl
at_column f SevenEighths = refl

-- so the entry in a constellation's row and a code rate's column is its length; 0 stands where there is no entry, and no length is 0
pub entry : (c : Constellation) (r : CodeRate) → get_or (get_or LENGTHS (row_of c) []) (column_of r) 0 ≡ length_of c r
entry c r =
    ap (λ (rows : List (List ℕ)). get_or (get_or rows (row_of c) []) (column_of r) 0) table
    ∙ ap (λ (xs : List ℕ). get_or xs (column_of r) 0) (at_row (λ c. map (length_of c) code_rates) c)
    ∙ at_column (length_of c) r

-- n is one of the entries
abbrev pub in_table : ℕ → Bool
in_table n = list_any (eqb n) (flat_map (λ row. row) LENGTHS)

in_row : (n : ℕ) (row : List ℕ) → list_any (eqb n) row ≡ any_of row (eqb n)
in_row n [] = refl
in_row n (x ∷ row) = ap (λ (b : Bool). eqb n x || b) (in_row n row)

in_rows : (n : ℕ) (rows : List (List ℕ)) → list_any (eqb n) (flat_map (λ row. row) rows) ≡ any_of rows (λ row. any_of row (eqb n))
in_rows n [] = refl
in_rows n (row ∷ rows) =
    list_any-append (eqb n) row (flat_map (λ row. row) rows) ∙ ap₂ (λ (p q : Bool). p || q) (in_row n row) (in_rows n rows)

pub mega_frames : (n : ℕ) → is_mega_frame n ≡ in_table n
unfolding is_mega_frame at_some_rate
mega_frames n = ap (λ (rows : List (List ℕ)). any_of rows (λ row. any_of row (eqb n))) (sym table) ∙ sym (in_rows n LENGTHS)

-- which n a profile admits
pub admitted : (profile n : ℕ) → admits profile n ≡ cond (eqb profile 1) (eqb n data_frame) (eqb profile 0 && in_table n)
unfolding admits
admitted profile n = ap (λ (b : Bool). cond (eqb profile 1) (eqb n data_frame) (eqb profile 0 && b)) (mega_frames n)

-- ---- profile 0 admits these lengths, and no other

pub length_admitted : (c : Constellation) (r : CodeRate) → admits 0 (length_of c r) ≡ true
unfolding admits is_mega_frame at_some_rate
length_admitted = pair _ search

-- a member that passes
found : {A : Type 0} (xs : List A) (f : A → Bool) → any_of xs f ≡ true → (x : A) × (f x ≡ true)
found [] f e = absurd (false≢true e)
found {A} (x ∷ xs) f e = go (f x) refl e (found xs f)
  where
    go : (b : Bool) → f x ≡ b → b || any_of xs f ≡ true → (any_of xs f ≡ true → (y : A) × (f y ≡ true)) → (y : A) × (f y ≡ true)
    go true q e h = (x, q)
    go false q e h = h e

pub admitted_length : (n : ℕ) → admits 0 n ≡ true → (c : Constellation) × (r : CodeRate) × (n ≡ length_of c r)
unfolding admits is_mega_frame at_some_rate
admitted_length n e =
    let row = found constellations (at_some_rate n) e in
    let column = found code_rates (λ r. eqb n (length_of row.0 r)) row.1 in
    (row.0, column.0, eqb-true n (length_of row.0 column.0) column.1)

-- ---- no other profile admits any

pub other_profile : (p n : ℕ) → admits (suc (suc p)) n ≡ false
unfolding admits
other_profile p n = simp (ne_eqb (suc (suc p)) 1 (omega arith), ne_eqb (suc (suc p)) 0 (omega arith))

-- ---- of either profile: n is not 0, and fits 16 bits

pub admitted_range : (profile n : ℕ) → admits profile n ≡ true → (624 ≤ n) × (n ≤ 10_584)
unfolding admits
admitted_range zero n e = let w = admitted_length n e in omega (arith, length_range w.0 w.1)
admitted_range (suc zero) n e = omega (arith, eqb-true n 624 e)
admitted_range (suc (suc p)) n e = absurd (false≢true (sym (other_profile p n) ∙ e))
