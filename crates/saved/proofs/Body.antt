-- The layout read in both directions: a slave's body is bytes that hold that slave, and the slave that some bytes hold has them as its body.
use mathlib.Core.Path.{◌≡◌, refl, sym, ap, ap₂, ◌∙◌}
use mathlib.Core.Bool.{Bool, true, false, cond, ◌&&◌}
use mathlib.Core.List.{List, [], ◌∷◌, ◌++◌, append_assoc, append-nil}
use Prim.Native.Nat.{ℕ, ◌+◌, ◌≤◌, ◌<◌, ◌^◌}
use native.Mathlib.Omega.{arith}
use lib.Dec.{eqb, ltb}
use lib.ListN.{length, drop, get_or, length-append, length-drop}
use lib.Seq.{get_or-drop, drop-drop, drop_at}
use lib.Signed.{mag}
use Rattle.std.proofs.lemmas.Bool.{and_parts, cond_both, eqb-true, ltb-true}
use Rattle.std.proofs.lemmas.Bool.Decides.{nat_tests}
use Rattle.wire.specs.BigEndian.{be16, be32}
use Rattle.wire.specs.Signed.{signed16, signed32, bits16, bits32}
use Rattle.wire.proofs.Numbers.{spelled16, spelled32, of16, of32, signed_bits, bits_signed}
use Rattle.wire.proofs.Bytes.{Bytes, no_bytes, and_byte, and_bytes, bytes_16, bytes_32, elements}
use Rattle.wire.proofs.Puts.{put_fits, put_behind}
use Rattle.state.specs.declared.Slave.{Slave}
use Rattle.saved.specs.Layout.{Body, whole, old, length_of, Field, byte, pair, word, slave_of, body_fields, number_in, bytes_in, written, had_in, slave_in, body_of, first_byte, put_in, put_all}

-- a field's bytes, and the range of its numbers
abbrev pub width_of : Field → ℕ
width_of (byte i) = 1
width_of (pair i) = 2
width_of (word i) = 4

abbrev pub range_of : Field → ℕ
range_of (byte i) = 256
range_of (pair i) = 65536
range_of (word i) = 2 ^ 32

abbrev pub widths : List (Field × ℕ) → ℕ
widths [] = 0
widths (f ∷ fs) = width_of f.0 + widths fs

-- fields that stand one behind the other from byte k on, and that hold numbers of their width
abbrev pub packed : ℕ → List (Field × ℕ) → Bool
packed k [] = true
packed k (f ∷ fs) = eqb (first_byte f.0) k && packed (k + width_of f.0) fs

abbrev pub in_range : List (Field × ℕ) → Bool
in_range [] = true
in_range (f ∷ fs) = ltb f.1 (range_of f.0) && in_range fs

-- every part is a number of its width, as those of every slave that code holds are
pub record Fits (s : Slave) : Type 0 where
  pub fields : in_range (body_fields whole s) ≡ true
  pub od : mag s.settings.od < 32768
  pub frequency : mag s.settings.frequency < 2147483648

-- ---- writing

field_bytes : (f : Field) (v : ℕ) → v < range_of f → Bytes (bytes_in f v)
field_bytes (byte i) v h = and_byte v [] h no_bytes
field_bytes (pair i) v h = bytes_16 v
field_bytes (word i) v h = bytes_32 v

fields_bytes : (fs : List (Field × ℕ)) → in_range fs ≡ true → Bytes (written fs)
fields_bytes [] r = no_bytes
fields_bytes (f ∷ fs) r =
    let q = and_parts (ltb f.1 (range_of f.0)) _ r in
    and_bytes (bytes_in f.0 f.1) (written fs) (field_bytes f.0 f.1 (ltb-true _ _ q.0)) (fields_bytes fs q.1)

-- so are those of either body
pub in_body : (body : Body) (s : Slave) → Fits s → in_range (body_fields body s) ≡ true
in_body whole s f = f.fields
in_body old s f = let all = f.fields in grind (arith, nat_tests)

pub body_bytes : (body : Body) (s : Slave) → Fits s → Bytes (body_of body s)
unfolding body_of
body_bytes body s f = fields_bytes (body_fields body s) (in_body body s f)

field_length : (f : Field) (v : ℕ) → length (bytes_in f v) ≡ width_of f
field_length (byte i) v = refl
field_length (pair i) v = refl
field_length (word i) v = refl

-- packed fields put over some bytes stand there one after the other, behind what stood in front of them
module _ (d : List ℕ) where
  put_next : (f : Field) (v : ℕ) (p : List ℕ) → length p ≡ first_byte f → first_byte f + width_of f ≤ length d
      → put_in (p ++ drop (first_byte f) d) f v ≡ p ++ bytes_in f v ++ drop (first_byte f + width_of f) d
  put_next f v p e h =
      put_fits (p ++ drop (first_byte f) d) (first_byte f) (bytes_in f v) (omega (arith, field_length f v, length-append p (drop (first_byte f) d), length-drop (first_byte f) d))
      ∙ put_behind p (bytes_in f v) d (first_byte f) e
      ∙ ap (λ (n : ℕ). p ++ bytes_in f v ++ drop (first_byte f + n) d) (field_length f v)

  pub put_packed : (fs : List (Field × ℕ)) (k : ℕ) (p : List ℕ) → length p ≡ k → packed k fs ≡ true → k + widths fs ≤ length d
      → put_all (p ++ drop k d) fs ≡ p ++ written fs ++ drop (k + widths fs) d
  put_packed [] k p e q h =
      let none : k + 0 ≡ k = omega arith in
      sym (ap₂ ◌++◌ (append-nil p) (ap (λ (n : ℕ). drop n d) none))
  put_packed (f ∷ fs) k p e q h =
      let x : List ℕ = bytes_in f.0 f.1 in
      let i : ℕ = first_byte f.0 in
      let w : ℕ = width_of f.0 in
      let t = and_parts (eqb i k) _ q in
      let at : i ≡ k = eqb-true i k t.0 in
      let more : k + w + widths fs ≡ k + (w + widths fs) = omega arith in
      let put : put_in (p ++ drop k d) f.0 f.1 ≡ p ++ x ++ drop (k + w) d =
      ap (λ (j : ℕ). put_in (p ++ drop j d) f.0 f.1) (sym at)
      ∙ put_next f.0 f.1 p (e ∙ sym at) (omega arith)
      ∙ ap (λ (j : ℕ). p ++ x ++ drop (j + w) d) at in
      ap (λ (l : List ℕ). put_all l fs) put
      ∙ put_packed fs (k + w) (p ++ x) (length-append p x ∙ ap₂ ◌+◌ e (field_length f.0 f.1)) t.1 (omega arith)
      ∙ ap₂ ◌++◌ (append_assoc p x (written fs)) (ap (λ (n : ℕ). drop n d) more)

-- ---- reading

abbrev same_field : Field → Field → Bool
same_field (byte i) (byte j) = eqb i j
same_field (byte i) (pair j) = false
same_field (byte i) (word j) = false
same_field (pair i) (byte j) = false
same_field (pair i) (pair j) = eqb i j
same_field (pair i) (word j) = false
same_field (word i) (byte j) = false
same_field (word i) (pair j) = false
same_field (word i) (word j) = eqb i j

same : (f g : Field) → same_field f g ≡ true → f ≡ g
same (byte i) (byte j) e = ap byte (eqb-true i j e)
same (byte i) (pair j) e = cc
same (byte i) (word j) e = cc
same (pair i) (byte j) e = cc
same (pair i) (pair j) e = ap pair (eqb-true i j e)
same (pair i) (word j) e = cc
same (word i) (byte j) e = cc
same (word i) (pair j) e = cc
same (word i) (word j) e = ap word (eqb-true i j e)

-- the number written to a field, or another where none is
abbrev number_at : (Field → ℕ) → List (Field × ℕ) → Field → ℕ
number_at other [] g = other g
number_at other (f ∷ fs) g = cond (same_field g f.0) f.1 (number_at other fs g)

module _ (b : List ℕ) where
  first : (i : ℕ) (l : List ℕ) → drop i b ≡ l → get_or b i 0 ≡ get_or l 0 0
  first i l e = ap (λ (k : ℕ). get_or b k 0) (omega arith) ∙ sym (get_or-drop i b 0 0) ∙ ap (λ (x : List ℕ). get_or x 0 0) e

  next : (i k : ℕ) (l : List ℕ) → drop i b ≡ l → get_or b (i + k) 0 ≡ get_or l k 0
  next i k l e = sym (get_or-drop i b k 0) ∙ ap (λ (x : List ℕ). get_or x k 0) e

  -- where a field's bytes stand its number is read
  field_read : (f : Field) (v : ℕ) (t : List ℕ) → v < range_of f → drop (first_byte f) b ≡ bytes_in f v ++ t → number_in b f ≡ v
  field_read (byte i) v t h e = first i _ e
  field_read (pair i) v t h e = ap₂ be16 (first i _ e) (next i 1 _ e) ∙ spelled16 v h
  field_read (word i) v t h e = (λ j. be32 (first i _ e j) (next i 1 _ e j) (next i 2 _ e j) (next i 3 _ e j)) ∙ spelled32 v h

  -- and those of packed fields
  fields_read : (fs : List (Field × ℕ)) (k : ℕ) (t : List ℕ) → packed k fs ≡ true → in_range fs ≡ true → drop k b ≡ written fs ++ t
      → (g : Field) → number_in b g ≡ number_at (number_in b) fs g
  fields_read [] k t p r e g = refl
  fields_read (f ∷ fs) k t p r e g =
      let x : List ℕ = bytes_in f.0 f.1 in
      let q = and_parts (eqb (first_byte f.0) k) _ p in
      let u = and_parts (ltb f.1 (range_of f.0)) _ r in
      let here : drop k b ≡ x ++ (written fs ++ t) = e ∙ append_assoc x (written fs) t in
      cond_both (same_field g f.0) f.1 (number_at (number_in b) fs g) (λ (v : ℕ). number_in b g ≡ v)
      (λ o. ap (number_in b) (same g f.0 o) ∙ field_read f.0 f.1 (written fs ++ t) (ltb-true _ _ u.0) (ap (λ (j : ℕ). drop j b) (eqb-true (first_byte f.0) k q.0) ∙ here))
      (λ o. fields_read fs (k + width_of f.0) t q.1 u.1
      (sym (drop-drop (width_of f.0) k b) ∙ ap (drop (width_of f.0)) here ∙ drop_at x (written fs ++ t) (width_of f.0) (field_length f.0 f.1)) g)

module _ (s : Slave) (f : Fits s) where
  own_settings : record { od = signed16 (bits16 s.settings.od); frequency = signed32 (bits32 s.settings.frequency); power = s.settings.power } ≡ s.settings
  own_settings =
      λ i.
      record {
        od = signed_bits 32768 s.settings.od f.od i;
        frequency = signed_bits 2147483648 s.settings.frequency f.frequency i;
        power = s.settings.power;
      }

  own_parts : (body : Body) (other : Field → ℕ) → had_in body (slave_of (number_at other (body_fields body s))) ≡ had_in body s
  own_parts whole other = λ i. record s { settings = own_settings i }
  own_parts old other = λ i. had_in old (record s { settings = own_settings i })

  packed_body : (body : Body) → packed 0 (body_fields body s) ≡ true
  packed_body whole = refl
  packed_body old = refl

  -- bytes that begin with a slave's body hold that slave, as the body has it
  pub slave_back : (body : Body) (rest : List ℕ) → slave_in body (body_of body s ++ rest) ≡ had_in body s
  unfolding slave_in body_of
  slave_back body rest =
      let b : List ℕ = body_of body s ++ rest in
      (λ i. had_in body (slave_of (λ g. fields_read b (body_fields body s) 0 rest (packed_body body) (in_body body s f) refl g i))) ∙ own_parts body (number_in b)

-- ---- the slave that some bytes hold has their first as its body

module _ (b : List ℕ) where
  -- the bytes of a field, and of some fields
  abbrev span : Field → List ℕ
  span (byte i) = get_or b i 0 ∷ []
  span (pair i) = get_or b i 0 ∷ get_or b (i + 1) 0 ∷ []
  span (word i) = get_or b i 0 ∷ get_or b (i + 1) 0 ∷ get_or b (i + 2) 0 ∷ get_or b (i + 3) 0 ∷ []

  abbrev spans : List (Field × ℕ) → List ℕ
  spans [] = []
  spans (f ∷ fs) = span f.0 ++ spans fs

  -- fields with the numbers that stand there
  abbrev read_all : List (Field × ℕ) → List (Field × ℕ)
  read_all [] = []
  read_all (f ∷ fs) = (f.0, number_in b f.0) ∷ read_all fs

  module _ (bytes : Bytes b) where
    pub number_fits : (f : Field) → number_in b f < range_of f
    number_fits (byte i) = bytes i
    number_fits (pair i) = omega (arith, bytes i, bytes (i + 1))
    number_fits (word i) = omega (arith, bytes i, bytes (i + 1), bytes (i + 2), bytes (i + 3))

    pub field_again : (f : Field) → bytes_in f (number_in b f) ≡ span f
    field_again (byte i) = refl
    field_again (pair i) =
        let p = of16 (get_or b i 0) (get_or b (i + 1) 0) (bytes i) (bytes (i + 1)) in
        λ j. p.0 j ∷ p.1 j ∷ []
    field_again (word i) =
        let p = of32 (get_or b i 0) (get_or b (i + 1) 0) (bytes i) (bytes (i + 1)) (get_or b (i + 2) 0) (bytes (i + 2)) (get_or b (i + 3) 0) (bytes (i + 3)) in
        λ j. p.0 j ∷ p.1 j ∷ p.2 j ∷ p.3 j ∷ []

    fields_again : (fs : List (Field × ℕ)) → written (read_all fs) ≡ spans fs
    fields_again [] = refl
    fields_again (f ∷ fs) = ap₂ ◌++◌ (field_again f.0) (fields_again fs)

    od_again : bits16 (signed16 (number_in b (pair 10))) ≡ number_in b (pair 10)
    od_again = bits_signed 32768 (number_in b (pair 10)) (number_fits (pair 10))

    frequency_again : bits32 (signed32 (number_in b (word 12))) ≡ number_in b (word 12)
    frequency_again = bits_signed 2147483648 (number_in b (word 12)) (number_fits (word 12))

    own_fields : (body : Body) → body_fields body (slave_in body b) ≡ read_all (body_fields body (slave_in body b))
    unfolding slave_in
    own_fields whole = rw (od_again, frequency_again)
    own_fields old = rw (od_again, frequency_again)

    spans_are : (body : Body) → spans (body_fields body (slave_in body b)) ≡ elements (length_of body) 0 b
    spans_are whole = refl
    spans_are old = refl

    pub body_again : (body : Body) → body_of body (slave_in body b) ≡ elements (length_of body) 0 b
    unfolding body_of
    body_again body = ap written (own_fields body) ∙ fields_again (body_fields body (slave_in body b)) ∙ spans_are body
