-- Functions of the addressing field, TS 101 191 subclause 6.1: tag, length and body, one after the other.
use Rattle.std.specs.Prelude.{ℕ, zero, suc, ◌-◌, Bool, true, false, cond, List, [], ◌∷◌, pos, length, take, drop, eqb, leb}
use Rattle.wire.specs.Reply.{Reply, refused, given}
use Rattle.wire.specs.BigEndian.{be16_at, be24_at}
use Rattle.wire.specs.Signed.{signed16, signed24}
use Rattle.addressing.specs.declared.Settings.{Settings}

-- the settings of a site that was told nothing
abbrev pub no_settings : Settings
no_settings = record { od = pos 0; frequency = pos 0; power = 0 }

-- function_length counts the tag, itself and the body (tables 7 to 10): 4, 5 and 4 for tags 0 to 2, at least 2 for the others
unfoldable pub length_fits : ℕ → ℕ → Bool
length_fits tag n = cond (eqb tag 0) (eqb n 4) (cond (eqb tag 1) (eqb n 5) (cond (eqb tag 2) (eqb n 4) (leb 2 n)))

-- the settings after one function: time offset (6.1.1), frequency offset (6.1.2), power (6.1.3); any other function sets nothing
unfoldable pub set_by : ℕ → List ℕ → Settings → Settings
set_by tag body t =
    cond (eqb tag 0) (record { od = signed16 (be16_at body 0); frequency = t.frequency; power = t.power })
    (cond (eqb tag 1) (record { od = t.od; frequency = signed24 (be24_at body 0); power = t.power })
    (cond (eqb tag 2) (record { od = t.od; frequency = t.frequency; power = be16_at body 0 })
    t))

-- refusal 10 unless the form is right
abbrev pub formed : {A : Type 0} → Bool → Reply A → Reply A
formed true r = r
formed false r = refused 10

-- the functions of a loop, which they fill exactly, and what they set where they apply
-- each takes two bytes or more, so that as many turns as bytes, and one, are enough
unfoldable pub functions_in : ℕ → Bool → List ℕ → Settings → Reply Settings
functions_in zero on s t = refused 10
functions_in (suc f) on [] t = given t
functions_in (suc f) on (tag ∷ []) t = refused 10
functions_in (suc f) on (tag ∷ n ∷ rest) t =
    formed (length_fits tag n)
    (formed (leb (n - 2) (length rest))
    (functions_in f on (drop (n - 2) rest) (cond on (set_by tag (take (n - 2) rest) t) t)))

unfoldable pub functions_of : Bool → List ℕ → Settings → Reply Settings
functions_of on s t = functions_in (suc (length s)) on s t
