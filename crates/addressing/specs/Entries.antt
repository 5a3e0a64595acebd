-- The addressing field, TS 101 191 table 1: entries of tx_identifier, function_loop_length and functions, and what they set for a site.
use Rattle.std.specs.Prelude.{ℕ, zero, suc, Bool, true, false, cond, List, [], ◌∷◌, length, take, drop, eqb, leb}
use Rattle.wire.specs.Reply.{Reply, refused, given}
use Rattle.wire.specs.BigEndian.{be16}
use Rattle.addressing.specs.Functions.{no_settings, formed, functions_of}
use Rattle.addressing.specs.declared.Settings.{Settings}

-- an entry is addressed to the site that it names; 0x0000 names every site
unfoldable pub addressed : ℕ → ℕ → Bool
addressed site id = cond (eqb id 0) true (eqb id site)

-- what is given goes on
abbrev pub and_then : {A B : Type 0} → Reply A → (A → Reply B) → Reply B
and_then (refused n) k = refused n
and_then (given a) k = k a

-- the entries, which fill the field exactly, in order; the form is judged for every entry. Each takes three bytes or more
unfoldable pub entries_in : ℕ → List ℕ → ℕ → Settings → Reply Settings
entries_in zero s site t = refused 10
entries_in (suc f) [] site t = given t
entries_in (suc f) (hi ∷ []) site t = refused 10
entries_in (suc f) (hi ∷ lo ∷ []) site t = refused 10
entries_in (suc f) (hi ∷ lo ∷ loop ∷ rest) site t =
    formed (leb loop (length rest))
    (and_then (functions_of (addressed site (be16 hi lo)) (take loop rest) t) λ after.
    entries_in f (drop loop rest) site after)

-- the settings of a site after the field, or refusal 10
unfoldable pub settings_of : List ℕ → ℕ → Settings → Reply Settings
settings_of s site t = entries_in (suc (length s)) s site t

abbrev pub is_given : {A : Type 0} → Reply A → Bool
is_given (refused n) = false
is_given (given a) = true

-- the form alone, which depends neither on the site nor on what was set before
unfoldable pub well_formed : List ℕ → Bool
well_formed s = is_given (settings_of s 0 no_settings)
