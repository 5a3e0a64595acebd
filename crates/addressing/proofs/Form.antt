-- The form of an addressing field depends neither on the site nor on what was set before, so that every reader judges it alike.
use mathlib.Core.Path.{◌≡◌, refl}
use mathlib.Core.Bool.{Bool, true, false, cond}
use mathlib.Core.List.{List, [], ◌∷◌}
use Prim.Native.Nat.{ℕ, zero, suc, ◌-◌}
use lib.ListN.{length, take, drop}
use lib.Dec.{leb}
use Rattle.wire.specs.Reply.{Reply, refused, given}
use Rattle.wire.specs.BigEndian.{be16}
use Rattle.addressing.specs.declared.Settings.{Settings}
use Rattle.addressing.specs.Functions.{length_fits, set_by, formed, functions_in, functions_of}
use Rattle.addressing.specs.Entries.{addressed, and_then, is_given, entries_in, settings_of, well_formed}

formed_alike : (b : Bool) (x y : Reply Settings) → is_given x ≡ is_given y → is_given (formed b x) ≡ is_given (formed b y)
formed_alike true x y e = e
formed_alike false x y e = refl

functions_alike : (f : ℕ) (on also : Bool) (s : List ℕ) (t u : Settings) → is_given (functions_in f on s t) ≡ is_given (functions_in f also s u)
unfolding functions_in
functions_alike zero on also s t u = refl
functions_alike (suc f) on also [] t u = refl
functions_alike (suc f) on also (tag ∷ []) t u = refl
functions_alike (suc f) on also (tag ∷ n ∷ rest) t u =
    formed_alike (length_fits tag n) _ _
    (formed_alike (leb (n - 2) (length rest)) _ _
    (functions_alike f on also (drop (n - 2) rest) (cond on (set_by tag (take (n - 2) rest) t) t) (cond also (set_by tag (take (n - 2) rest) u) u)))

then_alike : (x y : Reply Settings) (k l : Settings → Reply Settings) → is_given x ≡ is_given y
    → ((a b : Settings) → is_given (k a) ≡ is_given (l b)) → is_given (and_then x k) ≡ is_given (and_then y l)
then_alike (refused m) (refused n) k l e h = refl
then_alike (refused m) (given b) k l e h = cc
then_alike (given a) (refused n) k l e h = cc
then_alike (given a) (given b) k l e h = h a b

entries_alike : (f : ℕ) (s : List ℕ) (site other : ℕ) (t u : Settings) → is_given (entries_in f s site t) ≡ is_given (entries_in f s other u)
unfolding entries_in functions_of
entries_alike zero s site other t u = refl
entries_alike (suc f) [] site other t u = refl
entries_alike (suc f) (hi ∷ []) site other t u = refl
entries_alike (suc f) (hi ∷ lo ∷ []) site other t u = refl
entries_alike (suc f) (hi ∷ lo ∷ loop ∷ rest) site other t u =
    formed_alike (leb loop (length rest)) _ _
    (then_alike (functions_of (addressed site (be16 hi lo)) (take loop rest) t) (functions_of (addressed other (be16 hi lo)) (take loop rest) u) _ _
    (functions_alike (suc (length (take loop rest))) (addressed site (be16 hi lo)) (addressed other (be16 hi lo)) (take loop rest) t u)
    (λ a b. entries_alike f (drop loop rest) site other a b))

-- settings are given exactly where the form is right
pub form_alone : (s : List ℕ) (site : ℕ) (t : Settings) → is_given (settings_of s site t) ≡ well_formed s
unfolding settings_of well_formed
form_alone s site t = entries_alike (suc (length s)) s site 0 t _
