-- What functions set one by one, an addressing field sets whole: a relation that each function keeps is kept by the field.
-- So OD depends on no frequency or power before.
use mathlib.Core.Path.{◌≡◌, refl}
use mathlib.Core.Bool.{Bool, true, false}
use mathlib.Core.List.{List, [], ◌∷◌}
use Prim.Native.Nat.{ℕ, zero, suc, ◌-◌}
use lib.ListN.{length, take, drop}
use lib.Dec.{eqb, leb}
use Rattle.wire.specs.Reply.{Reply, refused, given}
use Rattle.wire.specs.BigEndian.{be16}
use Rattle.addressing.specs.declared.Settings.{Settings}
use Rattle.addressing.specs.Functions.{length_fits, set_by, formed, functions_in, functions_of}
use Rattle.addressing.specs.Entries.{addressed, and_then, entries_in, settings_of}
use Rattle.wire.proofs.Tests.{pair}

-- two replies with the same number, or with related settings
abbrev pub Both : (Settings → Settings → Type 0) → Reply Settings → Reply Settings → Type 0
Both R (refused k) (refused m) = k ≡ m
Both R (refused k) (given u) = ⊥
Both R (given t) (refused m) = ⊥
Both R (given t) (given u) = R t u

module _ (R : Settings → Settings → Type 0) (keeps : (tag : ℕ) (body : List ℕ) (t u : Settings) → R t u → R (set_by tag body t) (set_by tag body u)) where
  formed_both : (b : Bool) (x y : Reply Settings) → Both R x y → Both R (formed b x) (formed b y)
  formed_both true x y h = h
  formed_both false x y h = refl

  functions_both : (f : ℕ) (on : Bool) (s : List ℕ) (t u : Settings) → R t u → Both R (functions_in f on s t) (functions_in f on s u)
  unfolding functions_in
  functions_both zero on s t u h = refl
  functions_both (suc f) on [] t u h = h
  functions_both (suc f) on (tag ∷ []) t u h = refl
  functions_both (suc f) on (tag ∷ n ∷ rest) t u h =
      formed_both (length_fits tag n) _ _
      (formed_both (leb (n - 2) (length rest)) _ _
      (functions_both f on (drop (n - 2) rest) _ _ (pair R on (keeps tag (take (n - 2) rest) t u h) h)))

  then_both : (x y : Reply Settings) (k : Settings → Reply Settings) → Both R x y → ((t u : Settings) → R t u → Both R (k t) (k u)) → Both R (and_then x k) (and_then y k)
  then_both (refused k) (refused m) f h g = h
  then_both (refused k) (given u) f h g = absurd h
  then_both (given t) (refused m) f h g = absurd h
  then_both (given t) (given u) f h g = g t u h

  entries_both : (f : ℕ) (s : List ℕ) (site : ℕ) (t u : Settings) → R t u → Both R (entries_in f s site t) (entries_in f s site u)
  unfolding entries_in functions_of
  entries_both zero s site t u h = refl
  entries_both (suc f) [] site t u h = h
  entries_both (suc f) (hi ∷ []) site t u h = refl
  entries_both (suc f) (hi ∷ lo ∷ []) site t u h = refl
  entries_both (suc f) (hi ∷ lo ∷ loop ∷ rest) site t u h =
      formed_both (leb loop (length rest)) _ _
      (then_both (functions_of (addressed site (be16 hi lo)) (take loop rest) t) (functions_of (addressed site (be16 hi lo)) (take loop rest) u) _
      (functions_both (suc (length (take loop rest))) (addressed site (be16 hi lo)) (take loop rest) t u h)
      (λ x y g. entries_both f (drop loop rest) site x y g))

  pub settings_both : (s : List ℕ) (site : ℕ) (t u : Settings) → R t u → Both R (settings_of s site t) (settings_of s site u)
  unfolding settings_of
  settings_both s site t u h = entries_both (suc (length s)) s site t u h

-- the same OD
abbrev pub OneOd : Settings → Settings → Type 0
OneOd t u = t.od ≡ u.od

pub od_kept : (tag : ℕ) (body : List ℕ) (t u : Settings) → OneOd t u → OneOd (set_by tag body t) (set_by tag body u)
unfolding set_by
od_kept tag body t u h = pair OneOd (eqb tag 0) refl (pair OneOd (eqb tag 1) h (pair OneOd (eqb tag 2) h h))
