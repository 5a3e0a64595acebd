-- One function off the front of a loop, and one entry off the front of a field: what is left to do is the same walk over the rest.
use mathlib.Core.Path.{◌≡◌, refl, ap}
use mathlib.Core.Bool.{Bool, true, false, cond}
use mathlib.Core.List.{List, [], ◌∷◌}
use Prim.Native.Nat.{ℕ, zero, suc, ◌-◌, ◌≤◌, ◌<◌}
use native.Mathlib.Omega.{arith}
use lib.ListN.{length, take, drop, get_or, length-drop}
use Rattle.std.proofs.lemmas.List.{take_all}
use lib.Dec.{eqb, leb}
use borrow.Author.Tests.{le-leb, lt-leb}
use Rattle.std.specs.List.{IsSplitAt}
use Rattle.wire.specs.Reply.{Reply, refused, given}
use Rattle.wire.specs.BigEndian.{be16_at, be16}
use Rattle.addressing.specs.declared.Settings.{Settings}
use Rattle.addressing.specs.Functions.{length_fits, set_by, formed, functions_in, functions_of}
use Rattle.addressing.specs.Entries.{addressed, and_then, entries_in, settings_of}

-- more turns than bytes are all alike
functions_enough : (f g : ℕ) (on : Bool) (s : List ℕ) (t : Settings) → length s < f → length s < g → functions_in f on s t ≡ functions_in g on s t
unfolding functions_in
functions_enough zero g on s t h k = absurd (omega arith)
functions_enough (suc f) zero on s t h k = absurd (omega arith)
functions_enough (suc f) (suc g) on [] t h k = refl
functions_enough (suc f) (suc g) on (tag ∷ []) t h k = refl
functions_enough (suc f) (suc g) on (tag ∷ n ∷ rest) t h k =
    ap (λ (r : Reply Settings). formed (length_fits tag n) (formed (leb (n - 2) (length rest)) r))
    (functions_enough f g on (drop (n - 2) rest) (cond on (set_by tag (take (n - 2) rest) t) t)
    (omega (arith, length-drop (n - 2) rest)) (omega (arith, length-drop (n - 2) rest)))

none : (a b c : Bool) → cond a false (cond b false (cond c false false)) ≡ false
none true b c = refl
none false true c = refl
none false false true = refl
none false false false = refl

-- every function counts its tag and its length
unfit : (tag n : ℕ) → n < 2 → length_fits tag n ≡ false
unfolding length_fits
unfit tag zero h = none (eqb tag 0) (eqb tag 1) (eqb tag 2)
unfit tag (suc zero) h = none (eqb tag 0) (eqb tag 1) (eqb tag 2)
unfit tag (suc (suc n)) h = absurd (omega arith)

pub at_least : (tag n : ℕ) → length_fits tag n ≡ true → 2 ≤ n
at_least tag n e = grind (arith, unfit)

-- what has its form goes on
formed_on : (b : Bool) (r : Reply Settings) (k : Settings → Reply Settings) → and_then (formed b r) k ≡ formed b (and_then r k)
formed_on true r k = refl
formed_on false r k = refl

module _ (on : Bool) (t : Settings) where
  functions_turn : (tag n : ℕ) (rest : List ℕ)
      → functions_of on (tag ∷ n ∷ rest) t
      ≡ formed (length_fits tag n) (formed (leb (n - 2) (length rest)) (functions_of on (drop (n - 2) rest) (cond on (set_by tag (take (n - 2) rest) t) t)))
  unfolding functions_in functions_of
  functions_turn tag n rest =
      ap (λ (r : Reply Settings). formed (length_fits tag n) (formed (leb (n - 2) (length rest)) r))
      (functions_enough (length (tag ∷ n ∷ rest)) (suc (length (drop (n - 2) rest))) on (drop (n - 2) rest) (cond on (set_by tag (take (n - 2) rest) t) t)
      (omega (arith, length-drop (n - 2) rest)) (omega arith))

  pub functions_done : (s : List ℕ) → length s ≡ 0 → functions_of on s t ≡ given t
  unfolding functions_in functions_of
  functions_done [] h = refl
  functions_done (a ∷ s) h = absurd (omega arith)

  pub functions_cut : (s : List ℕ) → 0 < length s → length s < 2 → functions_of on s t ≡ refused 10
  unfolding functions_in functions_of
  functions_cut [] h k = absurd (omega arith)
  functions_cut (tag ∷ []) h k = refl
  functions_cut (tag ∷ n ∷ rest) h k = absurd (omega arith)

  pub functions_over : (s : List ℕ) → 2 ≤ length s → length s < get_or s 1 0 → functions_of on s t ≡ refused 10
  functions_over [] h l = absurd (omega arith)
  functions_over (tag ∷ []) h l = absurd (omega arith)
  functions_over (tag ∷ n ∷ s) h l = rw (functions_turn tag n s, lt-leb (n - 2) (length s) (omega arith)) (either (length_fits tag n))
    where
      either : (b : Bool) → formed {A = Settings} b (refused 10) ≡ refused 10
      either true = refl
      either false = refl

  -- what the first function tells goes on where it applies
  pub functions_on : (s function rest : List ℕ) (r : Reply Settings) → 2 ≤ length s → IsSplitAt s (get_or s 1 0) function rest
      → r ≡ formed (length_fits (get_or function 0 0) (length function)) (given (set_by (get_or function 0 0) (drop 2 function) t))
      → functions_of on s t ≡ and_then r λ u. functions_of on rest (cond on u t)
  functions_on [] function rest r h p e = absurd (omega arith)
  functions_on (tag ∷ []) function rest r h p e = absurd (omega arith)
  functions_on (tag ∷ zero ∷ s) function rest r h p e = rw (functions_turn tag 0 s, e, p.1, unfit tag 0 (omega arith), unfit 0 0 (omega arith)) refl
  functions_on (tag ∷ suc zero ∷ s) function rest r h p e = rw (functions_turn tag 1 s, e, p.1, unfit tag 1 (omega arith)) refl
  functions_on (tag ∷ suc (suc m) ∷ s) function rest r h p e =
      let k : suc (suc m) - 2 ≡ m = omega arith in
      rw (functions_turn tag (suc (suc m)) s, e, p.3, p.1, p.2, k, le-leb m (length s) (omega arith), formed_on) refl

-- what follows is alike where what is given goes on alike
then_alike : (x : Reply Settings) (k l : Settings → Reply Settings) → ((a : Settings) → k a ≡ l a) → and_then x k ≡ and_then x l
then_alike (refused n) k l h = refl
then_alike (given a) k l h = h a

entries_enough : (f g : ℕ) (s : List ℕ) (site : ℕ) (t : Settings) → length s < f → length s < g → entries_in f s site t ≡ entries_in g s site t
unfolding entries_in
entries_enough zero g s site t h k = absurd (omega arith)
entries_enough (suc f) zero s site t h k = absurd (omega arith)
entries_enough (suc f) (suc g) [] site t h k = refl
entries_enough (suc f) (suc g) (hi ∷ []) site t h k = refl
entries_enough (suc f) (suc g) (hi ∷ lo ∷ []) site t h k = refl
entries_enough (suc f) (suc g) (hi ∷ lo ∷ n ∷ rest) site t h k =
    ap (formed (leb n (length rest)))
    (then_alike (functions_of (addressed site (be16 hi lo)) (take n rest) t) _ _ λ u.
    entries_enough f g (drop n rest) site u (omega (arith, length-drop n rest)) (omega (arith, length-drop n rest)))

module _ (site : ℕ) (t : Settings) where
  entries_turn : (hi lo n : ℕ) (rest : List ℕ)
      → settings_of (hi ∷ lo ∷ n ∷ rest) site t
      ≡ formed (leb n (length rest)) (and_then (functions_of (addressed site (be16 hi lo)) (take n rest) t) λ u. settings_of (drop n rest) site u)
  unfolding entries_in settings_of
  entries_turn hi lo n rest =
      ap (formed (leb n (length rest)))
      (then_alike (functions_of (addressed site (be16 hi lo)) (take n rest) t) _ _ λ u.
      entries_enough (length (hi ∷ lo ∷ n ∷ rest)) (suc (length (drop n rest))) (drop n rest) site u (omega (arith, length-drop n rest)) (omega arith))

  pub entries_done : (s : List ℕ) → length s ≡ 0 → settings_of s site t ≡ given t
  unfolding entries_in settings_of
  entries_done [] h = refl
  entries_done (a ∷ s) h = absurd (omega arith)

  pub entries_cut : (s : List ℕ) → 0 < length s → length s < 3 → settings_of s site t ≡ refused 10
  unfolding entries_in settings_of
  entries_cut [] h k = absurd (omega arith)
  entries_cut (hi ∷ []) h k = refl
  entries_cut (hi ∷ lo ∷ []) h k = refl
  entries_cut (hi ∷ lo ∷ n ∷ rest) h k = absurd (omega arith)

  pub entries_over : (s : List ℕ) → 3 ≤ length s → length s - 3 < get_or s 2 0 → settings_of s site t ≡ refused 10
  entries_over [] h l = absurd (omega arith)
  entries_over (hi ∷ []) h l = absurd (omega arith)
  entries_over (hi ∷ lo ∷ []) h l = absurd (omega arith)
  entries_over (hi ∷ lo ∷ n ∷ rest) h l = rw (entries_turn hi lo n rest, lt-leb n (length rest) (omega arith)) refl

  -- what the functions of the first entry give goes on
  pub entries_on : (s entry rest : List ℕ) (r : Reply Settings) → 3 ≤ length s → IsSplitAt (take (length s - 3) (drop 3 s)) (get_or s 2 0) entry rest
      → r ≡ functions_of (addressed site (be16_at s 0)) entry t → settings_of s site t ≡ and_then r λ u. settings_of rest site u
  entries_on [] entry rest r h p e = absurd (omega arith)
  entries_on (hi ∷ []) entry rest r h p e = absurd (omega arith)
  entries_on (hi ∷ lo ∷ []) entry rest r h p e = absurd (omega arith)
  entries_on (hi ∷ lo ∷ n ∷ s) entry rest r h p e =
      let x : IsSplitAt s n entry rest = rw (take_all (length (hi ∷ lo ∷ n ∷ s) - 3) s (omega arith)) at p in
      rw (entries_turn hi lo n s, le-leb n (length s) x.0, ← x.1, ← x.2, ← e) refl

pub ruleset functions_turns = (functions_done, functions_cut, functions_over)

pub ruleset entries_turns = (entries_done, entries_cut, entries_over)
