-- Places and labels modulo n, for any n: where a cadence ends, and how far a count may go without passing its end.
use mathlib.Core.Path.{◌≡◌, refl, sym, ap, ◌∙◌}
use mathlib.Core.Bool.{Bool, true, false, false≢true}
use Prim.Native.Nat.{ℕ, zero, suc, ◌+◌, ◌*◌, ◌-◌, ◌/◌, ◌%◌, ◌≤◌, ◌<◌}
use native.Mathlib.Nat.{div-add-mod', mod-lt, mod-add-mod, mod_self, mod-eq_of_lt, mul-mod_left, lt_of_mul-lt-mul_right, mul-le-mul_right}
use native.Mathlib.Omega.{arith}
use lib.IntN.{ℤ, pos, negsuc, ◌-ℤ◌}
use lib.Dec.{eqb, leb, ltb}
use borrow.Author.Tests.{ltb-true, eqb-true, eqb-false, eq-eqb, ne_eqb}
use Rattle.times.specs.Whole.{residue}
use Rattle.times.proofs.Whole.{Diff, natural, difference, residue_is, residue_only}
use Rattle.state.specs.Sound.{is_zero}
use Rattle.wire.proofs.Tests.{both}

-- a whole number that is 0 is the difference of equals
pub equal_of_zero : (z : ℤ) {a b : ℕ} → Diff z a b → is_zero z ≡ true → a ≡ b
unfolding is_zero
equal_of_zero (pos k) d e = omega (arith, ltb-true k 1 (both (leb 0 k) (ltb k 1) e).1)
equal_of_zero (negsuc k) d e = absurd (false≢true e)

-- a and b have one label exactly when a − b is a multiple of n
pub one_label : (n : ℕ) → 0 < n → (z : ℤ) {a b : ℕ} → Diff z a b → eqb (a % n) (b % n) ≡ eqb (residue n z) 0
one_label n some z {a} {b} d = go (eqb (residue n z) 0) refl
  where
    go : (t : Bool) → eqb (residue n z) 0 ≡ t → eqb (a % n) (b % n) ≡ t
    go true e = eq-eqb (a % n) (b % n) (sym (ap (λ (x : ℕ). x % n) (omega (arith, eqb-true (residue n z) 0 e)) ∙ residue_is some d))
    go false e = ne_eqb (a % n) (b % n) (λ q. eqb-false _ _ e (residue_only some d 0 some (ap (λ (x : ℕ). x % n) (omega arith) ∙ sym q)))

-- the label of a place b that lags the place a by a − b: a's label less a − b, modulo n
pub label_behind : (n : ℕ) → 0 < n → (z : ℤ) {a b : ℕ} → Diff z a b → b % n ≡ residue n (pos (a % n) -ℤ z)
label_behind n some z {a} {b} d =
    sym (residue_only some (difference (natural (a % n)) d) (b % n) (mod-lt b some)
    (mod-add-mod b n (0 + a) ∙ ap (λ (x : ℕ). x % n) (omega arith) ∙ sym (mod-add-mod a n b)))

module _ (n place cadence : ℕ) (some : 0 < n) (after : cadence * n < place) (till : place ≤ suc cadence * n) where
  -- label 0 is where the next cadence begins
  pub ends : place % n ≡ 0 → place / n ≡ suc cadence
  ends e =
      let lower : cadence < place / n = lt_of_mul-lt-mul_right n (omega (arith, div-add-mod' place n)) in
      let upper : place / n < suc (suc cadence) = lt_of_mul-lt-mul_right n (omega (arith, div-add-mod' place n)) in
      omega arith

  -- any other label is before the end
  pub short : (place % n ≡ 0 → ⊥) → place + 1 ≤ suc cadence * n
  short f =
      let g : place ≡ suc cadence * n → ⊥ = λ e. f (ap (λ (x : ℕ). x % n) e ∙ mul-mod_left (suc cadence) n) in
      omega arith

  -- k more do not pass the end, if there are k before the next mark
  pub stays : (k : ℕ) → k ≤ (n - place % n) % n → place + k ≤ suc cadence * n
  stays k h = go (place % n) refl
    where
      go : (r : ℕ) → place % n ≡ r → place + k ≤ suc cadence * n
      go zero z =
          let h' : k ≤ (n - 0) % n = rw z at h in
          let e : n - 0 ≡ n = omega arith in
          omega (arith, mod_self n, ap (λ (x : ℕ). x % n) e)
      go (suc r) z =
          let h' : k ≤ (n - suc r) % n = rw z at h in
          let less : n - suc r < n = omega (arith, mod-lt place some) in
          let row : place / n < suc cadence = lt_of_mul-lt-mul_right n (omega (arith, div-add-mod' place n)) in
          omega (arith, div-add-mod' place n, mul-le-mul_right n row, mod-lt place some, mod-eq_of_lt less)
