-- Laws of decimal text: one digit, one digit more, how many there are; and that it spells its number with no zero in front.
use mathlib.Core.Path.{◌≡◌, refl, ap, ◌∙◌}
use mathlib.Core.Bool.{Bool, true, false}
use mathlib.Core.List.{List, [], ◌∷◌, ◌++◌}
use Prim.Native.Nat.{ℕ, zero, suc, ◌+◌, ◌-◌, ◌*◌, ◌/◌, ◌%◌, ◌≤◌, ◌<◌}
use native.Mathlib.Omega.{arith}
use lib.Dec.{ltb}
use lib.ListN.{length, get_or, length-append, get_or-append}
use borrow.Author.Tests.{lt-ltb, le-ltb, ltb-true, ltb-false}
use Rattle.std.proofs.Common.{rules, sym}
use Rattle.std.specs.Fmt as std
use Rattle.std.proofs.lemmas.Fmt.{AppendsLastDigit, decimal_from_appends, length-decimal-le, length-decimal-le_succ}
use Rattle.text.specs.Decimal.{digit, decimal_in, decimal, most_digits}

-- the digits do not depend on how many are allowed, once there are enough
same_step : (j k n : ℕ) (b : Bool) → ltb n 10 ≡ b → (b ≡ false → decimal_in j (n / 10) ≡ decimal_in k (n / 10))
    → decimal_in (suc j) n ≡ decimal_in (suc k) n
unfolding decimal_in
same_step j k n true e rest = rw e
same_step j k n false e rest = rw (e, rest refl)

same_digits : (j k n : ℕ) → n < j → n < k → decimal_in j n ≡ decimal_in k n
same_digits zero k n h l = absurd (omega arith)
same_digits (suc j) zero n h l = absurd (omega arith)
same_digits (suc j) (suc k) n h l =
    same_step j k n (ltb n 10) refl (λ e. let m : 10 ≤ n = ltb-false n 10 e in same_digits j k (n / 10) (omega arith) (omega arith))

-- one digit, and one digit more
pub decimal_one : (n : ℕ) → n < 10 → decimal n ≡ digit n ∷ []
unfolding decimal decimal_in
decimal_one n h = rw (lt-ltb n 10 h)

pub decimal_more : (n : ℕ) → 10 ≤ n → decimal n ≡ decimal (n / 10) ++ digit (n % 10) ∷ []
unfolding decimal decimal_in
decimal_more n h =
    rw (le-ltb n 10 h) (ap (λ (l : List ℕ). l ++ digit (n % 10) ∷ []) (same_digits n (suc (n / 10)) (n / 10) (omega arith) (omega arith)))

-- a proof by digits: of one digit, and of one more
module _ (P : ℕ → Type 0) (one : (n : ℕ) → n < 10 → P n) (more : (n : ℕ) → 10 ≤ n → P (n / 10) → P n) where
  by_test : (n : ℕ) (b : Bool) → ltb n 10 ≡ b → (10 ≤ n → P (n / 10)) → P n
  by_test n true e rest = one n (ltb-true n 10 e)
  by_test n false e rest = let h : 10 ≤ n = ltb-false n 10 e in more n h (rest h)

  below : (k n : ℕ) → n < k → P n
  below zero n h = absurd (omega arith)
  below (suc k) n h = by_test n (ltb n 10) refl (λ m. below k (n / 10) (omega arith))

  pub by_digits : (n : ℕ) → P n
  by_digits n = below (suc n) n (omega arith)

-- one digit more is one byte more
pub length_more : (n : ℕ) → 10 ≤ n → length (decimal n) ≡ length (decimal (n / 10)) + 1
length_more n h = ap length (decimal_more n h) ∙ length-append (decimal (n / 10)) (digit (n % 10) ∷ [])

pub length_one : (n : ℕ) → n < 10 → length (decimal n) ≡ 1
length_one n h = ap length (decimal_one n h)

pub not_empty : (n : ℕ) → 1 ≤ length (decimal n)
not_empty =
    by_digits (λ (n : ℕ). 1 ≤ length (decimal n)) (λ n h. omega (arith, length_one n h)) (λ n h e. omega (arith, length_more n h))

-- the library's decimal text of a number of 64 bits is the same
appends : AppendsLastDigit decimal_in
unfolding decimal_in
appends = search rules

pub decimal_is : (n : ℕ) → n < 18_446_744_073_709_551_616 → std.decimal n ≡ decimal n
unfolding decimal
decimal_is n h = sym (decimal_from_appends decimal_in appends (suc n) n h (omega (arith, length-decimal-le_succ n h)))

-- of 64 bits
pub at_most_digits : (n : ℕ) → n < 18_446_744_073_709_551_616 → length (decimal n) ≤ most_digits
at_most_digits n h = rw (← decimal_is n h) (length-decimal-le 20 n (omega arith) (omega arith) h)

-- the number that digits spell
unfoldable pub spelled_from : ℕ → List ℕ → ℕ
spelled_from n [] = n
spelled_from n (d ∷ rest) = spelled_from (n * 10 + (d - 48)) rest

spelled_last : (n : ℕ) (l : List ℕ) (d : ℕ) → spelled_from n (l ++ d ∷ []) ≡ spelled_from n l * 10 + (d - 48)
unfolding spelled_from
spelled_last n [] d = refl
spelled_last n (x ∷ l) d = spelled_last (n * 10 + (x - 48)) l d

spelled_one : (n : ℕ) → n < 10 → spelled_from 0 (decimal n) ≡ n
unfolding spelled_from
spelled_one n h = ap (spelled_from 0) (decimal_one n h) ∙ omega arith

-- decimal text spells its number
pub decimal_exact : (n : ℕ) → spelled_from 0 (decimal n) ≡ n
decimal_exact =
    by_digits (λ (n : ℕ). spelled_from 0 (decimal n) ≡ n) spelled_one
    (λ n h e. ap (spelled_from 0) (decimal_more n h) ∙ spelled_last 0 (decimal (n / 10)) (digit (n % 10)) ∙ omega arith)

-- and begins with a zero only where it is 0
pub no_leading_zero : (n : ℕ) → 0 < n → 48 < get_or (decimal n) 0 0
no_leading_zero =
    by_digits (λ (n : ℕ). 0 < n → 48 < get_or (decimal n) 0 0)
    (λ n h p. omega (arith, ap (λ (l : List ℕ). get_or l 0 0) (decimal_one n h)))
    (λ n h e p.
    omega
    (arith, e (omega arith), ap (λ (l : List ℕ). get_or l 0 0) (decimal_more n h), get_or-append (decimal (n / 10)) (digit (n % 10) ∷ []) 0 0 (omega (arith, not_empty (n / 10)))))
