-- Laws of tests, and of a chain of refusals: what each test of the code says of the chain, and what a chain that gives no number has passed.
use mathlib.Core.Path.{◌≡◌, refl, ap}
use mathlib.Core.Bool.{Bool, true, false, cond, ◌&&◌}
use mathlib.Core.List.{List}
use Prim.Native.Nat.{ℕ, zero, suc}
use native.Mathlib.Omega.{arith}
use Rattle.wire.specs.Reply.{given, must, reply, kept_by, filled}

-- both sides of a conjunction, and back
pub both : (a b : Bool) → (a && b) ≡ true → (a ≡ true) × (b ≡ true)
both true b e = (refl, e)
both false b e = (e, cc)

pub join : {a b : Bool} → a ≡ true → b ≡ true → (a && b) ≡ true
join e f = rw (e, f)

-- what holds of either branch holds of the choice
pub pick : {X : Type 0} (P : X → Type 0) (b : Bool) (x y : X) → P x → P y → P (cond b x y)
pick P true x y p q = p
pick P false x y p q = q

pub split : {X : Type 0} (P : X → Type 0) (b : Bool) (x y : X) → (b ≡ true → P x) → (b ≡ false → P y) → P (cond b x y)
split P true x y p q = p refl
split P false x y p q = q refl

pub pair : {X : Type 0} (R : X → X → Type 0) (b : Bool) {x x' y y' : X} → R x x' → R y y' → R (cond b x y) (cond b x' y')
pair R true p q = p
pair R false p q = q

-- a choice whose test is known
pub yes : {X : Type 0} (b : Bool) (x y : X) → b ≡ true → cond b x y ≡ x
yes b x y e = rw e

pub no : {X : Type 0} (b : Bool) (x y : X) → b ≡ false → cond b x y ≡ y
no b x y e = rw e

-- a chain that gives 0 has passed its first test, and the rest gives 0
pub passed : (b : Bool) (n rest : ℕ) → must b (suc n) rest ≡ 0 → (b ≡ true) × (rest ≡ 0)
passed true n rest e = (refl, e)
passed false n rest e = absurd (omega arith)

-- no number gives, any other refuses
pub reply_gives : {A : Type 0} (n : ℕ) (a : A) → n ≡ 0 → reply n a ≡ given a
reply_gives n a e = ap (λ (k : ℕ). reply k a) e

-- what was given had no number against it
pub given_zero : {A : Type 0} (n : ℕ) (a b : A) → reply n a ≡ given b → (n ≡ 0) × (a ≡ b)
given_zero zero a b e = (refl, cc)
given_zero (suc n) a b e = let z : ◌≡◌ {A = ℕ} 0 1 = cc in absurd (omega arith)

-- where there is no number the new is kept, and an output filled
pub kept_new : {A : Type 0} (n : ℕ) (old new : A) → n ≡ 0 → kept_by n old new ≡ new
kept_new n old new e = ap (λ (k : ℕ). kept_by k old new) e

pub given_output : (n : ℕ) (old new : List ℕ) → n ≡ 0 → filled n old new ≡ record { reply = given tt; bytes = new }
given_output n old new e = ap (λ (k : ℕ). filled k old new) e
