-- Each call of the closure reads the next byte of the same rest.
use Rattle.std.proofs.Common.{rules, ◌≡◌, ◌+◌, ◌<◌, List, get_or, ℕ, zero, suc, arith}
use Rattle.std.specs.Array.{IsFromFnResultFrom}
use denote.Param.Members.{Mut, Called}
use Rattle.std.proofs.lemmas.Grind.{common_steps}
use Rattle.wire.proofs.bytes_at.Goals as goal

-- what each call from any state on gives, all of them give
module _ {F : Type 0} (g : Mut F (ℕ × Unit {0}) ℕ) (s : F → List ℕ) where
  each : ((p : F) (i y : ℕ) (q : F) → Called g p (i, tt) y q → (y ≡ get_or (s p) i 0) × (s q ≡ s p)) → (n i : ℕ) (p : F) (ys : List ℕ)
      → IsFromFnResultFrom g p ys i n → (k j : ℕ) → k < n → j ≡ i + k → get_or ys j 0 ≡ get_or (s p) j 0
  each step zero i p ys r k j h e = absurd (omega arith)
  each step (suc n) i p ys (q, y, is, c, r) zero j h e =
      let t = (step p i y q c).0 in
      let u = is.1 0 in
      grind arith
  each step (suc n) i p ys (q, y, is, c, r) (suc k) j h e =
      let t = (step p i y q c).1 in
      let l = each step n (i + 1) q ys r k j (omega arith) (omega arith) in
      rw t at l

pub returns : goal.returns
returns g c i lt =
    let r = c.from_fn.ensures.items in
    let l = each _ (λ p. p.0.now) (λ p i y q h. (search rules, search rules)) _ 0 _ _ r.each i i (omega (arith, r.long)) (omega arith) in
    grind (arith, common_steps)
