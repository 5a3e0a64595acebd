-- A turn of eight bytes keeps the invariant, so does a turn of one, and no byte is left at the end.
use Rattle.std.proofs.Common.{◌≡◌, ◌∙◌, refl, ap, ap₂, subst, arith, ℕ, List, drop, get_or, ◌+◌, ◌*◌, ◌/◌, ◌%◌, ◌^◌, ◌≤◌, length}
use Rattle.std.specs.Int.{w64, from_be_bytes}
use Rattle.std.specs.Int.Bits.{bit_xor}
use Rattle.check_value.specs.Register.{register}
use Rattle.check_value.proofs.Turns.{Reached, at_end, after_byte, after_eight, chunk}
use Rattle.check_value.proofs.register_of.Goals as goal

pub loop-eight-init : goal.loop-eight-init
unfolding register
loop-eight-init c = record { fits = omega arith; ends = refl }

pub loop-eight-preserved : goal.loop-eight-preserved
loop-eight-preserved c =
    let s = c.args.s.now in
    let j = c.loop-eight.eight-index in
    let top : c.from.result * 2 ^ 32 % 2 ^ 64 ≡ c.loop-eight.z * 2 ^ 32 = omega (arith, c.from.ensures, c.loop-eight.invariant.fits) in
    let inside : 8 * j + 8 ≤ length s = omega (arith, c.as_chunks.ensures.front_len, c.loop-eight-test.true) in
    let bytes = ap (λ (l : List (List ℕ)). get_or l j _) c.as_chunks.ensures.front ∙ chunk (length s / 8) j s _ (omega arith) in
    let x = ap₂ bit_xor top (c.from_be_bytes.ensures ∙ ap (from_be_bytes w64) bytes) in
    let next : 8 * j + 8 ≡ 8 * (j + 1) = omega arith in
    let r = after_eight s s c.loop-eight.z (8 * j) _ _ (λ k. omega (arith, c.type_inv.s k)) inside x c.eight_in-z.ensures c.loop-eight.invariant in
    subst (λ (i : ℕ). Reached s (drop i s) c.eight_in-z.result) next r

pub loop-b-preserved : goal.loop-b-preserved
loop-b-preserved c = after_byte _ _ c.loop-b.z c.loop-b.b-index _ c.loop-b-test.true c.byte_in-z.ensures c.loop-b.invariant

pub returns : goal.returns
returns c = at_end _ _ c.loop-b.z c.loop-b.b-index c.loop-b-test.false c.loop-b.invariant
