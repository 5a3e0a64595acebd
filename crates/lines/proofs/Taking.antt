-- A piece that stands in a buffer: its records are handled, and what is left of it is carried to the front.
use mathlib.Core.Path.{◌≡◌, ap, ◌∙◌, subst}
use mathlib.Core.List.{List, ◌++◌}
use Prim.Native.Nat.{ℕ, ◌-◌, ◌≤◌, min}
use native.Mathlib.Nat.{zero-add}
use native.Mathlib.Omega.{arith}
use lib.ListN.{length, take, drop, length-drop}
use lib.Seq.{length-take-le}
use Rattle.std.specs.List.{copy_within}
use Rattle.std.proofs.lemmas.List.{take_min}
use Rattle.std.proofs.lemmas.Slice.{between_is}
use Rattle.state.specs.declared.Slave.{Slave}
use Rattle.text.specs.Puts.{Fronts}
use Rattle.text.proofs.Putting.{refront}
use Rattle.lines.specs.Pieces.{handled_in, Piece, Handled, TakesPiece}

-- the bytes from `from` to `to` carried to the front
pub carried : (d : List ℕ) (from to : ℕ) → from ≤ to → to ≤ length d → Fronts (drop from (take to d)) d (copy_within d from to 0) (to - from)
carried d from to h within =
    let part : take (to - from) (drop from d) ≡ drop from (take to d) = between_is d from to in
    let len : to - from ≡ length (drop from (take to d)) = omega (arith, length-drop from (take to d), length-take-le to d within) in
    record { bytes = (λ j. part j ++ drop (zero-add (to - from) j) d) ∙ ap (λ (n : ℕ). drop from (take to d) ++ drop n d) len; ends = len }

-- a piece in the first n bytes of a buffer is handled, and what is left of it carried to the front
pub piece_taken : (n : ℕ) {s : Slave} {number e : ℕ} {d d' out out' : List ℕ} {p : Piece} {held : ℕ} → e ≡ min n (length d)
    → Handled s number (take e d) (handled_in (length (take e d)) (length out) number) out out' p
    → Fronts (drop p.used (take e d)) d d' held
    → TakesPiece s number n d d' out out' (record { slave = p.slave; number = p.number; filled = p.filled; held = held })
piece_taken n {s} {number} {e} {d} {d'} {out} {out'} {p} least handled front =
    let same : take e d ≡ take n d = ap (λ (k : ℕ). take k d) least ∙ take_min n d in
    let h = subst (λ (x : List ℕ). Handled s number x (handled_in (length x) (length out) number) out out' p) same handled in
    record { slave = h.slave; next = h.next; lines = h.lines; rest = refront (λ j. drop (h.used j) (same j)) front }
