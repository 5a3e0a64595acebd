-- Bytes put over other bytes: what fits, what does not, and pieces put one behind the other.
use mathlib.Core.Path.{◌≡◌, sym, ap, ap₂, ◌∙◌}
use mathlib.Core.List.{List, ◌++◌}
use Prim.Native.Nat.{ℕ, ◌+◌, ◌≤◌, ◌<◌}
use lib.ListN.{length, take, drop}
use borrow.Author.Tests.{le-leb, lt-leb}
use Rattle.wire.specs.Put.{put_at}
use lib.Seq.{take_at, drop-append-add, drop-drop}

pub put_fits : (d : List ℕ) (at : ℕ) (s : List ℕ) → at + length s ≤ length d → put_at d at s ≡ take at d ++ s ++ drop (at + length s) d
unfolding put_at
put_fits d at s h = rw (le-leb (at + length s) (length d) h)

pub put_over : (d : List ℕ) (at : ℕ) (s : List ℕ) → length d < at + length s → put_at d at s ≡ d
unfolding put_at
put_over d at s h = rw (lt-leb (at + length s) (length d) h)

-- p stands at the front of d, up to `at`; x is put right behind it
pub put_behind : (p x d : List ℕ) (at : ℕ) → length p ≡ at
    → take at (p ++ drop at d) ++ x ++ drop (at + length x) (p ++ drop at d) ≡ p ++ x ++ drop (at + length x) d
put_behind p x d at e =
    let rest : drop (at + length x) (p ++ drop at d) ≡ drop (at + length x) d =
    ap (λ (n : ℕ). drop (n + length x) (p ++ drop at d)) (sym e)
    ∙ drop-append-add p (drop at d) (length x)
    ∙ drop-drop (length x) at d in
    ap₂ (λ (a b : List ℕ). a ++ x ++ b) (take_at p (drop at d) at e) rest
